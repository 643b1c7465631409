-- The assets of a legal history are numbered in the order in which they are acquired.
use Rattle.std.proofs.Common.{◌≡◌, ℕ, ◌+◌, Bool, true, false, if◌then◌else◌, ◌==◌, List, [], ◌∷◌, length, option_to_list, refl, ap, arith, filter}
use Rattle.cf_base.specs.declared.calendar.Day.{Day}
use Rattle.cf_calls.specs.declared.acts.Act.{Act}
use Rattle.cf_calls.specs.declared.acts.Act.TheVariants as act
use Rattle.cf_calls.specs.declared.acts.AssetAct.TheVariants.{Donate, Dispose}
use Rattle.cf_calls.specs.declared.entry.Drawn.{Drawn}
use Rattle.cf_calls.specs.declared.entry.Entry.{Entry}
use Rattle.cf_calls.specs.declared.items.VoucherItem.{VoucherItem}
use Rattle.cf_chart.specs.Common.{Plan, object_at}
use Rattle.cf_model.specs.Common.{Asset, asset_step, assets_by, bought, disposed, new_asset, void, voucher_of, purchase, life_of, document_year, year_of_day, is_capital, is_number, asset_at, Registers, registers_of, registers_step, draws, IsLegal}
use Rattle.cf_model.proofs.Numbered.{AreNumbered, named_once, numbered_always, numbered_step}

abbrev AreAssets : ℕ → List Asset → Type 0
AreAssets n assets = AreNumbered (λ (a : Asset). a.number) n assets

-- no act changes an asset's number
number_kept : (plan : Plan) (closed : ℕ) (on : Day) (a : Act) (x : Asset) → (asset_step plan closed on a x).number ≡ x.number
number_kept plan closed on (act.VoidVoucher n) x = by_test (is_number (voucher_of x.origin) n)
  where
    by_test : (t : Bool) → (if t then record x { stage = void } else x).number ≡ x.number
    by_test true = refl
    by_test false = refl
number_kept plan closed on (act.Asset (Dispose d)) x = by_test (x.number == d.asset)
  where
    by_test : (t : Bool) → (if t then record x { stage = disposed (year_of_day plan on) closed } else x).number ≡ x.number
    by_test true = refl
    by_test false = refl
number_kept plan closed on _ x = refl

-- a voucher draws the next numbers, one for each item on a capital object
bought_numbered : (plan : Plan) (voucher : ℕ) (on : Day) (year n number : ℕ) (items : List VoucherItem) → number ≡ n + 1 → AreAssets n (bought plan voucher on year number items)
bought_numbered plan voucher on year n number [] is = tt
bought_numbered plan voucher on year n number (i ∷ items) is =
    by_test (is_capital (object_at plan i.account.object)) (bought_numbered plan voucher on year (n + 1) (number + 1) items (omega (arith, is))) (bought_numbered plan voucher on year n number items is)
  where
    by_test : (t : Bool) → AreAssets (n + 1) (bought plan voucher on year (number + 1) items) → AreAssets n (bought plan voucher on year number items) →
        AreAssets n (if t then new_asset plan (purchase voucher) on year number i.account.dept (life_of plan i.account.object) i.account.amount ∷ bought plan voucher on year (number + 1) items else bought plan voucher on year number items)
    by_test true next stay = (is, next)
    by_test false next stay = stay

numbered_new : (plan : Plan) (s : Registers) (on : Day) (a : Act) (drawn : Drawn) → drawn ≡ draws s a → AreAssets (length s.assets) (assets_by plan on a drawn)
numbered_new plan s on (act.Voucher v) drawn e =
    bought_numbered plan drawn.number on (document_year plan on (act.Voucher v)) (length s.assets) drawn.second v.items (ap (λ (d : Drawn). d.second) e)
numbered_new plan s on (act.Asset (Donate d)) drawn e = (ap (λ (d : Drawn). d.number) e, tt)
numbered_new plan s on (act.Asset (Dispose d)) drawn e = tt
numbered_new plan s on (act.Lease l) drawn e = (ap (λ (d : Drawn). d.number) e, tt)
numbered_new plan s on _ drawn e = tt

-- so a number names at most one
pub assets_named : (plan : Plan) (history : List Entry) → IsLegal plan history → (k : ℕ) →
    filter (λ a. a.number == k) (registers_of plan history).assets ≡ option_to_list (asset_at k (registers_of plan history).assets)
assets_named plan history legal k =
    named_once (λ (a : Asset). a.number) 0 k (registers_of plan history).assets
    (numbered_always (λ (a : Asset). a.number) (λ (s : Registers). s.assets) plan tt after history legal)
  where
    after : (s : Registers) (e : Entry) → e.drawn ≡ draws s e.change.act → AreAssets 0 s.assets → AreAssets 0 (registers_step plan s e).assets
    after s e drawn numbered =
        let on = e.change.on in
        let a = e.change.act in
        numbered_step (λ (x : Asset). x.number) (asset_step plan s.closed on a) (number_kept plan s.closed on a) 0 (length s.assets) s.assets (assets_by plan on a e.drawn)
        (omega arith) numbered (numbered_new plan s on a e.drawn drawn)
