-- What each act makes of assets, as the step of all registers has it.
use Rattle.std.proofs.Common.{◌≡◌, ◌⊎◌, ℕ, zero, suc, ◌≤◌, Bool, true, false, ◌==◌, not, ◌&&◌, nat_le, List, [], ◌∷◌, ◌++◌, map, Option, Some, None, refl, sym, subst, ap, ◌∙◌, arith, filter}
use Rattle.cf_base.proofs.Common.{common_steps, map-id, append-nil}
use Rattle.cf_assets.specs.Register.{Register, IsOf}
use Rattle.cf_assets.specs.Steps.{AreMost}
use Rattle.cf_model.specs.Common.{Day, Act, Donate, Dispose, AssetAct, Disposal, Donation, NewLease, NewVoucher, Period, Drawn, VoucherItem, Refusal, Asset, asset_step, assets_by, voucher_of, is_number, voided_asset, disposed_asset, asset_refusal, Registers, no_registers, amount, bad_amount, first_refusal, refuse_if, or_else}
use Rattle.cf_calls.specs.declared.acts.Act.TheVariants as act
use Rattle.cf_calls.specs.declared.refusal.Refusal.TheVariants as refusal
use Rattle.cf_chart.specs.Common.{Plan}
use Rattle.cf_register_parts.proofs.Acts.{Is}
use Rattle.cf_base.specs.Common.{most_cents}

-- registers with these assets
with_assets : Register → Registers
with_assets r = record no_registers { assets = r.assets; closed = r.closed }

pub void_allowed : (r : Register) (on : Day) (a : Act) (n : ℕ) → a ≡ act.VoidVoucher n → ((s : Registers) → IsOf s r → asset_refusal s on a ≡ None) → first_refusal (voided_asset r.closed) (filter (λ x. is_number (voucher_of x.origin) n) r.assets) ≡ None
unfolding with_assets
void_allowed r on a n is none = subst (λ b. asset_refusal (with_assets r) on b ≡ None) is (none (with_assets r) (record { assets = refl; closed = refl }))

pub dispose_allowed : (r : Register) (on : Day) (a : AssetAct) (d : Disposal) → a ≡ Dispose d → ((s : Registers) → IsOf s r → asset_refusal s on (act.Asset a) ≡ None) → first_refusal (disposed_asset on) (filter (λ x. x.number == d.asset) r.assets) ≡ None
unfolding with_assets
dispose_allowed r on a d is none = subst (λ b. asset_refusal (with_assets r) on (act.Asset b) ≡ None) is (none (with_assets r) (record { assets = refl; closed = refl }))

-- an act that only adds assets
pub adds_only : (plan : Plan) (closed : ℕ) (on : Day) (a : Act) (drawn : Drawn) (assets added : List Asset) → map (asset_step plan closed on a) assets ≡ assets → added ≡ assets_by plan on a drawn →
    assets ++ added ≡ map (asset_step plan closed on a) assets ++ assets_by plan on a drawn
adds_only plan closed on a drawn assets added same is = λ i. sym same i ++ is i

pub voucher_step : (plan : Plan) (closed : ℕ) (on : Day) (a : Act) (v : NewVoucher) (assets : List Asset) → a ≡ act.Voucher v → map (asset_step plan closed on a) assets ≡ assets
voucher_step plan closed on a v assets is = ap (λ b. map (asset_step plan closed on b) assets) is ∙ map-id assets

pub gift_step : (plan : Plan) (closed : ℕ) (on : Day) (a : AssetAct) (d : Donation) (assets : List Asset) → a ≡ Donate d → map (asset_step plan closed on (act.Asset a)) assets ≡ assets
gift_step plan closed on a d assets is = ap (λ b. map (asset_step plan closed on (act.Asset b)) assets) is ∙ map-id assets

pub lease_step : (plan : Plan) (closed : ℕ) (on : Day) (a : Act) (l : NewLease) (assets : List Asset) → a ≡ act.Lease l → map (asset_step plan closed on a) assets ≡ assets
lease_step plan closed on a l assets is = ap (λ b. map (asset_step plan closed on b) assets) is ∙ map-id assets

-- an act of another register
abbrev pub IsOther : Act → Type 0
IsOther a =
    Is act.Adopt a ⊎ (Is act.Amend a ⊎ (Is act.Transfer a ⊎ (Is act.Requisition a ⊎ (Is act.Withdraw a ⊎ (Is act.Order a ⊎ (Is act.ChangeOrder a ⊎ (Is act.CancelOrder a ⊎ (Is act.Pay a
    ⊎ (Is act.Bill a ⊎ (Is act.Collect a ⊎ (Is act.Receive a ⊎ (Is act.WriteOff a ⊎ (Is act.Issue a ⊎ (Is act.PayDue a ⊎ (Is act.Leave a ⊎ Is act.Interfund a)))))))))))))))

-- it leaves assets as they are
pub quiet : (plan : Plan) (closed : ℕ) (on : Day) (a : Act) (drawn : Drawn) (assets : List Asset) → IsOther a → assets ≡ map (asset_step plan closed on a) assets ++ assets_by plan on a drawn
quiet plan closed on (act.Voucher v) drawn assets is = absurd (grind arith)
quiet plan closed on (act.VoidVoucher n) drawn assets is = absurd (grind arith)
quiet plan closed on (act.Asset what) drawn assets is = absurd (grind arith)
quiet plan closed on (act.Close p) drawn assets is = absurd (grind arith)
quiet plan closed on (act.Lease l) drawn assets is = absurd (grind arith)
quiet plan closed on _ drawn assets is = sym (append-nil (map (λ x. x) assets) ∙ map-id assets)

pub close_step : (plan : Plan) (closed : ℕ) (on : Day) (a : Act) (p : Period) (drawn : Drawn) (assets : List Asset) → a ≡ act.Close p → assets ≡ map (asset_step plan closed on a) assets ++ assets_by plan on a drawn
close_step plan closed on a p drawn assets is = sym (ap (λ b. map (asset_step plan closed on b) assets ++ assets_by plan on b drawn) is ∙ append-nil (map (λ x. x) assets) ∙ map-id assets)

-- ---- amounts

in_range : (n : ℕ) → bad_amount (amount n) ≡ None → n ≤ most_cents
in_range n e = most n (refused (nat_le 1 n && nat_le n most_cents) e)
  where
    refused : (b : Bool) → refuse_if (not b) (refusal.AmountRange n) ≡ None → b ≡ true
    refused true e = refl
    refused false e = cc

    most : (n : ℕ) → (nat_le 1 n && nat_le n most_cents) ≡ true → n ≤ most_cents
    most n e = grind (arith, common_steps)

first_two : (r other : Option Refusal) → or_else r other ≡ None → (r ≡ None) × (other ≡ None)
first_two None other e = (refl, e)
first_two (Some r) other e = cc

pub items_most : (items : List VoucherItem) → first_refusal bad_amount (map (λ i. amount i.account.amount) items) ≡ None → AreMost items
items_most [] e k d l = absurd (omega arith)
items_most (i ∷ items) e zero d l = in_range i.account.amount ((first_two (bad_amount (amount i.account.amount)) (first_refusal bad_amount (map (λ j. amount j.account.amount) items)) e).0)
items_most (i ∷ items) e (suc k) d l = items_most items ((first_two (bad_amount (amount i.account.amount)) (first_refusal bad_amount (map (λ j. amount j.account.amount) items)) e).1) k d (omega arith)
