use Rattle.std.proofs.Common.{◌≡◌, ◌<◌, ◌==◌, None, sym, subst, arith, filter}
use Rattle.cf_base.proofs.Common.{length-map}
use Rattle.cf_assets.specs.Register.{Register}
use Rattle.cf_assets.specs.Steps.{disposes}
use Rattle.cf_assets.proofs.Leases.{dispose_months}
use Rattle.cf_model.specs.Common.{Asset, disposed_asset, first_refusal, year_of_day}
use Rattle.cf_assets.proofs.Standing.{extents_map, disposes_keep}
use Rattle.cf_assets.proofs.assets.Assets.dispose.Goals as goal
use Rattle.cf_base.specs.Common.{most_entries}

pub invariant_of-self : goal.invariant_of-self
invariant_of-self c =
    let was = c.self.invariant in
    let few = subst (λ (r : Register). r.acts < most_entries) (sym c.self.view_is) c.requires.few in
    let year = year_of_day c.args.chart.now c.args.on in
    let inventory = c.self.inside.inventory in
    let rule : first_refusal (disposed_asset c.args.on) (filter (λ (a : Asset). a.number == c.args.number) inventory.assets) ≡ None =
    subst (λ (r : Register). first_refusal (disposed_asset c.args.on) (filter (λ (a : Asset). a.number == c.args.number) r.assets) ≡ None) (sym c.self.view_is) c.requires.allowed in
    record {
      acts = omega (arith, few);
      few = rw (c.dispose_of.ensures.assets, length-map inventory.assets (disposes c.args.number year inventory.closed)) (omega (arith, was.few));
      closed = omega (arith, was.closed, c.dispose_of.ensures.closed);
      vouchers = omega (arith, was.vouchers);
      extents = rw c.dispose_of.ensures.assets (extents_map (disposes c.args.number year inventory.closed) c.self.inside.vouchers.items inventory.assets (disposes_keep c.args.number year inventory.closed) was.extents);
      amortized = rw (c.dispose_of.ensures.assets, c.dispose_of.ensures.closed)
          (dispose_months c.args.on c.args.number year inventory.closed inventory.assets inventory.closed c.self.inside.amortized.items rule was.amortized);
    }
