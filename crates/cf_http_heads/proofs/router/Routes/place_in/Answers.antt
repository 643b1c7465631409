use Rattle.std.proofs.Common.{arith}
use Rattle.cf_http_heads.proofs.PlaceLaws.{are_bytes, found_place}
use Rattle.cf_http_heads.proofs.router.Routes.place_in.Goals as goal

pub returns-in-Ok : goal.returns-in-Ok
returns-in-Ok c = found_place c.args.self.now.router c.args.path.now _ c.args.self.now.rows (are_bytes c.args.path.now (λ i. omega (arith, c.type_inv.path i))) c.in-Ok.ensures.found

pub returns-in-Err : goal.returns-in-Err
returns-in-Err c = found_place c.args.self.now.router c.args.path.now _ c.args.self.now.rows (are_bytes c.args.path.now (λ i. omega (arith, c.type_inv.path i))) c.in-Err.ensures.missing
