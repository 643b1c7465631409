use Rattle.std.proofs.Common.{FitsSigned, rules}
use Rattle.std.proofs.Math.Facts.{to_z-of_z}
use Rattle.cf_base.proofs.Common.{w128}
use Rattle.cf_json_replies.proofs.shown.put_recon.Goals as goal

pub returns : goal.returns
returns c =
    let accrued : FitsSigned w128 c.args.recon.accrued_interest = search rules in
    let bonds : FitsSigned w128 c.args.recon.bonds = search rules in
    let capital : FitsSigned w128 c.args.recon.capital_assets = search rules in
    let balances : FitsSigned w128 c.args.recon.fund_balances = search rules in
    let leases : FitsSigned w128 c.args.recon.leases = search rules in
    let leave : FitsSigned w128 c.args.recon.leave = search rules in
    let net : FitsSigned w128 c.args.recon.net_position = search rules in
    let right_to_use : FitsSigned w128 c.args.recon.right_to_use = search rules in
    let unavailable : FitsSigned w128 c.args.recon.unavailable = search rules in
    simp to_z-of_z at c.put_object.ensures.text
