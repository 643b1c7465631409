use Rattle.std.proofs.Common.{◌≡◌, not, drop}
use Rattle.cf_calls.specs.declared.names.NameKind.TheVariants as kind
use Rattle.cf_model.specs.Common.{is_drawn, first_refusal, unknown_if}
use Rattle.cf_office_rules.proofs.names.vouchers_refusal.Given as goal

abbrev pub invariant-loop-number : goal.invariant-loop-number
invariant-loop-number l =
    first_refusal (λ n. unknown_if (not (is_drawn l.orders.documents.vouchers n)) kind.Voucher n) (drop l.number-index l.vouchers)
    ≡ first_refusal (λ n. unknown_if (not (is_drawn l.orders.documents.vouchers n)) kind.Voucher n) l.vouchers
