use Rattle.std.proofs.Common.{rules, ◌≡◌, subst, ℕ, Option, Some, None}
use Rattle.slate_ids.specs.Decimals.{decimal_of, ReadsDecimal}
use Rattle.slate_ids.proofs.DecimalTexts.{reads_decimal}
use Rattle.slate_ids.proofs.decimals.decimal_of.Goals as goal

pub returns-then-bytes-eq48-clause-decimal : goal.returns-then-bytes-eq48-clause-decimal
returns-then-bytes-eq48-clause-decimal c =
    let value : decimal_of c.args.bytes.now ≡ None = search rules in
    subst (λ (o : Option ℕ). ReadsDecimal c.args.bytes.now o) value (reads_decimal c.args.bytes.now)

pub returns-in_err-number-clause-decimal : goal.returns-in_err-number-clause-decimal
returns-in_err-number-clause-decimal c =
    let value : decimal_of c.args.bytes.now ≡ c.from_residual.result = search rules in
    subst (λ (o : Option ℕ). ReadsDecimal c.args.bytes.now o) value (reads_decimal c.args.bytes.now)

pub returns-clause-decimal : goal.returns-clause-decimal
returns-clause-decimal c =
    let value : decimal_of c.args.bytes.now ≡ Some c.in_ok-number.number = search rules in
    subst (λ (o : Option ℕ). ReadsDecimal c.args.bytes.now o) value (reads_decimal c.args.bytes.now)
