use Rattle.std.proofs.Common.{◌≡◌, ◌<◌, drop}
use Rattle.slate_ids.specs.Decimals.{digits_from}
use Rattle.slate_ids.proofs.decimals.digits.Given as goal

-- the digits that are left go on from the number so far
abbrev pub invariant-loop-c : goal.invariant-loop-c
invariant-loop-c l = record {
  rest : digits_from l.limit l.n (drop l.c-index l.text) ≡ digits_from l.limit 0 l.text;
  below : l.n < l.limit;
}
