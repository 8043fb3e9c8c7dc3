use Rattle.std.proofs.Common.{◌≡◌, drop}
use Rattle.std.specs.Prelude.{not}
use Rattle.std.specs.List.{find}
use Rattle.slate_model.specs.Validation.{recognizes}
use Rattle.slate_model.proofs.validation.first_unknown.Given as goal

-- the segments that are left decide
abbrev pub invariant-loop-segment : goal.invariant-loop-segment
invariant-loop-segment g l = find (λ s. not (recognizes ((goal.PrefixExtractor-dyn g l.extractor.now).means l.extractor.now.1) s)) (drop l.segment-index l.segments) ≡ find (λ s. not (recognizes ((goal.PrefixExtractor-dyn g l.extractor.now).means l.extractor.now.1) s)) l.segments
