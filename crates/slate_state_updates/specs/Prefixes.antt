-- Prefixes of segments in a new version of a manifest: none begins with another.
use Rattle.std.specs.Prelude.{List, [], ◌∷◌, Option, Some, None, if◌then◌else◌}
use Rattle.slate_ids.specs.Keys.{begins_with}
use Rattle.slate_ids.specs.declared.error.SlateDBError.{SlateDBError}
use Rattle.slate_ids.specs.declared.error.SlateDBError.TheVariants.{InvalidSegmentPrefix}
use Rattle.slate_model.specs.Segments.{Prefixed}

-- the refusal of the first prefix that begins with the one right before it, of those that follow this segment
abbrev pub nested_after : Prefixed → List Prefixed → Option SlateDBError
nested_after last [] = None
nested_after last (s ∷ segments) = if begins_with last.prefix s.prefix then Some (InvalidSegmentPrefix s.prefix last.prefix) else nested_after s segments

-- the refusal of the first prefix that begins with the one right before it; as they ascend, there is none exactly where no prefix begins with another
abbrev pub prefix_refusal : List Prefixed → Option SlateDBError
prefix_refusal [] = None
prefix_refusal (s ∷ segments) = nested_after s segments
