-- The objects that are left in a queue.
use Rattle.std.specs.Prelude.{Bool, List, [], ◌∷◌, Option, Some, None, is_some}
use Rattle.slate_store.specs.declared.object.ObjectMetadata.{ObjectMetadata}

-- the first of the objects left, where there is one
abbrev pub first_object : List ObjectMetadata → Option ObjectMetadata
first_object [] = None
first_object (m ∷ ms) = Some m

-- whether an object is left
abbrev pub has_object : List ObjectMetadata → Bool
has_object ms = is_some (first_object ms)
