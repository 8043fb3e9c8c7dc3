-- The boundary of a log, and the greatest number of a list.
use Rattle.std.specs.Prelude.{ℕ, List, [], ◌∷◌, Option, Some, None, max}
use Rattle.slate_ids.specs.Decimals.{decimal_of}
use Rattle.slate_store.specs.declared.object.ObjectMetadata.{ObjectMetadata}
use Rattle.slate_store.specs.declared.object.StoredObject.{StoredObject}
use Rattle.slate_txn_log.specs.LogPaths.{number_of}
use Rattle.slate_txn_log.specs.declared.log_kind.LogKind.{LogKind}

-- the boundary that bytes write: a number in decimal
abbrev pub boundary_of : List ℕ → Option ℕ
boundary_of = decimal_of

-- the boundary that was got: an absent one is 0
abbrev pub boundary_got : Option StoredObject → Option ℕ
boundary_got None = Some 0
boundary_got (Some object) = boundary_of object.bytes

-- the greater of two numbers, of which each may be absent
abbrev pub greater : Option ℕ → Option ℕ → Option ℕ
greater None n = n
greater (Some m) None = Some m
greater (Some m) (Some n) = Some (max m n)

-- the greatest of the best so far and the numbers of a list
abbrev pub greatest_from : LogKind → Option ℕ → List ObjectMetadata → Option ℕ
greatest_from log best [] = best
greatest_from log best (m ∷ ms) = greatest_from log (greater best (number_of log m.location)) ms

-- the greatest number of a version of this log that a list has
abbrev pub greatest : LogKind → List ObjectMetadata → Option ℕ
greatest log = greatest_from log None
