-- What a list tells of objects, in ordered sets.
use Rattle.std.specs.Prelude.{◌≡◌, List}
use Rattle.std.specs.BTreeSet.{BTreeSet, contains}
use Rattle.std.specs.declared.cmp.Ordering.{Ordering}
use Rattle.slate_gc_picks.specs.Filter.{is_one_of}
use Rattle.slate_gc_picks.specs.contracts.object_key.ObjectKeyOrd.TheImpl as key_ord
use Rattle.slate_gc_picks.specs.declared.object_key.ObjectKey.{ObjectKey}
use Rattle.slate_store.specs.declared.object.ObjectMetadata.{ObjectMetadata}

-- the order of keys: by path, then by moment, size and tag
abbrev pub key_cmp : ObjectKey → ObjectKey → Ordering
key_cmp = (key_ord.ghosts).cmp

-- what a list tells of an object, as a key
abbrev pub key_of : ObjectMetadata → ObjectKey
key_of m = record { location = m.location; last_modified = m.last_modified; size = m.size; e_tag = m.e_tag }

-- the set has exactly these objects
abbrev pub IsObjectSet : BTreeSet ObjectKey → List ObjectMetadata → Type 0
IsObjectSet set objects = (m : ObjectMetadata) → contains key_cmp set (key_of m) ≡ is_one_of objects m
