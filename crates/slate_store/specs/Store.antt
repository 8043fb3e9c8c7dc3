-- An object store: what each call does to it and answers.
use Rattle.std.specs.Prelude.{ℕ, ◌+◌, ◌==◌, nat_lt, Bool, true, false, not, ◌&&◌, if◌then◌else◌, ℤ, Option, Some, None, is_some, is_none, List, length, map, filter}
use Rattle.std.specs.Map.{lookup, remove_entry}
use Rattle.std.specs.BTreeMap.{is_at, insert_entry}
use Rattle.slate_ids.specs.Limits.{last_number}
use Rattle.slate_ids.specs.PathText.{path_cmp}
use Rattle.slate_ids.specs.declared.object_path.ObjectPath.{ObjectPath}
use Rattle.slate_store.specs.Folders.{is_in}
use Rattle.slate_store.specs.declared.list_dir.ListDir.{ListDir}
use Rattle.slate_store.specs.declared.mark.Mark.{Mark}
use Rattle.slate_store.specs.declared.mark.Mark.TheVariants.{Good, Fail, Lost}
use Rattle.slate_store.specs.declared.object.ObjectMetadata.{ObjectMetadata}
use Rattle.slate_store.specs.declared.object.StoredObject.{StoredObject}
use Rattle.slate_store.specs.declared.store_call.StoreCall.{StoreCall}
use Rattle.slate_store.specs.declared.store_call.StoreCall.TheVariants.{List as ListCall, Get, PutNew, Replace, Put, Delete}
use Rattle.slate_store.specs.declared.store_answer.StoreAnswer.{StoreAnswer}
use Rattle.slate_store.specs.declared.store_answer.StoreAnswer.TheVariants.{Found, Got, Created, Replaced, Written, Deleted, Fault}

-- the objects, ascending by the text of their paths, and the last tag that was given
pub record Store : Type 0 where
  pub objects : List (ObjectPath × StoredObject)
  pub last_tag : ℕ

-- the object at a path
abbrev pub object_at : ObjectPath → Store → Option StoredObject
object_at path s = lookup (is_at (path_cmp path)) s.objects

-- whether an object stands at a path
abbrev pub stands_at : ObjectPath → Store → Bool
stands_at path s = is_some (object_at path s)

-- what a list tells of an object
abbrev pub metadata : ObjectPath × StoredObject → ObjectMetadata
metadata o = record { location = o.0; last_modified = o.1.last_modified; size = length o.1.bytes; e_tag = o.1.e_tag }

-- what a folder lists
abbrev pub listed : ListDir → Store → List ObjectMetadata
listed dir s = map metadata (filter (λ o. is_in dir o.0) s.objects)

-- with an object at a path, which gets the next tag
abbrev pub stored : ObjectPath → List ℕ → ℤ → Store → Store
stored path bytes moment s = record {
  objects = insert_entry path_cmp s.objects path (record { bytes = bytes; last_modified = moment; e_tag = s.last_tag + 1 });
  last_tag = s.last_tag + 1;
}

-- without an object at a path
abbrev pub removed : ObjectPath → Store → Store
removed path s = record { objects = remove_entry (is_at (path_cmp path)) s.objects; last_tag = s.last_tag }

abbrev pub has_tag : ℕ → Option StoredObject → Bool
has_tag tag (Some object) = object.e_tag == tag
has_tag tag None = false

-- the store afterwards, and the answer
pub record Outcome : Type 0 where
  pub store : Store
  pub answer : StoreAnswer

abbrev pub put_new : Option StoredObject → ObjectPath → List ℕ → ℤ → Store → Outcome
put_new (Some object) path bytes moment s = record { store = s; answer = Created None }
put_new None path bytes moment s = record { store = stored path bytes moment s; answer = Created (Some (s.last_tag + 1)) }

abbrev pub replace : Bool → ObjectPath → List ℕ → ℤ → Store → Outcome
replace false path bytes moment s = record { store = s; answer = Replaced None }
replace true path bytes moment s = record { store = stored path bytes moment s; answer = Replaced (Some (s.last_tag + 1)) }

-- a call with its whole effect, where a write has a tag
abbrev pub whole : StoreCall → ℤ → Store → Outcome
whole (ListCall dir) moment s = record { store = s; answer = Found (listed dir s) }
whole (Get path) moment s = record { store = s; answer = Got (object_at path s) }
whole (PutNew path bytes) moment s = put_new (object_at path s) path bytes moment s
whole (Replace path tag bytes) moment s = replace (has_tag tag (object_at path s)) path bytes moment s
whole (Put path bytes) moment s = record { store = stored path bytes moment s; answer = Written (s.last_tag + 1) }
whole (Delete path) moment s = record { store = removed path s; answer = Deleted }

-- whether a call writes an object here
abbrev pub writes : StoreCall → Store → Bool
writes (PutNew path bytes) s = is_none (object_at path s)
writes (Replace path tag bytes) s = has_tag tag (object_at path s)
writes (Put path bytes) s = true
writes _ s = false

-- a write that has no tag left goes as under Fail, whatever its mark
abbrev pub taken : Mark → StoreCall → Store → Mark
taken mark call s = if writes call s && not (nat_lt s.last_tag last_number) then Fail else mark

abbrev pub under : Mark → Outcome → Store → Outcome
under Good o s = o
under Fail o s = record { store = s; answer = Fault }
under Lost o s = record { store = o.store; answer = Fault }

-- what a call does under a mark: Fail has no effect, Lost has the effect, and both fault
abbrev pub effect : Mark → StoreCall → ℤ → Store → Outcome
effect mark call moment s = under (taken mark call s) (whole call moment s) s
