-- Filters: which candidates of a pass may be deleted.
use Rattle.std.specs.Prelude.{◌==◌, ◌&&◌, Bool, List, [], filter, Option, Some, None, if◌then◌else◌}
use Rattle.std.specs.List.{list_any}
use Rattle.std.specs.Ordering.{is_eq, int_eq}
use Rattle.slate_ids.specs.PathText.{path_cmp}
use Rattle.slate_store.specs.declared.object.ObjectMetadata.{ObjectMetadata}

-- whether what a list tells of two objects is the same
abbrev pub same_object : ObjectMetadata → ObjectMetadata → Bool
same_object a b = is_eq (path_cmp a.location b.location) && (int_eq a.last_modified b.last_modified && (a.size == b.size && a.e_tag == b.e_tag))

-- whether an object is one of these
abbrev pub is_one_of : List ObjectMetadata → ObjectMetadata → Bool
is_one_of objects m = list_any (λ o. same_object o m) objects

-- the candidates that a filter returned, in their order: what it returned besides counts for nothing
abbrev pub retained : List ObjectMetadata → List ObjectMetadata → List ObjectMetadata
retained returned candidates = filter (is_one_of returned) candidates

-- the candidates that a filter allows, by what it returns; without a filter all of them
abbrev pub allowed : {F : Type 0} → (F → List ObjectMetadata → List ObjectMetadata) → Option F → List ObjectMetadata → List ObjectMetadata
allowed returns None candidates = candidates
allowed returns (Some f) candidates = retained (returns f candidates) candidates

-- the candidates that are deleted: those that are allowed, and none in a dry run
abbrev pub picks : (List ObjectMetadata → List ObjectMetadata) → Bool → List ObjectMetadata → List ObjectMetadata
picks allows dry_run candidates = if dry_run then [] else allows candidates
