-- The tags of what stands as a run begins: they go by path.
use Rattle.std.proofs.Common.{◌≡◌, ℕ, ◌+◌, List, [], ◌∷◌, ◌++◌, Option, Some, None, refl, sym, ap, ◌∙◌, subst}
use Rattle.std.proofs.lemmas.List.{append-nil, append_assoc}
use Rattle.std.specs.BTreeMap.{insert_entry}
use Rattle.std.specs.Ordering.{match_ordering, ordering_reverse}
use Rattle.std.specs.declared.cmp.Ordering.{Ordering}
use Rattle.std.specs.declared.cmp.Ordering.TheVariants.{Less}
use Rattle.slate_ids.specs.PathText.{path_cmp}
use Rattle.slate_ids.specs.declared.object_path.ObjectPath.{ObjectPath}
use Rattle.slate_ids.specs.declared.object_path.ObjectPath.TheVariants as paths
use Rattle.slate_store.specs.Store.{Store, stored}
use Rattle.slate_store.specs.declared.object.StoredObject.{StoredObject}
use Rattle.slate_script_events.specs.declared.db_spec.DbSpec.{DbSpec}
use Rattle.slate_cluster_protocol.specs.Lawful.{IsAccepted}
use Rattle.slate_cluster_protocol.specs.OpeningStore.{AreTagged, GoByPath}
use Rattle.slate_cluster_protocol.specs.Specs.{First, first_bytes, first_added, firsts_from, listed_or_none, no_objects, store_from, opening_world}
use Rattle.slate_cluster_laws.proofs.Beginnings.{AllNamed, Firsts, has_more}
use Rattle.slate_cluster_laws.proofs.OpeningRecords.{records_keep}
use Rattle.slate_cluster_laws.proofs.OpeningStands.{Begun, begun_of}
use Rattle.slate_cluster_laws.proofs.OpeningTables.{IsMade, made_of, all_keep}
use Rattle.slate_cluster_laws.proofs.Ordered.{IsAbove, IsOrdered, ordered_put, path_order}

abbrev Entries : Type 0
Entries = List (ObjectPath × StoredObject)

-- each object is below a path
abbrev IsUnder : Entries → ObjectPath → Type 0
IsUnder [] p = Unit {0}
IsUnder (e ∷ es) p = (path_cmp e.0 p ≡ Less) × IsUnder es p

-- each object is below all of these
abbrev AllUnder : Entries → Firsts → Type 0
AllUnder es [] = Unit {0}
AllUnder es (o ∷ os) = IsUnder es o.0 × AllUnder es os

-- what is above all objects is put after them
put_last : (p : ObjectPath) (v : StoredObject) (es : Entries) → IsUnder es p → insert_entry path_cmp es p v ≡ es ++ (p, v) ∷ []
put_last p v [] h = refl
put_last p v (e ∷ es) h =
    ap (λ (r : Ordering). match_ordering r ((p, v) ∷ e ∷ es) ((e.0, v) ∷ es) (e ∷ insert_entry path_cmp es p v)) (path_order.antisymm p e.0 ∙ ap ordering_reverse h.0)
    ∙ ap (λ (xs : Entries). e ∷ xs) (put_last p v es h.1)

under_one : (p q : ObjectPath) (v : StoredObject) (es : Entries) → path_cmp p q ≡ Less → IsUnder es q → IsUnder (es ++ (p, v) ∷ []) q
under_one p q v [] lt h = (lt, tt)
under_one p q v (e ∷ es) lt h = (h.0, under_one p q v es lt h.1)

under_more : (p : ObjectPath) (v : StoredObject) (es : Entries) (os : Firsts) → IsAbove p os → AllUnder es os → AllUnder (es ++ (p, v) ∷ []) os
under_more p v es [] above h = tt
under_more p v es (o ∷ os) above h = (under_one p o.0 v es above.0 h.0, under_more p v es os above.1 h.1)

-- an object that gets the next tag
abbrev next_tag : ℕ → First → StoredObject
next_tag n v = record { bytes = v.0; last_modified = v.1; e_tag = n + 1 }

-- the objects with one tag after the other
abbrev tagged : ℕ → Firsts → Entries
tagged n [] = []
tagged n (o ∷ os) = (o.0, next_tag n o.1) ∷ tagged (n + 1) os

are_tagged : (n : ℕ) (os : Firsts) → AreTagged n (tagged n os)
are_tagged n [] = tt
are_tagged n (o ∷ os) = (refl, are_tagged (n + 1) os)

-- puts in the order of the paths
store_puts : (os : Firsts) (s : Store) → IsOrdered os → AllUnder s.objects os → (store_from s os).objects ≡ s.objects ++ tagged s.last_tag os
store_puts [] s ordered under = sym (append-nil s.objects)
store_puts (o ∷ os) s ordered under =
    let v = next_tag s.last_tag o.1 in
    let put : (stored o.0 o.1.0 o.1.1 s).objects ≡ s.objects ++ (o.0, v) ∷ [] = put_last o.0 v s.objects under.0 in
    store_puts os (stored o.0 o.1.0 o.1.1 s) ordered.1 (subst (λ (es : Entries). AllUnder es os) (sym put) (under_more o.0 v s.objects os ordered.0 under.1))
    ∙ (ap (λ (es : Entries). es ++ tagged (s.last_tag + 1) os) put
    ∙ append_assoc s.objects ((o.0, v) ∷ []) (tagged (s.last_tag + 1) os))

all_under : (os : Firsts) → AllUnder [] os
all_under [] = tt
all_under (o ∷ os) = (tt, all_under os)

-- ---- the first objects ascend

first_ordered : (firsts : Firsts) (spec : DbSpec) (o : Option (List ℕ)) (objects : Firsts) → first_added firsts spec o ≡ Some objects → IsOrdered firsts → IsOrdered objects
first_ordered firsts spec None objects h ordered = absurd cc
first_ordered firsts spec (Some bytes) objects h ordered =
    let same : insert_entry path_cmp firsts (paths.Manifest spec.path 1) (bytes, spec.modified) ≡ objects = cc in
    subst (λ (os : Firsts). IsOrdered os) same (ordered_put (paths.Manifest spec.path 1) (bytes, spec.modified) firsts ordered)

firsts_ordered : (firsts : Firsts) (specs : List DbSpec) (objects : Firsts) → firsts_from firsts specs ≡ Some objects → IsOrdered firsts → IsOrdered objects
firsts_ordered firsts [] objects h ordered = let same : firsts ≡ objects = cc in subst (λ (os : Firsts). IsOrdered os) same ordered
firsts_ordered firsts (spec ∷ specs) objects h ordered =
    let first = has_more (first_added firsts spec (first_bytes spec.manifest)) (λ (os : Firsts). firsts_from os specs) objects h in
    firsts_ordered first.more specs objects first.rest (first_ordered firsts spec (first_bytes spec.manifest) first.more first.is ordered)

module _ (specs : List DbSpec) (accepted : IsAccepted specs) where
  begun : Begun specs
  begun = begun_of specs accepted.accepted

  made : IsMade specs begun.objects
  made = made_of specs begun.objects begun.is

  names : AllNamed specs
  names = accepted.named

  ascend : IsOrdered begun.objects
  ascend =
      all_keep (λ (os : Firsts). IsOrdered os) (λ db id v os fine h. ordered_put (paths.Table db id) v os h) made.records specs begun.objects names made.added
      (records_keep (λ (os : Firsts). IsOrdered os) (λ db v os named h. ordered_put (paths.Record db 1) v os h) made.firsts specs made.records names made.recorded
      (firsts_ordered [] specs made.firsts made.written tt))

  stand_tagged : (opening_world specs).store.objects ≡ tagged 0 begun.objects
  stand_tagged =
      ap (λ (o : Option Firsts). (store_from no_objects (listed_or_none o)).objects) begun.is ∙ store_puts begun.objects no_objects ascend (all_under begun.objects)

  above_tagged : (p : ObjectPath) (n : ℕ) (os : Firsts) → IsAbove p os → IsAbove p (tagged n os)
  above_tagged p n [] h = tt
  above_tagged p n (o ∷ os) h = (h.0, above_tagged p (n + 1) os h.1)

  tagged_ordered : (n : ℕ) (os : Firsts) → IsOrdered os → IsOrdered (tagged n os)
  tagged_ordered n [] h = tt
  tagged_ordered n (o ∷ os) h = (above_tagged o.0 (n + 1) os h.0, tagged_ordered (n + 1) os h.1)

  pub go_by_path : GoByPath (opening_world specs).store.objects
  go_by_path = subst GoByPath (sym stand_tagged) (record { ordered = tagged_ordered 0 begun.objects ascend; tagged = are_tagged 0 begun.objects })
