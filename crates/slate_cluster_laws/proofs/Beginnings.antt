-- What stands as a run begins: of each database its first manifest, and its first record where it has one.
use Rattle.std.proofs.Common.{◌≡◌, ◌≢◌, ℕ, Bool, true, false, List, [], ◌∷◌, Option, Some, None, is_some, ⊎_elim, refl, sym, ap, ◌∙◌, subst, arith}
use Rattle.std.specs.Prelude.{bytes_eq, if◌then◌else◌, ◌&&◌}
use Rattle.std.specs.List.{list_all}
use Rattle.std.specs.BTreeMap.{is_at, insert_entry}
use Rattle.std.specs.Cmp.Lexicographic.{slice_cmp}
use Rattle.std.specs.Map.{lookup}
use Rattle.std.specs.Ordering.{nat_cmp, is_eq, match_ordering}
use Rattle.std.specs.declared.cmp.Ordering.{Ordering}
use Rattle.std.specs.declared.cmp.Ordering.TheVariants.{Less, Equal, Greater}
use Rattle.slate_ids.specs.FinePath.{IsFine}
use Rattle.slate_ids.specs.Ids.{is_db_path}
use Rattle.slate_ids.specs.PathText.{path_text, path_cmp}
use Rattle.slate_ids.specs.declared.object_path.ObjectPath.{ObjectPath}
use Rattle.slate_ids.proofs.PathsApart.{same_path}
use Rattle.slate_txn_log.specs.LogPaths.{version_path}
use Rattle.slate_txn_log.specs.declared.log_kind.LogKind.TheVariants.{Manifest as ManifestLog}
use Rattle.slate_store.specs.Store.{Store, object_at, stored}
use Rattle.slate_script_events.specs.declared.db_spec.DbSpec.{DbSpec}
use Rattle.slate_cluster_protocol.specs.Chains.{bytes_of}
pub use Rattle.slate_cluster_protocol.specs.OpeningStore.{spec_of}
use Rattle.slate_cluster_protocol.specs.Specs.{First, is_named_spec, first_tally, tallies_from, and_more, first_bytes, first_added, firsts_from, listed_or_none, store_from}
use Rattle.slate_ids.specs.Ulids.{is_id}
use Rattle.slate_cluster_protocol.specs.World.{db_cmp, tally_of}
use Rattle.slate_cluster_protocol.specs.declared.tally.Tally.{Tally}
use Rattle.slate_store.proofs.LookUps.{bytes_same, no_bytes, finds, passes_by, same_found, put_object, at_put, at_else}
use Rattle.slate_cluster_laws.proofs.Stores.{IsTidy, same_name, tidy_put}
use Rattle.slate_cluster_laws.proofs.Maps.{name_order, insert_here, insert_else}
use Rattle.slate_cluster_laws.proofs.Paths.{version_fine}

pub spec_here : (d : List ℕ) (spec : DbSpec) (specs : List DbSpec) → d ≡ spec.path → spec_of d (spec ∷ specs) ≡ Some spec
spec_here d spec specs e = ap (λ (b : Bool). if b then Some spec else spec_of d specs) (ap (λ x. bytes_eq x spec.path) e ∙ bytes_same spec.path)

pub spec_there : (d : List ℕ) (spec : DbSpec) (specs : List DbSpec) → d ≢ spec.path → spec_of d (spec ∷ specs) ≡ spec_of d specs
spec_there d spec specs ne = ap (λ (b : Bool). if b then Some spec else spec_of d specs) (no_bytes d spec.path ne)

-- each database has a name, and its tables have ids
abbrev pub AllNamed : List DbSpec → Type 0
AllNamed specs = list_all is_named_spec specs ≡ true

both : (a b : Bool) → (a && b) ≡ true → (a ≡ true) × (b ≡ true)
both true true h = (refl, refl)
both true false h = absurd cc
both false b h = absurd cc

-- what the names of databases say of the first
pub record IsNamed (spec : DbSpec) (specs : List DbSpec) : Type 0 where
  pub path : is_db_path spec.path ≡ true
  pub tables : list_all (λ t. is_id t.0) spec.tables ≡ true
  pub rest : AllNamed specs

pub named_parts : (spec : DbSpec) (specs : List DbSpec) → AllNamed (spec ∷ specs) → IsNamed spec specs
named_parts spec specs h =
    let all = both (is_named_spec spec) (list_all is_named_spec specs) h in
    let own = both (is_db_path spec.path) (list_all (λ t. is_id t.0) spec.tables) all.0 in
    record { path = own.0; tables = own.1; rest = all.1 }

-- ---- the databases by path

abbrev pub Tallies : Type 0
Tallies = List (List ℕ × Tally)

abbrev pub more : Tallies → DbSpec → Tallies
more tallies spec = insert_entry db_cmp tallies spec.path (first_tally spec)

pub record IsNew (tallies : Tallies) (spec : DbSpec) (specs : List DbSpec) (all : Tallies) : Type 0 where
  pub absent : is_some (tally_of spec.path tallies) ≡ false
  pub rest : tallies_from (more tallies spec) specs ≡ Some all

pub is_new : (tallies : Tallies) (spec : DbSpec) (specs : List DbSpec) (all : Tallies) → tallies_from tallies (spec ∷ specs) ≡ Some all → IsNew tallies spec specs all
is_new tallies spec specs all h = test (is_some (tally_of spec.path tallies)) refl h
  where
    test : (b : Bool) → is_some (tally_of spec.path tallies) ≡ b → (if b then None else tallies_from (more tallies spec) specs) ≡ Some all → IsNew tallies spec specs all
    test true is h = absurd cc
    test false is h = record { absent = is; rest = h }

-- the tally of a database after one more
pub tally_here : (d : List ℕ) (tallies : Tallies) (spec : DbSpec) → d ≡ spec.path → tally_of d (more tallies spec) ≡ Some (first_tally spec)
tally_here d tallies spec e = ap (λ x. tally_of x (more tallies spec)) e ∙ insert_here db_cmp name_order spec.path (first_tally spec) tallies

tally_there : (d : List ℕ) (tallies : Tallies) (spec : DbSpec) → d ≢ spec.path → tally_of d (more tallies spec) ≡ tally_of d tallies
tally_there d tallies spec ne = insert_else db_cmp name_order spec.path d (first_tally spec) tallies ne

-- one that is there is not among the others
pub none_twice : (d : List ℕ) (tallies : Tallies) (specs : List DbSpec) (all : Tallies) → tallies_from tallies specs ≡ Some all → is_some (tally_of d tallies) ≡ true → spec_of d specs ≡ None
none_twice d tallies [] all h there = refl
none_twice d tallies (spec ∷ specs) all h there =
    let new = is_new tallies spec specs all h in
    ⊎_elim
    (λ (e : d ≡ spec.path). absurd (cc (subst (λ x. is_some (tally_of x tallies) ≡ true) e there, new.absent)))
    (λ (ne : d ≢ spec.path). spec_there d spec specs ne ∙ none_twice d (more tallies spec) specs all new.rest (ap is_some (tally_there d tallies spec ne) ∙ there))
    (same_name d spec.path)

-- the tally of a database among these, or else what it was
abbrev pub tally_for : Option DbSpec → Option Tally → Option Tally
tally_for None tally = tally
tally_for (Some spec) tally = Some (first_tally spec)

pub tallies_found : (d : List ℕ) (tallies : Tallies) (specs : List DbSpec) (all : Tallies) → tallies_from tallies specs ≡ Some all → tally_of d all ≡ tally_for (spec_of d specs) (tally_of d tallies)
tallies_found d tallies [] all h = let same : tallies ≡ all = cc in ap (tally_of d) (sym same)
tallies_found d tallies (spec ∷ specs) all h =
    let new = is_new tallies spec specs all h in
    let found = tallies_found d (more tallies spec) specs all new.rest in
    ⊎_elim
    (λ (e : d ≡ spec.path).
    let here = tally_here d tallies spec e in
    let alone = none_twice d (more tallies spec) specs all new.rest (ap is_some here) in
    found ∙ (ap (λ (o : Option DbSpec). tally_for o (tally_of d (more tallies spec))) alone ∙ (here ∙ sym (ap (λ (o : Option DbSpec). tally_for o (tally_of d tallies)) (spec_here d spec specs e)))))
    (λ (ne : d ≢ spec.path). found ∙ (ap (tally_for (spec_of d specs)) (tally_there d tallies spec ne) ∙ sym (ap (λ (o : Option DbSpec). tally_for o (tally_of d tallies)) (spec_there d spec specs ne))))
    (same_name d spec.path)

-- ---- the first objects by path

abbrev pub Firsts : Type 0
Firsts = List (ObjectPath × First)

-- what there is, and what more came of it
pub record HasMore (o : Option Firsts) (f : Firsts → Option Firsts) (objects : Firsts) : Type 0 where
  pub more : Firsts
  pub is : o ≡ Some more
  pub rest : f more ≡ Some objects

pub has_more : (o : Option Firsts) (f : Firsts → Option Firsts) (objects : Firsts) → and_more o f ≡ Some objects → HasMore o f objects
has_more None f objects h = absurd cc
has_more (Some more) f objects h = record { more = more; is = refl; rest = h }

abbrev pub later : Option First → Option First → Option First
later None o = o
later (Some x) o = Some x

-- the last object of a path
abbrev pub last_at : ObjectPath → Firsts → Option First
last_at p [] = None
last_at p (o ∷ os) = later (last_at p os) (if is_at (path_cmp p) o.0 then Some o.1 else None)

nothing_later : (a b : Option First) → later a b ≡ None → (a ≡ None) × (b ≡ None)
nothing_later None None h = (refl, refl)
nothing_later None (Some x) h = absurd cc
nothing_later (Some x) b h = absurd cc

-- a new object is found
pub last_here : (p : ObjectPath) (v : First) (os : Firsts) → last_at p os ≡ None → last_at p (insert_entry path_cmp os p v) ≡ Some v
last_here p v [] h = ap (λ (b : Bool). if b then Some v else None) (finds p)
last_here p v (o ∷ os) h = step (path_cmp p o.0) refl (last_here p v os parts.0)
  where
    parts : (last_at p os ≡ None) × ((if is_at (path_cmp p) o.0 then Some o.1 else None) ≡ None)
    parts = nothing_later (last_at p os) (if is_at (path_cmp p) o.0 then Some o.1 else None) h

    step : (r : Ordering) → path_cmp p o.0 ≡ r → last_at p (insert_entry path_cmp os p v) ≡ Some v → last_at p (match_ordering r ((p, v) ∷ o ∷ os) ((o.0, v) ∷ os) (o ∷ insert_entry path_cmp os p v)) ≡ Some v
    step Less at rest = ap (λ (x : Option First). later x (if is_at (path_cmp p) p then Some v else None)) h ∙ ap (λ (b : Bool). if b then Some v else None) (finds p)
    step Equal at rest = absurd (cc (sym (ap (λ (b : Bool). if b then Some o.1 else None) (ap is_eq at)) ∙ parts.1))
    step Greater at rest = ap (λ (x : Option First). later x (if is_at (path_cmp p) o.0 then Some o.1 else None)) rest

-- and at another text nothing changes
pub last_else : (p q : ObjectPath) (v : First) (os : Firsts) → path_text q ≢ path_text p → last_at q (insert_entry path_cmp os p v) ≡ last_at q os
last_else p q v [] ne = ap (λ (b : Bool). if b then Some v else None) (passes_by q p ne)
last_else p q v (o ∷ os) ne = step (path_cmp p o.0) refl (last_else p q v os ne)
  where
    no_more : (x : Option First) → later x None ≡ x
    no_more None = refl
    no_more (Some y) = refl

    step : (r : Ordering) → path_cmp p o.0 ≡ r → last_at q (insert_entry path_cmp os p v) ≡ last_at q os → last_at q (match_ordering r ((p, v) ∷ o ∷ os) ((o.0, v) ∷ os) (o ∷ insert_entry path_cmp os p v)) ≡ last_at q (o ∷ os)
    step Less at rest = ap (λ (b : Bool). later (last_at q (o ∷ os)) (if b then Some v else None)) (passes_by q p ne) ∙ no_more (last_at q (o ∷ os))
    step Equal at rest =
        let off = passes_by q o.0 (λ same. ne (same ∙ sym (same_found p o.0 (ap is_eq at)))) in
        ap (λ (b : Bool). later (last_at q os) (if b then Some v else None)) off ∙ sym (ap (λ (b : Bool). later (last_at q os) (if b then Some o.1 else None)) off)
    step Greater at rest = ap (λ (x : Option First). later x (if is_at (path_cmp q) o.0 then Some o.1 else None)) rest

abbrev first_path : DbSpec → ObjectPath
first_path spec = version_path ManifestLog spec.path 1

record HasBytes (firsts : Firsts) (spec : DbSpec) (specs : List DbSpec) (all : Firsts) : Type 0 where
  pub bytes : List ℕ
  pub is : first_bytes spec.manifest ≡ Some bytes
  pub rest : firsts_from (insert_entry path_cmp firsts (first_path spec) (bytes, spec.modified)) specs ≡ Some all

has_bytes : (firsts : Firsts) (spec : DbSpec) (specs : List DbSpec) (all : Firsts) → firsts_from firsts (spec ∷ specs) ≡ Some all → HasBytes firsts spec specs all
has_bytes firsts spec specs all h = test (first_bytes spec.manifest) refl h
  where
    test : (o : Option (List ℕ)) → first_bytes spec.manifest ≡ o → and_more (first_added firsts spec o) (λ (more : Firsts). firsts_from more specs) ≡ Some all → HasBytes firsts spec specs all
    test None is h = absurd cc
    test (Some bytes) is h = record { bytes = bytes; is = is; rest = h }

-- the first object of a database
abbrev pub first_of : DbSpec → First
first_of spec = (listed_or_none (first_bytes spec.manifest), spec.modified)

abbrev pub first_for : Option DbSpec → Option First → Option First
first_for None o = o
first_for (Some spec) o = Some (first_of spec)

module _ (d : List ℕ) (named : is_db_path d ≡ true) where
  abbrev own : ObjectPath
  own = version_path ManifestLog d 1

  -- the path of another database's first manifest
  apart : (spec : DbSpec) → is_db_path spec.path ≡ true → d ≢ spec.path → path_text own ≢ path_text (first_path spec)
  apart spec other ne = λ e. let same : own ≡ first_path spec = same_path own (first_path spec) (named, omega arith) (other, omega arith) e in ne cc

  pub firsts_found : (tallies : Tallies) (firsts : Firsts) (specs : List DbSpec) (all : Tallies) (objects : Firsts) → AllNamed specs → tallies_from tallies specs ≡ Some all → firsts_from firsts specs ≡ Some objects
      → (is_some (tally_of d tallies) ≡ false → last_at own firsts ≡ None) → last_at own objects ≡ first_for (spec_of d specs) (last_at own firsts)
  firsts_found tallies firsts [] all objects names h k link = let same : firsts ≡ objects = cc in ap (last_at own) (sym same)
  firsts_found tallies firsts (spec ∷ specs) all objects names h k link =
      let new = is_new tallies spec specs all h in
      let has = has_bytes firsts spec specs objects k in
      let parts = named_parts spec specs names in
      let found = λ (link' : is_some (tally_of d (more tallies spec)) ≡ false → last_at own (insert_entry path_cmp firsts (first_path spec) (has.bytes, spec.modified)) ≡ None).
      firsts_found (more tallies spec) (insert_entry path_cmp firsts (first_path spec) (has.bytes, spec.modified)) specs all objects parts.rest new.rest has.rest link' in
      ⊎_elim
      (λ (e : d ≡ spec.path).
      let there = ap is_some (tally_here d tallies spec e) in
      let alone = none_twice d (more tallies spec) specs all new.rest there in
      let absent = link (subst (λ x. is_some (tally_of x tallies) ≡ false) (sym e) new.absent) in
      let same : own ≡ first_path spec = ap (λ x. version_path ManifestLog x 1) e in
      let here : last_at own (insert_entry path_cmp firsts (first_path spec) (has.bytes, spec.modified)) ≡ Some (has.bytes, spec.modified)
      = subst (λ (p : ObjectPath). last_at own (insert_entry path_cmp firsts p (has.bytes, spec.modified)) ≡ Some (has.bytes, spec.modified)) same (last_here own (has.bytes, spec.modified) firsts absent) in
      found (λ no. absurd (cc (there, no)))
      ∙ (ap (λ (o : Option DbSpec). first_for o (last_at own (insert_entry path_cmp firsts (first_path spec) (has.bytes, spec.modified)))) alone
      ∙ (here ∙ (ap (λ (o : Option (List ℕ)). Some (listed_or_none o, spec.modified)) (sym has.is) ∙ sym (ap (λ (o : Option DbSpec). first_for o (last_at own firsts)) (spec_here d spec specs e))))))
      (λ (ne : d ≢ spec.path).
      let off = last_else (first_path spec) own (has.bytes, spec.modified) firsts (apart spec parts.path ne) in
      found (λ no. off ∙ link (sym (ap is_some (tally_there d tallies spec ne)) ∙ no))
      ∙ (ap (first_for (spec_of d specs)) off ∙ sym (ap (λ (o : Option DbSpec). first_for o (last_at own firsts)) (spec_there d spec specs ne))))
      (same_name d spec.path)

-- nothing is at a path that is no first manifest's
pub firsts_else : (q : ObjectPath) → ((spec : DbSpec) → is_db_path spec.path ≡ true → path_text q ≢ path_text (first_path spec)) → (firsts : Firsts) (specs : List DbSpec) (objects : Firsts) → AllNamed specs
    → firsts_from firsts specs ≡ Some objects → last_at q objects ≡ last_at q firsts
firsts_else q away firsts [] objects names h = let same : firsts ≡ objects = cc in ap (last_at q) (sym same)
firsts_else q away firsts (spec ∷ specs) objects names h =
    let has = has_bytes firsts spec specs objects h in
    let parts = named_parts spec specs names in
    firsts_else q away (insert_entry path_cmp firsts (first_path spec) (has.bytes, spec.modified)) specs objects parts.rest has.rest ∙ last_else (first_path spec) q (has.bytes, spec.modified) firsts (away spec parts.path)

-- what is known of a database that is found
pub record IsFound (d : List ℕ) (spec : DbSpec) : Type 0 where
  pub path : d ≡ spec.path
  pub named : is_db_path d ≡ true
  pub bytes : List ℕ
  pub is : first_bytes spec.manifest ≡ Some bytes

pub spec_found : (d : List ℕ) (firsts : Firsts) (specs : List DbSpec) (objects : Firsts) (found : DbSpec) → AllNamed specs → firsts_from firsts specs ≡ Some objects → spec_of d specs ≡ Some found → IsFound d found
spec_found d firsts [] objects found names h at = absurd cc
spec_found d firsts (spec ∷ specs) objects found names h at =
    let has = has_bytes firsts spec specs objects h in
    let parts = named_parts spec specs names in
    ⊎_elim
    (λ (e : d ≡ spec.path).
    let same : spec ≡ found = cc (spec_here d spec specs e, at) in
    subst (IsFound d) same (record { path = e; named = subst (λ x. is_db_path x ≡ true) (sym e) parts.path; bytes = has.bytes; is = has.is }))
    (λ (ne : d ≢ spec.path). spec_found d (insert_entry path_cmp firsts (first_path spec) (has.bytes, spec.modified)) specs objects found parts.rest has.rest (sym (spec_there d spec specs ne) ∙ at))
    (same_name d spec.path)

-- ---- the store

abbrev pub bytes_found : Option First → Option (List ℕ) → Option (List ℕ)
bytes_found None o = o
bytes_found (Some first) o = Some first.0

-- a path is found by its text
pub by_text : (p q : ObjectPath) (s : Store) → path_text p ≡ path_text q → object_at p s ≡ object_at q s
by_text p q s e = ap (λ t. lookup (λ k. is_eq (slice_cmp nat_cmp t (path_text k))) s.objects) e

pub texts_differ : (p q : ObjectPath) → is_at (path_cmp p) q ≡ false → path_text p ≢ path_text q
texts_differ p q is = λ (same : path_text p ≡ path_text q). absurd (cc (ap (λ t. is_eq (slice_cmp nat_cmp t (path_text q))) same, finds q, is))

-- after puts the last one of a path is found
pub store_found : (p : ObjectPath) (s : Store) (os : Firsts) → bytes_of (object_at p (store_from s os)) ≡ bytes_found (last_at p os) (bytes_of (object_at p s))
store_found p s [] = refl
store_found p s (o ∷ os) = store_found p (stored o.0 o.1.0 o.1.1 s) os ∙ test (is_at (path_cmp p) o.0) refl
  where
    either : (x : Option First) (bytes : List ℕ) (v : First) (t : Option (List ℕ)) → bytes ≡ v.0 → bytes_found x (Some bytes) ≡ bytes_found (later x (Some v)) t
    either None bytes v t e = ap (λ b. Some b) e
    either (Some y) bytes v t e = refl

    only : (x : Option First) (t : Option (List ℕ)) → bytes_found x t ≡ bytes_found (later x None) t
    only None t = refl
    only (Some y) t = refl

    test : (b : Bool) → is_at (path_cmp p) o.0 ≡ b → bytes_found (last_at p os) (bytes_of (object_at p (stored o.0 o.1.0 o.1.1 s))) ≡ bytes_found (later (last_at p os) (if b then Some o.1 else None)) (bytes_of (object_at p s))
    test true is =
        let at : object_at p (stored o.0 o.1.0 o.1.1 s) ≡ Some (put_object s o.1.0 o.1.1) = by_text p o.0 (stored o.0 o.1.0 o.1.1 s) (same_found p o.0 is) ∙ at_put o.0 o.1.0 o.1.1 s in
        ap (λ x. bytes_found (last_at p os) (bytes_of x)) at ∙ either (last_at p os) o.1.0 o.1 (bytes_of (object_at p s)) refl
    test false is =
        let off = at_else o.0 p o.1.0 o.1.1 s (texts_differ p o.0 is) in
        ap (λ x. bytes_found (last_at p os) (bytes_of x)) off ∙ only (last_at p os) (bytes_of (object_at p s))

-- ---- paths are fine

abbrev pub AllFine : Firsts → Type 0
AllFine [] = Unit {0}
AllFine (o ∷ os) = IsFine o.0 × AllFine os

pub fine_put : (p : ObjectPath) (v : First) → IsFine p → (os : Firsts) → AllFine os → AllFine (insert_entry path_cmp os p v)
fine_put p v fine [] h = (fine, tt)
fine_put p v fine (o ∷ os) h = step (path_cmp p o.0) (fine_put p v fine os h.1)
  where
    step : (r : Ordering) → AllFine (insert_entry path_cmp os p v) → AllFine (match_ordering r ((p, v) ∷ o ∷ os) ((o.0, v) ∷ os) (o ∷ insert_entry path_cmp os p v))
    step Less rest = (fine, h)
    step Equal rest = h
    step Greater rest = (h.0, rest)

pub firsts_fine : (firsts : Firsts) (specs : List DbSpec) (objects : Firsts) → AllNamed specs → firsts_from firsts specs ≡ Some objects → AllFine firsts → AllFine objects
firsts_fine firsts [] objects names h fine = let same : firsts ≡ objects = cc in subst AllFine same fine
firsts_fine firsts (spec ∷ specs) objects names h fine =
    let has = has_bytes firsts spec specs objects h in
    let parts = named_parts spec specs names in
    firsts_fine (insert_entry path_cmp firsts (first_path spec) (has.bytes, spec.modified)) specs objects parts.rest has.rest (fine_put (first_path spec) (has.bytes, spec.modified) (version_fine spec.path parts.path ManifestLog 1 (omega arith)) firsts fine)

pub store_tidy : (s : Store) (os : Firsts) → AllFine os → IsTidy s.objects → IsTidy (store_from s os).objects
store_tidy s [] fine tidy = tidy
store_tidy s (o ∷ os) fine tidy = store_tidy (stored o.0 o.1.0 o.1.1 s) os fine.1 (tidy_put o.0 (put_object s o.1.0 o.1.1) fine.0 s.objects tidy)
