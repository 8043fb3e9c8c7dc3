-- What stands as a run begins is what the databases bring: at the path of a table, too, and with its moment.
use Rattle.std.proofs.Common.{◌≡◌, ◌≢◌, ℕ, ◌==◌, Bool, true, false, not, List, [], ◌∷◌, ◌++◌, map, Option, Some, None, is_some, ◌⊎◌, inl, inr, ⊎_elim, refl, sym, ap, ◌∙◌, subst, cond, arith}
use Rattle.std.proofs.lemmas.Bool.{and_parts}
use Rattle.std.proofs.lemmas.Bool.Decides.{nat_tests}
use Rattle.std.specs.Prelude.{if◌then◌else◌, ◌||◌, ◌&&◌, option_map}
use Rattle.std.specs.List.{list_all, flat_map}
use Rattle.std.specs.Map.{lookup}
use Rattle.std.specs.BTreeMap.{is_at, insert_entry}
use Rattle.std.specs.BTreeSet.{insert_key}
use Rattle.std.specs.Ordering.{is_eq, match_ordering}
use Rattle.std.specs.declared.cmp.Ordering.{Ordering}
use Rattle.std.specs.declared.cmp.Ordering.TheVariants.{Less, Equal, Greater}
use Rattle.slate_ids.specs.FinePath.{IsFine}
use Rattle.slate_ids.specs.Ids.{is_db_path}
use Rattle.slate_ids.specs.PathText.{path_cmp}
use Rattle.slate_ids.specs.Ulids.{id_cmp as ulid_cmp, is_id}
use Rattle.slate_ids.specs.declared.object_path.ObjectPath.{ObjectPath}
use Rattle.slate_ids.specs.declared.object_path.ObjectPath.TheVariants as paths
use Rattle.slate_ids.proofs.PathsApart.{same_path}
use Rattle.slate_model_records.specs.Records.{Record}
use Rattle.slate_model_tables.specs.declared.ss_table_info.SsTableInfo.{SsTableInfo}
use Rattle.slate_store.specs.Store.{Store, object_at, stored}
use Rattle.slate_store.specs.declared.object.StoredObject.{StoredObject}
use Rattle.slate_store.proofs.LookUps.{same_found, put_object, at_put, at_else}
use Rattle.slate_script_events.specs.declared.cluster_cause.ClusterCause.TheVariants as cause
use Rattle.slate_script_events.specs.declared.db_spec.DbSpec.{DbSpec}
use Rattle.slate_cluster_protocol.specs.Lawful.{IsAccepted}
use Rattle.slate_cluster_protocol.specs.OpeningStore.{manifest_of, record_in, record_of, table_in, table_of, brought, put_value}
use Rattle.slate_cluster_protocol.specs.Specs.{First, tallies_from, checkpoints_from, are_ids_fine, are_trees_in_order, compaction_ids, table_ids, is_seen, seen_from, do_differ, table_bytes, table_added, tables_from, all_tables_from, objects_of, cause_beside, cause_of_specs, listed_or_none, no_objects, store_from, opening_world}
use Rattle.slate_cluster_laws.proofs.Beginnings.{spec_of, spec_here, spec_there, AllNamed, named_parts, Tallies, more, is_new, tally_here, none_twice, Firsts, has_more, later, last_at, last_here, last_else, first_for, firsts_found, firsts_else, by_text, texts_differ}
use Rattle.slate_cluster_laws.proofs.OpeningRecords.{records_else, first_record, record_for, records_found}
use Rattle.slate_cluster_laws.proofs.OpeningTables.{IsMade, made_of, Table, AllIds, tables_else}
use Rattle.slate_cluster_laws.proofs.Paths.{ulid_back}
use Rattle.slate_cluster_laws.proofs.Pools.{ulid_order}
use Rattle.slate_cluster_laws.proofs.Stores.{same_name}

abbrev Id : Type 0
Id = ℕ × ℕ

-- ---- ids that came before

or_right : (a b : Bool) → b ≡ true → (a || b) ≡ true
or_right true b h = refl
or_right false b h = h

same_ulid : (x y : Id) → (x ≡ y) ⊎ (x ≢ y)
same_ulid x y = test (is_at (ulid_cmp x) y) refl
  where
    test : (b : Bool) → is_at (ulid_cmp x) y ≡ b → (x ≡ y) ⊎ (x ≢ y)
    test true is = inl (ulid_order.one x y is)
    test false is = inr (λ (e : x ≡ y). absurd (cc (subst (λ z. is_at (ulid_cmp x) z ≡ true) e (ulid_order.itself x), is)))

-- an id that is noted came before
seen_itself : (x : Id) (seen : List Id) → is_seen x (insert_key ulid_cmp seen x) ≡ true
seen_itself x [] = ap (λ (b : Bool). b || false) (ulid_order.itself x)
seen_itself x (y ∷ ys) = step (ulid_cmp x y) refl (seen_itself x ys)
  where
    step : (r : Ordering) → ulid_cmp x y ≡ r → is_seen x (insert_key ulid_cmp ys x) ≡ true → is_seen x (match_ordering r (x ∷ y ∷ ys) (y ∷ ys) (y ∷ insert_key ulid_cmp ys x)) ≡ true
    step Less at rest = ap (λ (b : Bool). b || is_seen x (y ∷ ys)) (ulid_order.itself x)
    step Equal at rest = ap (λ (b : Bool). b || is_seen x ys) (ap is_eq at)
    step Greater at rest = or_right (is_at (ulid_cmp x) y) (is_seen x (insert_key ulid_cmp ys x)) rest

-- and so did those before it
seen_more : (x id : Id) (seen : List Id) → is_seen x seen ≡ true → is_seen x (insert_key ulid_cmp seen id) ≡ true
seen_more x id [] h = absurd cc
seen_more x id (y ∷ ys) h = step (ulid_cmp id y) (seen_more x id ys)
  where
    either : (b : Bool) → (b || is_seen x ys) ≡ true → (is_seen x ys ≡ true → is_seen x (insert_key ulid_cmp ys id) ≡ true) → (b || is_seen x (insert_key ulid_cmp ys id)) ≡ true
    either true k rest = refl
    either false k rest = rest k

    step : (r : Ordering) → (is_seen x ys ≡ true → is_seen x (insert_key ulid_cmp ys id) ≡ true) → is_seen x (match_ordering r (id ∷ y ∷ ys) (y ∷ ys) (y ∷ insert_key ulid_cmp ys id)) ≡ true
    step Less rest = or_right (is_at (ulid_cmp x) id) (is_seen x (y ∷ ys)) h
    step Equal rest = h
    step Greater rest = either (is_at (ulid_cmp x) y) h rest

-- the first of ids that differ is new
record IsUnseen (seen : List Id) (id : Id) (ids all : List Id) : Type 0 where
  pub fresh : is_seen id seen ≡ false
  pub rest : seen_from (insert_key ulid_cmp seen id) ids ≡ Some all

is_unseen : (seen : List Id) (id : Id) (ids all : List Id) → seen_from seen (id ∷ ids) ≡ Some all → IsUnseen seen id ids all
is_unseen seen id ids all h = test (is_seen id seen) refl h
  where
    test : (b : Bool) → is_seen id seen ≡ b → (if b then None else seen_from (insert_key ulid_cmp seen id) ids) ≡ Some all → IsUnseen seen id ids all
    test true is h = absurd cc
    test false is h = record { fresh = is; rest = h }

-- after the first ids the others still differ
record Differs (ids all : List Id) : Type 0 where
  pub seen : List Id
  pub is : seen_from seen ids ≡ Some all

differ_on : (xs ys seen all : List Id) → seen_from seen (xs ++ ys) ≡ Some all → Differs ys all
differ_on [] ys seen all h = record { seen = seen; is = h }
differ_on (x ∷ xs) ys seen all h = differ_on xs ys (insert_key ulid_cmp seen x) all (is_unseen seen x (xs ++ ys) all h).rest

-- ---- the table of an id

abbrev known : Id → List Table → Option SsTableInfo
known x tables = lookup (is_at (ulid_cmp x)) tables

abbrev ids_in : List Table → List Id
ids_in tables = map (λ t. t.0) tables

known_here : (x : Id) (t : Table) (tables : List Table) → x ≡ t.0 → known x (t ∷ tables) ≡ Some t.1
known_here x t tables e = ap (λ (b : Bool). cond b (Some t.1) (known x tables)) (subst (λ z. is_at (ulid_cmp x) z ≡ true) e (ulid_order.itself x))

known_there : (x : Id) (t : Table) (tables : List Table) → x ≢ t.0 → known x (t ∷ tables) ≡ known x tables
known_there x t tables ne = ap (λ (b : Bool). cond b (Some t.1) (known x tables)) (off (is_at (ulid_cmp x) t.0) (ulid_order.one x t.0))
  where
    off : (b : Bool) → (b ≡ true → x ≡ t.0) → b ≡ false
    off true f = absurd (ne (f refl))
    off false f = refl

-- an id that came before isn't among ids that differ from it
none_again : (x : Id) (tables : List Table) (rest seen all : List Id) → seen_from seen (ids_in tables ++ rest) ≡ Some all → is_seen x seen ≡ true → known x tables ≡ None
none_again x [] rest seen all h there = refl
none_again x (t ∷ tables) rest seen all h there =
    let u = is_unseen seen t.0 (ids_in tables ++ rest) all h in
    ⊎_elim
    (λ (e : x ≡ t.0). absurd (cc (subst (λ z. is_seen z seen ≡ true) e there, u.fresh)))
    (λ (ne : x ≢ t.0). known_there x t tables ne ∙ none_again x tables rest (insert_key ulid_cmp seen t.0) all u.rest (seen_more x t.0 seen there))
    (same_ulid x t.0)

-- ---- a table that is added

record Added (firsts : Firsts) (spec : DbSpec) (id : Id) (o : Option (List ℕ)) (objects : Firsts) : Type 0 where
  pub bytes : List ℕ
  pub is : o ≡ Some bytes
  pub put : insert_entry path_cmp firsts (paths.Table spec.path id) (bytes, spec.modified) ≡ objects

added_of : (firsts : Firsts) (spec : DbSpec) (id : Id) (o : Option (List ℕ)) (objects : Firsts) → table_added firsts spec id o ≡ Some objects → Added firsts spec id o objects
added_of firsts spec id None objects h = absurd cc
added_of firsts spec id (Some bytes) objects h = record { bytes = bytes; is = refl; put = cc }

module _ (d : List ℕ) (x : Id) (fine : IsFine (paths.Table d x)) where
  abbrev own : ObjectPath
  own = paths.Table d x

  -- none of these tables of a database is the one of this path
  abbrev AllOther : DbSpec → List Table → Type 0
  AllOther spec [] = Unit {0}
  AllOther spec (t ∷ tables) = (own ≢ paths.Table spec.path t.0) × AllOther spec tables

  all_apart : (spec : DbSpec) → d ≢ spec.path → (tables : List Table) → AllOther spec tables
  all_apart spec ne [] = tt
  all_apart spec ne (t ∷ tables) = ((λ (e : own ≡ paths.Table spec.path t.0). ne cc), all_apart spec ne tables)

  all_missing : (spec : DbSpec) (tables : List Table) → known x tables ≡ None → AllOther spec tables
  all_missing spec [] none = tt
  all_missing spec (t ∷ tables) none =
      ⊎_elim
      (λ (e : x ≡ t.0). absurd (cc (known_here x t tables e, none)))
      (λ (ne : x ≢ t.0). ((λ (e : own ≡ paths.Table spec.path t.0). ne cc), all_missing spec tables (sym (known_there x t tables ne) ∙ none)))
      (same_ulid x t.0)

  -- a table elsewhere changes nothing here
  one_else : (firsts : Firsts) (spec : DbSpec) (t : Table) (objects : Firsts) → is_db_path spec.path ≡ true → is_id t.0 ≡ true → own ≢ paths.Table spec.path t.0 → table_added firsts spec t.0 (table_bytes t.1) ≡ Some objects → last_at own objects ≡ last_at own firsts
  one_else firsts spec t objects named is ne h =
      let a = added_of firsts spec t.0 (table_bytes t.1) objects h in
      ap (last_at own) (sym a.put)
      ∙ last_else (paths.Table spec.path t.0) own (a.bytes, spec.modified) firsts (λ same. ne (same_path own (paths.Table spec.path t.0) fine (named, ulid_back t.0 is) same))

  past : (firsts : Firsts) (spec : DbSpec) (tables : List Table) (objects : Firsts) → is_db_path spec.path ≡ true → AllIds tables → AllOther spec tables → tables_from firsts spec tables ≡ Some objects → last_at own objects ≡ last_at own firsts
  past firsts spec [] objects named ids other h = let same : firsts ≡ objects = cc in ap (last_at own) (sym same)
  past firsts spec (t ∷ tables) objects named ids other h =
      let both = and_parts (is_id t.0) (list_all (λ u. is_id u.0) tables) ids in
      let first = has_more (table_added firsts spec t.0 (table_bytes t.1)) (λ (more : Firsts). tables_from more spec tables) objects h in
      past first.more spec tables objects named both.1 other.1 first.rest ∙ one_else firsts spec t first.more named both.0 other.0 first.is

  -- the table of this path among those of its database
  own_found : (firsts : Firsts) (spec : DbSpec) (tables : List Table) (rest seen all : List Id) (objects : Firsts) → d ≡ spec.path → is_db_path spec.path ≡ true → AllIds tables → seen_from seen (ids_in tables ++ rest) ≡ Some all
      → tables_from firsts spec tables ≡ Some objects → last_at own firsts ≡ None → last_at own objects ≡ table_in spec (known x tables)
  own_found firsts spec [] rest seen all objects same named ids differ h absent = let e : firsts ≡ objects = cc in ap (last_at own) (sym e) ∙ absent
  own_found firsts spec (t ∷ tables) rest seen all objects same named ids differ h absent =
      let both = and_parts (is_id t.0) (list_all (λ u. is_id u.0) tables) ids in
      let first = has_more (table_added firsts spec t.0 (table_bytes t.1)) (λ (more : Firsts). tables_from more spec tables) objects h in
      let u = is_unseen seen t.0 (ids_in tables ++ rest) all differ in
      ⊎_elim
      (λ (e : x ≡ t.0).
      let a = added_of firsts spec t.0 (table_bytes t.1) first.more first.is in
      let path : own ≡ paths.Table spec.path t.0 = ap (λ (n : List ℕ). paths.Table n x) same ∙ ap (λ (i : Id). paths.Table spec.path i) e in
      let here : last_at own first.more ≡ Some (a.bytes, spec.modified)
      = ap (last_at own) (sym a.put) ∙ subst (λ (p : ObjectPath). last_at own (insert_entry path_cmp firsts p (a.bytes, spec.modified)) ≡ Some (a.bytes, spec.modified)) path (last_here own (a.bytes, spec.modified) firsts absent) in
      let none = none_again x tables rest (insert_key ulid_cmp seen t.0) all u.rest (subst (λ (i : Id). is_seen i (insert_key ulid_cmp seen t.0) ≡ true) (sym e) (seen_itself t.0 seen)) in
      past first.more spec tables objects named both.1 (all_missing spec tables none) first.rest
      ∙ (here ∙ (ap (λ (o : Option (List ℕ)). Some (listed_or_none o, spec.modified)) (sym a.is) ∙ sym (ap (table_in spec) (known_here x t tables e)))))
      (λ (ne : x ≢ t.0).
      let apart = λ (e : own ≡ paths.Table spec.path t.0). ne cc in
      own_found first.more spec tables rest (insert_key ulid_cmp seen t.0) all objects same named both.1 u.rest first.rest (one_else firsts spec t first.more named both.0 apart first.is ∙ absent)
      ∙ sym (ap (table_in spec) (known_there x t tables ne)))
      (same_ulid x t.0)

  -- where no database is at the path, the tables change nothing there
  all_past : (firsts : Firsts) (specs : List DbSpec) (objects : Firsts) → AllNamed specs → spec_of d specs ≡ None → all_tables_from firsts specs ≡ Some objects → last_at own objects ≡ last_at own firsts
  all_past firsts [] objects names none h = let same : firsts ≡ objects = cc in ap (last_at own) (sym same)
  all_past firsts (spec ∷ specs) objects names none h =
      let parts = named_parts spec specs names in
      let first = has_more (tables_from firsts spec spec.tables) (λ (os : Firsts). all_tables_from os specs) objects h in
      ⊎_elim
      (λ (e : d ≡ spec.path). absurd (cc (spec_here d spec specs e, none)))
      (λ (ne : d ≢ spec.path).
      all_past first.more specs objects parts.rest (sym (spec_there d spec specs ne) ∙ none) first.rest ∙ past firsts spec spec.tables first.more parts.path parts.tables (all_apart spec ne spec.tables) first.is)
      (same_name d spec.path)

  tables_found : (tallies : Tallies) (firsts : Firsts) (specs : List DbSpec) (all : Tallies) (seen ids : List Id) (objects : Firsts) → AllNamed specs → tallies_from tallies specs ≡ Some all → seen_from seen (flat_map table_ids specs) ≡ Some ids
      → all_tables_from firsts specs ≡ Some objects → last_at own firsts ≡ None → last_at own objects ≡ table_of x (spec_of d specs)
  tables_found tallies firsts [] all seen ids objects names h differ k absent = let same : firsts ≡ objects = cc in ap (last_at own) (sym same) ∙ absent
  tables_found tallies firsts (spec ∷ specs) all seen ids objects names h differ k absent =
      let new = is_new tallies spec specs all h in
      let parts = named_parts spec specs names in
      let first = has_more (tables_from firsts spec spec.tables) (λ (os : Firsts). all_tables_from os specs) objects k in
      ⊎_elim
      (λ (e : d ≡ spec.path).
      all_past first.more specs objects parts.rest (none_twice d (more tallies spec) specs all new.rest (ap is_some (tally_here d tallies spec e))) first.rest
      ∙ (own_found firsts spec spec.tables (flat_map table_ids specs) seen ids first.more e parts.path parts.tables differ first.is absent
      ∙ sym (ap (table_of x) (spec_here d spec specs e))))
      (λ (ne : d ≢ spec.path).
      let on = differ_on (table_ids spec) (flat_map table_ids specs) seen ids differ in
      tables_found (more tallies spec) first.more specs all on.seen ids objects parts.rest new.rest on.is first.rest
      (past firsts spec spec.tables first.more parts.path parts.tables (all_apart spec ne spec.tables) first.is ∙ absent)
      ∙ sym (ap (table_of x) (spec_there d spec specs ne)))
      (same_name d spec.path)

-- ---- the store

none_after : (o : Option First) → later o None ≡ o
none_after None = refl
none_after (Some v) = refl

-- after puts the last one of a path is found
first_found : (p : ObjectPath) (s : Store) (os : Firsts) → option_map put_value (object_at p (store_from s os)) ≡ later (last_at p os) (option_map put_value (object_at p s))
first_found p s [] = refl
first_found p s (o ∷ os) = first_found p (stored o.0 o.1.0 o.1.1 s) os ∙ test (is_at (path_cmp p) o.0) refl
  where
    either : (y : Option First) (v : First) (t : Option First) → later y (Some v) ≡ later (later y (Some v)) t
    either None v t = refl
    either (Some y) v t = refl

    only : (y t : Option First) → later y t ≡ later (later y None) t
    only None t = refl
    only (Some y) t = refl

    test : (b : Bool) → is_at (path_cmp p) o.0 ≡ b → later (last_at p os) (option_map put_value (object_at p (stored o.0 o.1.0 o.1.1 s))) ≡ later (later (last_at p os) (if b then Some o.1 else None)) (option_map put_value (object_at p s))
    test true is =
        let at : object_at p (stored o.0 o.1.0 o.1.1 s) ≡ Some (put_object s o.1.0 o.1.1) = by_text p o.0 (stored o.0 o.1.0 o.1.1 s) (same_found p o.0 is) ∙ at_put o.0 o.1.0 o.1.1 s in
        ap (λ (y : Option StoredObject). later (last_at p os) (option_map put_value y)) at ∙ either (last_at p os) o.1 (option_map put_value (object_at p s))
    test false is =
        let away = at_else o.0 p o.1.0 o.1.1 s (texts_differ p o.0 is) in
        ap (λ (y : Option StoredObject). later (last_at p os) (option_map put_value y)) away ∙ only (last_at p os) (option_map put_value (object_at p s))

-- ---- what accepted databases are made of

pub record Begun (specs : List DbSpec) : Type 0 where
  pub tallies : Tallies
  pub tallied : tallies_from [] specs ≡ Some tallies
  pub ids : List Id
  pub differ : seen_from [] (flat_map table_ids specs) ≡ Some ids
  pub objects : Firsts
  pub is : objects_of specs ≡ Some objects

-- where ids are fine, those of tables differ
tables_differ : (a b c d : Bool) → (a && (b && (c && d))) ≡ true → b ≡ true
tables_differ true true c d h = refl
tables_differ true false c d h = absurd cc
tables_differ false b c d h = absurd cc

pub begun_of : (specs : List DbSpec) → cause_of_specs specs ≡ None → Begun specs
begun_of specs h = by_parts (tallies_from [] specs) (are_ids_fine specs) (objects_of specs) refl refl refl h
  where
    with_ids : (t : Tallies) (o : Firsts) → tallies_from [] specs ≡ Some t → objects_of specs ≡ Some o → (seen : Option (List Id)) → seen_from [] (flat_map table_ids specs) ≡ seen → is_some seen ≡ true → Begun specs
    with_ids t o is_t is_o None is there = absurd cc
    with_ids t o is_t is_o (Some ids) is there = record { tallies = t; tallied = is_t; ids = ids; differ = is; objects = o; is = is_o }

    by_parts : (t : Option Tallies) (fine : Bool) (o : Option Firsts) → tallies_from [] specs ≡ t → are_ids_fine specs ≡ fine → objects_of specs ≡ o
        → (if not (is_some t) then Some cause.Path else (if not fine then Some cause.Ids else (if not (is_some o) then Some cause.Value else cause_beside (listed_or_none o) specs))) ≡ None
        → Begun specs
    by_parts (Some t) true (Some o) is_t fine is_o h =
        with_ids t o is_t is_o (seen_from [] (flat_map table_ids specs)) refl
        (tables_differ (is_some (checkpoints_from [] specs)) (do_differ (flat_map table_ids specs)) (do_differ (flat_map compaction_ids specs)) (list_all are_trees_in_order specs) fine)
    by_parts None fine o is_t is_f is_o h = absurd cc
    by_parts (Some t) false o is_t is_f is_o h = absurd cc
    by_parts (Some t) true None is_t is_f is_o h = absurd cc

same_manifest : (o : Option DbSpec) → first_for o None ≡ manifest_of o
same_manifest None = refl
same_manifest (Some spec) = refl

same_record_in : (spec : DbSpec) (o : Option Record) → first_record spec o ≡ record_in spec o
same_record_in spec None = refl
same_record_in spec (Some r) = refl

same_record : (o : Option DbSpec) → record_for o ≡ record_of o
same_record None = refl
same_record (Some spec) = same_record_in spec spec.compactions

module _ (specs : List DbSpec) (accepted : IsAccepted specs) where
  begun : Begun specs
  begun = begun_of specs accepted.accepted

  made : IsMade specs begun.objects
  made = made_of specs begun.objects begun.is

  names : AllNamed specs
  names = accepted.named

  at_path : (p : ObjectPath) → option_map put_value (object_at p (opening_world specs).store) ≡ last_at p begun.objects
  at_path p =
      ap (λ (o : Option Firsts). option_map put_value (object_at p (store_from no_objects (listed_or_none o)))) begun.is
      ∙ (first_found p no_objects begun.objects ∙ none_after (last_at p begun.objects))

  -- beside the tables
  no_tables : (p : ObjectPath) → IsFine p → ((db : List ℕ) (id : Id) → p ≢ paths.Table db id) → last_at p begun.objects ≡ last_at p made.records
  no_tables p fine away = tables_else p (record { fine = fine; away = away }) made.records specs begun.objects names made.added

  no_records : (p : ObjectPath) → IsFine p → ((db : List ℕ) → p ≢ paths.Record db 1) → last_at p made.records ≡ last_at p made.firsts
  no_records p fine away = records_else p fine away made.firsts specs made.records names made.recorded

  no_manifests : (p : ObjectPath) → IsFine p → ((db : List ℕ) → p ≢ paths.Manifest db 1) → last_at p made.firsts ≡ None
  no_manifests p fine away = firsts_else p (λ spec named same. away spec.path (same_path p (paths.Manifest spec.path 1) fine (named, omega arith) same)) [] specs made.firsts names made.written

  nothing : (p : ObjectPath) → IsFine p → ((db : List ℕ) (id : Id) → p ≢ paths.Table db id) → ((db : List ℕ) → p ≢ paths.Record db 1) → ((db : List ℕ) → p ≢ paths.Manifest db 1) → last_at p begun.objects ≡ None
  nothing p fine no_table no_record no_manifest = no_tables p fine no_table ∙ (no_records p fine no_record ∙ no_manifests p fine no_manifest)

  one_is : (n : ℕ) → (n == 1) ≡ true → n ≡ 1
  one_is n e = grind (arith, nat_tests)

  one_isnt : (n : ℕ) → (n == 1) ≡ false → n ≢ 1
  one_isnt n e = grind (arith, nat_tests)

  manifest_stands : (d : List ℕ) (n : ℕ) → IsFine (paths.Manifest d n) → (b : Bool) → (n == 1) ≡ b → last_at (paths.Manifest d n) begun.objects ≡ (if b then manifest_of (spec_of d specs) else None)
  manifest_stands d n fine true is =
      let found : last_at (paths.Manifest d 1) made.firsts ≡ manifest_of (spec_of d specs)
      = firsts_found d fine.0 [] [] specs begun.tallies made.firsts names begun.tallied made.written (λ h. refl) ∙ same_manifest (spec_of d specs) in
      no_tables (paths.Manifest d n) fine (λ db id e. absurd cc)
      ∙ (no_records (paths.Manifest d n) fine (λ db e. absurd cc)
      ∙ (ap (λ (j : ℕ). last_at (paths.Manifest d j) made.firsts) (one_is n is) ∙ found))
  manifest_stands d n fine false is = nothing (paths.Manifest d n) fine (λ db id e. absurd cc) (λ db e. absurd cc) (λ db e. one_isnt n is cc)

  record_stands : (d : List ℕ) (n : ℕ) → IsFine (paths.Record d n) → (b : Bool) → (n == 1) ≡ b → last_at (paths.Record d n) begun.objects ≡ (if b then record_of (spec_of d specs) else None)
  record_stands d n fine true is =
      let absent : last_at (paths.Record d 1) made.firsts ≡ None = no_manifests (paths.Record d 1) (fine.0, omega arith) (λ db e. absurd cc) in
      let found : last_at (paths.Record d 1) made.records ≡ record_of (spec_of d specs)
      = records_found d fine.0 [] made.firsts specs begun.tallies made.records names begun.tallied made.recorded absent ∙ same_record (spec_of d specs) in
      no_tables (paths.Record d n) fine (λ db id e. absurd cc)
      ∙ (ap (λ (j : ℕ). last_at (paths.Record d j) made.records) (one_is n is) ∙ found)
  record_stands d n fine false is = nothing (paths.Record d n) fine (λ db id e. absurd cc) (λ db e. one_isnt n is cc) (λ db e. absurd cc)

  table_stands : (d : List ℕ) (x : Id) → IsFine (paths.Table d x) → last_at (paths.Table d x) begun.objects ≡ table_of x (spec_of d specs)
  table_stands d x fine =
      tables_found d x fine [] made.records specs begun.tallies [] begun.ids begun.objects names begun.tallied begun.differ made.added
      (no_records (paths.Table d x) fine (λ db e. absurd cc) ∙ no_manifests (paths.Table d x) fine (λ db e. absurd cc))

  pub opening_stands : (p : ObjectPath) → IsFine p → option_map put_value (object_at p (opening_world specs).store) ≡ brought specs p
  opening_stands (paths.Manifest d n) fine = at_path (paths.Manifest d n) ∙ manifest_stands d n fine (n == 1) refl
  opening_stands (paths.Record d n) fine = at_path (paths.Record d n) ∙ record_stands d n fine (n == 1) refl
  opening_stands (paths.Table d x) fine = at_path (paths.Table d x) ∙ table_stands d x fine
  opening_stands (paths.ManifestBoundary d) fine = at_path (paths.ManifestBoundary d) ∙ nothing (paths.ManifestBoundary d) fine (λ db id e. absurd cc) (λ db e. absurd cc) (λ db e. absurd cc)
  opening_stands (paths.RecordBoundary d) fine = at_path (paths.RecordBoundary d) ∙ nothing (paths.RecordBoundary d) fine (λ db id e. absurd cc) (λ db e. absurd cc) (λ db e. absurd cc)
  opening_stands (paths.Wal d n) fine = at_path (paths.Wal d n) ∙ nothing (paths.Wal d n) fine (λ db id e. absurd cc) (λ db e. absurd cc) (λ db e. absurd cc)
  opening_stands (paths.Marker d) fine = at_path (paths.Marker d) ∙ nothing (paths.Marker d) fine (λ db id e. absurd cc) (λ db e. absurd cc) (λ db e. absurd cc)
  opening_stands (paths.Other d rest) fine = at_path (paths.Other d rest) ∙ nothing (paths.Other d rest) fine (λ db id e. absurd cc) (λ db e. absurd cc) (λ db e. absurd cc)
