-- The first records that stand as a run begins: each at a path of its own.
use Rattle.std.proofs.Common.{◌≡◌, ◌≢◌, ℕ, true, List, [], ◌∷◌, Option, Some, None, is_some, Result, Ok, Err, Bool, false, ⊎_elim, refl, sym, ap, ◌∙◌, subst, arith}
use Rattle.std.specs.BTreeMap.{insert_entry}
use Rattle.slate_ids.specs.FinePath.{IsFine}
use Rattle.slate_ids.specs.Ids.{is_db_path}
use Rattle.slate_ids.specs.PathText.{path_text, path_cmp}
use Rattle.slate_ids.specs.declared.error.SlateDBError.{SlateDBError}
use Rattle.slate_ids.specs.declared.object_path.ObjectPath.{ObjectPath}
use Rattle.slate_ids.specs.declared.object_path.ObjectPath.TheVariants as paths
use Rattle.slate_ids.proofs.PathsApart.{same_path}
use Rattle.slate_layout.specs.RecordCodec.{record_encoded}
use Rattle.slate_layout.specs.laws.Codecs.{record_codec_trip}
use Rattle.slate_layout_records.specs.RecordBytes.{decoded_record}
use Rattle.slate_layout_records.proofs.NormalLaws.{normal_only}
use Rattle.slate_layout_records.specs.NormalRecords.{is_normal_record}
use Rattle.slate_model_records.specs.Records.{Record}
use Rattle.slate_script_events.specs.declared.db_spec.DbSpec.{DbSpec}
use Rattle.slate_cluster_protocol.specs.Specs.{First, tallies_from, bytes_where, record_bytes, record_written, record_added, records_from, listed_or_none}
use Rattle.slate_cluster_laws.proofs.Beginnings.{spec_of, spec_here, spec_there, AllNamed, named_parts, Tallies, more, is_new, tally_here, none_twice, Firsts, has_more, last_at, last_here, last_else, AllFine, fine_put}
use Rattle.slate_cluster_laws.proofs.Stores.{same_name}

-- ---- what each record that is added keeps, all of them keep

module _ (P : Firsts → Type 0) (firsts : Firsts) (spec : DbSpec) (p : P firsts) (keeps : (v : First) → P (insert_entry path_cmp firsts (paths.Record spec.path 1) v)) where
  written_keeps : (o : Option (List ℕ)) (objects : Firsts) → record_written firsts spec o ≡ Some objects → P objects
  written_keeps None objects h = absurd cc
  written_keeps (Some bytes) objects h = let same : insert_entry path_cmp firsts (paths.Record spec.path 1) (bytes, spec.modified) ≡ objects = cc in subst P same (keeps (bytes, spec.modified))

  pub added_keeps : (o : Option Record) (objects : Firsts) → record_added firsts spec o ≡ Some objects → P objects
  added_keeps None objects h = let same : firsts ≡ objects = cc in subst P same p
  added_keeps (Some r) objects h = written_keeps (record_bytes r) objects h

module _ (P : Firsts → Type 0) (keeps : (db : List ℕ) (v : First) (os : Firsts) → is_db_path db ≡ true → P os → P (insert_entry path_cmp os (paths.Record db 1) v)) where
  pub records_keep : (firsts : Firsts) (specs : List DbSpec) (objects : Firsts) → AllNamed specs → records_from firsts specs ≡ Some objects → P firsts → P objects
  records_keep firsts [] objects names h p = let same : firsts ≡ objects = cc in subst P same p
  records_keep firsts (spec ∷ specs) objects names h p =
      let parts = named_parts spec specs names in
      let first = has_more (record_added firsts spec spec.compactions) (λ (os : Firsts). records_from os specs) objects h in
      records_keep first.more specs objects parts.rest first.rest (added_keeps P firsts spec p (λ v. keeps spec.path v firsts parts.path p) spec.compactions first.more first.is)

-- at a path that is no first record's they change nothing
pub records_else : (q : ObjectPath) → IsFine q → ((db : List ℕ) → q ≢ paths.Record db 1) → (firsts : Firsts) (specs : List DbSpec) (objects : Firsts) → AllNamed specs → records_from firsts specs ≡ Some objects
    → last_at q objects ≡ last_at q firsts
records_else q fine away firsts specs objects names h =
    records_keep
    (λ (os : Firsts). last_at q os ≡ last_at q firsts)
    (λ db v os named kept. last_else (paths.Record db 1) q v os (λ same. away db (same_path q (paths.Record db 1) fine (named, omega arith) same)) ∙ kept)
    firsts specs objects names h refl

-- their paths are fine
pub records_fine : (firsts : Firsts) (specs : List DbSpec) (objects : Firsts) → AllNamed specs → records_from firsts specs ≡ Some objects → AllFine firsts → AllFine objects
records_fine firsts specs objects names h fine = records_keep AllFine (λ db v os named kept. fine_put (paths.Record db 1) v (named, omega arith) os kept) firsts specs objects names h fine

-- ---- the record of one database

-- the first record of a database, where it has one
abbrev pub first_record : DbSpec → Option Record → Option First
first_record spec None = None
first_record spec (Some r) = Some (listed_or_none (record_bytes r), spec.modified)

abbrev pub record_for : Option DbSpec → Option First
record_for None = None
record_for (Some spec) = first_record spec spec.compactions

module _ (d : List ℕ) (named : is_db_path d ≡ true) where
  abbrev own : ObjectPath
  own = paths.Record d 1

  -- the path of another database's first record
  apart : (spec : DbSpec) → is_db_path spec.path ≡ true → d ≢ spec.path → path_text own ≢ path_text (paths.Record spec.path 1)
  apart spec other ne = λ e. let same : own ≡ paths.Record spec.path 1 = same_path own (paths.Record spec.path 1) (named, omega arith) (other, omega arith) e in ne cc

  other_added : (firsts : Firsts) (spec : DbSpec) (objects : Firsts) → is_db_path spec.path ≡ true → d ≢ spec.path → record_added firsts spec spec.compactions ≡ Some objects → last_at own objects ≡ last_at own firsts
  other_added firsts spec objects fine ne h =
      added_keeps (λ (os : Firsts). last_at own os ≡ last_at own firsts) firsts spec refl (λ v. last_else (paths.Record spec.path 1) own v firsts (apart spec fine ne)) spec.compactions objects h

  -- where no other database is at the path, the records change nothing there
  records_past : (firsts : Firsts) (specs : List DbSpec) (objects : Firsts) → AllNamed specs → spec_of d specs ≡ None → records_from firsts specs ≡ Some objects → last_at own objects ≡ last_at own firsts
  records_past firsts [] objects names none h = let same : firsts ≡ objects = cc in ap (last_at own) (sym same)
  records_past firsts (spec ∷ specs) objects names none h =
      let parts = named_parts spec specs names in
      let first = has_more (record_added firsts spec spec.compactions) (λ (os : Firsts). records_from os specs) objects h in
      ⊎_elim
      (λ (e : d ≡ spec.path). absurd (cc (spec_here d spec specs e, none)))
      (λ (ne : d ≢ spec.path). records_past first.more specs objects parts.rest (sym (spec_there d spec specs ne) ∙ none) first.rest ∙ other_added firsts spec first.more parts.path ne first.is)
      (same_name d spec.path)

  own_written : (firsts : Firsts) (spec : DbSpec) (o : Option (List ℕ)) (objects : Firsts) → d ≡ spec.path → last_at own firsts ≡ None → record_written firsts spec o ≡ Some objects → last_at own objects ≡ Some (listed_or_none o, spec.modified)
  own_written firsts spec None objects e absent h = absurd cc
  own_written firsts spec (Some bytes) objects e absent h =
      let same : insert_entry path_cmp firsts (paths.Record spec.path 1) (bytes, spec.modified) ≡ objects = cc in
      let path : own ≡ paths.Record spec.path 1 = ap (λ (x : List ℕ). paths.Record x 1) e in
      ap (last_at own) (sym same)
      ∙ subst (λ (p : ObjectPath). last_at own (insert_entry path_cmp firsts p (bytes, spec.modified)) ≡ Some (bytes, spec.modified)) path (last_here own (bytes, spec.modified) firsts absent)

  own_added : (firsts : Firsts) (spec : DbSpec) (o : Option Record) (objects : Firsts) → d ≡ spec.path → last_at own firsts ≡ None → record_added firsts spec o ≡ Some objects → last_at own objects ≡ first_record spec o
  own_added firsts spec None objects e absent h = let same : firsts ≡ objects = cc in ap (last_at own) (sym same) ∙ absent
  own_added firsts spec (Some r) objects e absent h = own_written firsts spec (record_bytes r) objects e absent h

  pub records_found : (tallies : Tallies) (firsts : Firsts) (specs : List DbSpec) (all : Tallies) (objects : Firsts) → AllNamed specs → tallies_from tallies specs ≡ Some all → records_from firsts specs ≡ Some objects
      → last_at own firsts ≡ None → last_at own objects ≡ record_for (spec_of d specs)
  records_found tallies firsts [] all objects names h k absent = let same : firsts ≡ objects = cc in ap (last_at own) (sym same) ∙ absent
  records_found tallies firsts (spec ∷ specs) all objects names h k absent =
      let new = is_new tallies spec specs all h in
      let parts = named_parts spec specs names in
      let first = has_more (record_added firsts spec spec.compactions) (λ (os : Firsts). records_from os specs) objects k in
      ⊎_elim
      (λ (e : d ≡ spec.path).
      records_past first.more specs objects parts.rest (none_twice d (more tallies spec) specs all new.rest (ap is_some (tally_here d tallies spec e))) first.rest
      ∙ (own_added firsts spec spec.compactions first.more e absent first.is ∙ sym (ap record_for (spec_here d spec specs e))))
      (λ (ne : d ≢ spec.path).
      records_found (more tallies spec) first.more specs all objects parts.rest new.rest first.rest (other_added firsts spec first.more parts.path ne first.is ∙ absent) ∙ sym (ap record_for (spec_there d spec specs ne)))
      (same_name d spec.path)

-- ---- its bytes

-- a record has bytes
pub record HasBytes (r : Record) : Type 0 where
  pub bytes : List ℕ
  pub is : record_bytes r ≡ Some bytes

written_bytes : (firsts : Firsts) (spec : DbSpec) (r : Record) (o : Option (List ℕ)) (objects : Firsts) → record_bytes r ≡ o → record_written firsts spec o ≡ Some objects → HasBytes r
written_bytes firsts spec r None objects is h = absurd cc
written_bytes firsts spec r (Some bytes) objects is h = record { bytes = bytes; is = is }

pub record_has_bytes : (d : List ℕ) (firsts : Firsts) (specs : List DbSpec) (objects : Firsts) (found : DbSpec) (r : Record) → records_from firsts specs ≡ Some objects → spec_of d specs ≡ Some found → found.compactions ≡ Some r → HasBytes r
record_has_bytes d firsts [] objects found r h at some = absurd cc
record_has_bytes d firsts (spec ∷ specs) objects found r h at some =
    let first = has_more (record_added firsts spec spec.compactions) (λ (os : Firsts). records_from os specs) objects h in
    ⊎_elim
    (λ (e : d ≡ spec.path).
    let same : spec ≡ found = cc (spec_here d spec specs e, at) in
    let own : spec.compactions ≡ Some r = ap (λ (x : DbSpec). x.compactions) same ∙ some in
    written_bytes firsts spec r (record_bytes r) first.more refl (sym (ap (record_added firsts spec) own) ∙ first.is))
    (λ (ne : d ≢ spec.path). record_has_bytes d first.more specs objects found r first.rest (sym (spec_there d spec specs ne) ∙ at) some)
    (same_name d spec.path)

-- the bytes of a first record are read back
pub record_read : (r : Record) (bytes : List ℕ) → record_bytes r ≡ Some bytes → decoded_record bytes ≡ Ok r
record_read r bytes h = by_bytes (record_encoded r) refl (is_normal_record r) refl h
  where
    by_bytes : (x : Result (List ℕ) SlateDBError) → record_encoded r ≡ x → (b : Bool) → is_normal_record r ≡ b → bytes_where b x ≡ Some bytes → decoded_record bytes ≡ Ok r
    by_bytes (Ok l) is true normal h =
        let same : l ≡ bytes = cc in
        record_codec_trip r bytes (is ∙ ap (λ (x : List ℕ). Ok x) same) ∙ ap (λ (x : Record). Ok x) (normal_only r normal)
    by_bytes (Ok l) is false normal h = absurd cc
    by_bytes (Err e) is b normal h = absurd cc
