-- A pass ends in a fault only where the store faults before its deletes, and memory runs out after a call that reads.
use Rattle.std.specs.Prelude.{◌≡◌, ◌≢◌, ℕ, ℤ, Bool, true, false, List, [], ◌∷◌, length, Option, Some, None, Result, Ok, Err, nat_le, if◌then◌else◌, refl}
use Rattle.std.proofs.Common.{◌⊎◌, inl, inr, ap, sym, subst}
use Rattle.slate_ids.specs.declared.error.FormatName.TheVariants.{Boundary as BoundaryFormat}
use Rattle.slate_ids.specs.declared.error.SlateDBError.{SlateDBError}
use Rattle.slate_ids.specs.declared.error.SlateDBError.TheVariants.{LatestTransactionalObjectVersionMissing, ManifestMissing, Corrupt, StoreFault}
use Rattle.slate_ids.specs.declared.gc_message.GcMessage.{GcMessage}
use Rattle.slate_txn_log.proofs.Advances.{advance_faults}
use Rattle.slate_txn_log.proofs.Faults.{OnlyFaults, Fine, fine_stay, fine_ok, fine_err, sound_at, list_answers, get_answers}
use Rattle.slate_txn_log.proofs.ReadFaults.{read_faults}
use Rattle.slate_txn_log.proofs.Steps.{is_reading, reads_only}
use Rattle.slate_txn_log.specs.AdvancePhase.{AdvanceGoes, advance_goes, advance_due}
use Rattle.slate_txn_log.specs.Boundary.{boundary_got, greatest}
use Rattle.slate_txn_log.specs.Due.{NoFault}
use Rattle.slate_txn_log.specs.LogPaths.{version_path, boundary_path}
use Rattle.slate_txn_log.specs.ReadPhase.{Reply, read_goes, read_due}
use Rattle.slate_txn_log.specs.declared.advance_phase.AdvancePhase.{AdvancePhase}
use Rattle.slate_txn_log.specs.declared.advance_phase.AdvancePhase.TheVariants as advancing
use Rattle.slate_txn_log.specs.declared.log_kind.LogKind.TheVariants as logs
use Rattle.slate_txn_log.specs.declared.read_phase.ReadPhase.{ReadPhase}
use Rattle.slate_txn_log.specs.declared.read_phase.ReadPhase.TheVariants as reading
use Rattle.slate_model.specs.declared.manifest.Manifest.{Manifest}
use Rattle.slate_gc_passes.specs.Candidates.{heads_at}
use Rattle.slate_gc_passes.specs.PassCounts.{one_deleted, one_failed}
use Rattle.slate_gc_passes.specs.Pass.{PassGoes, advance_to, advanced_goes, bounded_goes, chosen_goes, decoded_goes, deletes_next, fetched_goes, found_goes, got_goes, is_reading_phase, manifest_goes, manifests_goes, pass_asks, pass_due, pass_goes, record_goes}
use Rattle.slate_gc_passes.specs.Rows.{folder_of, log_of_pass, log_or_manifests, reads_greatest, target}
use Rattle.slate_gc_passes.specs.Ways.{Ways}
use Rattle.slate_gc_passes.specs.declared.heads.Heads.{Heads}
use Rattle.slate_gc_passes.specs.declared.pass_counts.PassCounts.{PassCounts}
use Rattle.slate_gc_passes.specs.declared.pass_phase.PassPhase.{PassPhase}
use Rattle.slate_gc_passes.specs.declared.pass_phase.PassPhase.TheVariants.{ReadingRecord, ReadingManifest, Fetching, Listing, Getting, Bounding, Advancing, Deleting, Over}
use Rattle.slate_gc_passes.specs.declared.pass_settings.PassSettings.{PassSettings}
use Rattle.slate_model_records.specs.Records.{Record}
use Rattle.slate_state_referenced.proofs.ReferencedFaults.{fine_rest, referenced_faults, referenced_reads}
use Rattle.slate_state_referenced.specs.Named.{named_numbers}
use Rattle.slate_state_referenced.specs.Referenced.{ReferencedGoes, referenced_due, referenced_goes}
use Rattle.slate_state_referenced.specs.declared.referenced_phase.ReferencedPhase.{ReferencedPhase}
use Rattle.slate_state_referenced.specs.declared.referenced_phase.ReferencedPhase.TheVariants as fetching
use Rattle.slate_store.specs.StoreCalls.{IsAnswerTo}
use Rattle.slate_store.specs.Machines.{Goes, Stay, End, IsEnd}
use Rattle.slate_store.specs.declared.object.ObjectMetadata.{ObjectMetadata}
use Rattle.slate_store.specs.declared.object.StoredObject.{StoredObject}
use Rattle.slate_store.specs.declared.store_answer.StoreAnswer.{StoreAnswer}
use Rattle.slate_store.specs.declared.store_answer.StoreAnswer.TheVariants.{Found, Got, Created, Replaced, Written, Deleted, Fault}

abbrev FinePass : PassGoes → Type 0
FinePass out = Fine pass_due out

-- a fault of the store that ends it, or it goes on well
abbrev pub Sound : {P R : Type 0} → (P → Bool) → StoreAnswer → Goes P R → Type 0
Sound due answer out = ((answer ≡ Fault) × IsEnd out) ⊎ Fine due out

-- a step of a part is one of the whole: a fault ends the whole, and where the part goes on well the whole does
pub around : {P R P' R' : Type 0} {due : P → Bool} {due' : P' → Bool} (over : Goes P R → Goes P' R') (answer : StoreAnswer) (out : Goes P R)
    → ((answer ≡ Fault) → IsEnd (over out)) → (Fine due out → Fine due' (over out)) → Sound due answer out → Sound due' answer (over out)
around over answer out ends fine (inl f) = inl (f.0, ends f.0)
around over answer out ends fine (inr h) = inr (fine h)

-- ---- the advance and the deletes

fine_deletes : (left : List ObjectMetadata) (counts : PassCounts) → FinePass (deletes_next left counts)
fine_deletes [] counts = fine_ok pass_due Over counts
fine_deletes (m ∷ ms) counts = fine_stay pass_due (Deleting (m ∷ ms) counts) refl

fine_to : (to : Option ℕ) (left : List ObjectMetadata) (counts : PassCounts) → FinePass (advance_to to left counts)
fine_to None left counts = fine_deletes left counts
fine_to (Some k) left counts = fine_stay pass_due (Advancing (advancing.Bounding k) left counts) refl

fine_chosen : (allows : List ObjectMetadata → List ObjectMetadata) (settings : PassSettings) (listed : ℕ) (candidates : List ObjectMetadata) → FinePass (chosen_goes allows settings listed candidates)
fine_chosen allows settings listed candidates = fine_to (target settings candidates) _ _

fine_advanced : (left : List ObjectMetadata) (counts : PassCounts) (out : AdvanceGoes) → Fine advance_due out → FinePass (advanced_goes left counts out)
fine_advanced left counts (Stay phase) fine = fine_stay pass_due (Advancing phase left counts) (fine.stays phase refl)
fine_advanced left counts (End phase (Ok done)) fine = fine_deletes left counts
fine_advanced left counts (End phase (Err e)) fine = fine_err pass_due Over e (λ same. fine.ends phase (ap (λ (k : SlateDBError). End phase (Err k)) same))

advance_ends : (left : List ObjectMetadata) (counts : PassCounts) (phase : AdvancePhase) → IsEnd (advanced_goes left counts (advance_goes phase Fault))
advance_ends left counts (advancing.Bounding n) = tt
advance_ends left counts (advancing.Creating n) = tt
advance_ends left counts (advancing.Replacing n tag) = tt
advance_ends left counts advancing.Over = tt

-- a delete that faults is counted
fine_deleted : (ways : Ways) (settings : PassSettings) (now : ℤ) (db : List ℕ) (m : ObjectMetadata) (ms : List ObjectMetadata) (counts : PassCounts) (answer : StoreAnswer)
    → IsAnswerTo (pass_asks db settings.pass (Deleting (m ∷ ms) counts)) answer → FinePass (pass_goes ways settings now (Deleting (m ∷ ms) counts) answer)
fine_deleted ways settings now db m ms counts Deleted kind = fine_deletes ms (one_deleted counts)
fine_deleted ways settings now db m ms counts Fault kind = fine_deletes ms (one_failed counts)
fine_deleted ways settings now db m ms counts _ kind = absurd kind

-- ---- the pass over the manifests, after its list

fine_above : (allows : List ObjectMetadata → List ObjectMetadata) (settings : PassSettings) (n listed : ℕ) (candidates : List ObjectMetadata) (test : Bool)
    → FinePass (if test then End Over (Err (ManifestMissing n)) else chosen_goes allows settings listed candidates)
fine_above allows settings n listed candidates true = fine_err pass_due Over (ManifestMissing n) (λ same. absurd cc)
fine_above allows settings n listed candidates false = fine_chosen allows settings listed candidates

fine_bounded : (allows : List ObjectMetadata → List ObjectMetadata) (settings : PassSettings) (n listed : ℕ) (candidates : List ObjectMetadata) (boundary : Option ℕ) → FinePass (bounded_goes allows settings n listed candidates boundary)
fine_bounded allows settings n listed candidates None = fine_err pass_due Over (Corrupt BoundaryFormat) (λ same. absurd cc)
fine_bounded allows settings n listed candidates (Some boundary) = fine_above allows settings n listed candidates (nat_le n boundary)

fine_decoded : (n listed : ℕ) (found : List ObjectMetadata) (m : Result Manifest SlateDBError) → m ≢ Err StoreFault → FinePass (decoded_goes n listed found m)
fine_decoded n listed found (Ok m) h = fine_stay pass_due _ refl
fine_decoded n listed found (Err e) h = fine_err pass_due Over e (λ same. h (ap (λ (k : SlateDBError). Err k) same))

fine_got : (manifest_of : List ℕ → Result Manifest SlateDBError) → NoFault manifest_of → (n listed : ℕ) (found : List ObjectMetadata) (object : Option StoredObject) → FinePass (got_goes manifest_of n listed found object)
fine_got manifest_of good n listed found None = fine_err pass_due Over (ManifestMissing n) (λ same. absurd cc)
fine_got manifest_of good n listed found (Some object) = fine_decoded n listed found (manifest_of object.bytes) (good object.bytes)

-- ---- the list

fine_manifests : (min_age : ℕ) (now : ℤ) (found : List ObjectMetadata) (n : Option ℕ) → FinePass (manifests_goes min_age now found n)
fine_manifests min_age now found None = fine_err pass_due Over LatestTransactionalObjectVersionMissing (λ same. absurd cc)
fine_manifests min_age now found (Some n) = fine_stay pass_due _ refl

fine_either : (first : Bool) (a b : PassGoes) → FinePass a → FinePass b → FinePass (if first then a else b)
fine_either true a b h k = h
fine_either false a b h k = k

fine_found : (ways : Ways) (settings : PassSettings) (now : ℤ) (heads : Heads) (versions : List (ℕ × Manifest)) (found : List ObjectMetadata) → FinePass (found_goes ways.allows ways.files settings now heads versions found)
fine_found ways settings now heads versions found =
    fine_either (reads_greatest settings.pass) _ _ (fine_manifests settings.options.min_age now found (greatest logs.Manifest found)) (fine_chosen ways.allows settings (length found) _)

-- ---- what is read before the list

fine_fetched : (heads : Heads) (out : ReferencedGoes) → Fine referenced_due out → FinePass (fetched_goes heads out)
fine_fetched heads (Stay phase) fine = fine_stay pass_due (Fetching heads phase) (fine.stays phase refl)
fine_fetched heads (End phase (Ok versions)) fine = fine_stay pass_due (Listing heads versions) refl
fine_fetched heads (End phase (Err e)) fine = fine_err pass_due Over e (λ same. fine.ends phase (ap (λ (k : SlateDBError). End phase (Err k)) same))

fetch_ends : (manifest_of : List ℕ → Result Manifest SlateDBError) (heads : Heads) (phase : ReferencedPhase) → referenced_due phase ≡ true → IsEnd (fetched_goes heads (referenced_goes manifest_of phase Fault))
fetch_ends manifest_of heads (fetching.Getting [] found) due = absurd cc
fetch_ends manifest_of heads (fetching.Getting (n ∷ left) found) due = tt
fetch_ends manifest_of heads fetching.Over due = absurd cc

fine_manifest : (least : ℕ) (out : Reply Manifest) → Fine read_due out → FinePass (manifest_goes least out)
fine_manifest least (Stay phase) fine = fine_stay pass_due (ReadingManifest least phase) (fine.stays phase refl)
fine_manifest least (End phase (Ok None)) fine = fine_err pass_due Over LatestTransactionalObjectVersionMissing (λ same. absurd cc)
fine_manifest least (End phase (Ok (Some version))) fine =
    fine_fetched (heads_at least version.0 version.1) _ (fine_rest (named_numbers version.0 version.1.core.checkpoints) ((version.0, version.1) ∷ []))
fine_manifest least (End phase (Err e)) fine = fine_err pass_due Over e (λ same. fine.ends phase (ap (λ (k : SlateDBError). End phase (Err k)) same))

manifest_ends : (manifest_of : List ℕ → Result Manifest SlateDBError) (least : ℕ) (phase : ReadPhase Manifest) → IsEnd (manifest_goes least (read_goes logs.Manifest manifest_of phase Fault))
manifest_ends manifest_of least reading.Listing = tt
manifest_ends manifest_of least (reading.Getting n) = tt
manifest_ends manifest_of least (reading.Bounding n m) = tt
manifest_ends manifest_of least reading.Over = tt

fine_record : (out : Reply Record) → Fine read_due out → FinePass (record_goes out)
fine_record (Stay phase) fine = fine_stay pass_due (ReadingRecord phase) (fine.stays phase refl)
fine_record (End phase (Ok None)) fine = fine_stay pass_due (ReadingManifest 0 reading.Listing) refl
fine_record (End phase (Ok (Some version))) fine = fine_stay pass_due _ refl
fine_record (End phase (Err e)) fine = fine_err pass_due Over e (λ same. fine.ends phase (ap (λ (k : SlateDBError). End phase (Err k)) same))

record_ends : (record_of : List ℕ → Result Record SlateDBError) (phase : ReadPhase Record) → IsEnd (record_goes (read_goes logs.Compactions record_of phase Fault))
record_ends record_of reading.Listing = tt
record_ends record_of (reading.Getting n) = tt
record_ends record_of (reading.Bounding n m) = tt
record_ends record_of reading.Over = tt

-- ---- the whole

-- bytes are refused for what they are
pub record AreFine (ways : Ways) : Type 0 where
  pub manifests : NoFault ways.manifest_of
  pub bytes : NoFault ways.bytes_of
  pub records : NoFault ways.record_of

by_phase : (db : List ℕ) (ways : Ways) → AreFine ways → (settings : PassSettings) (now : ℤ) (p : PassPhase) (answer : StoreAnswer) → pass_due p ≡ true → IsAnswerTo (pass_asks db settings.pass p) answer
    → Sound pass_due answer (pass_goes ways settings now p answer)
by_phase db ways good settings now (ReadingRecord phase) answer due kind =
    let only = read_faults db logs.Compactions ways.record_of good.records in
    around record_goes answer (read_goes logs.Compactions ways.record_of phase answer)
    (λ f. subst (λ (a : StoreAnswer). IsEnd (record_goes (read_goes logs.Compactions ways.record_of phase a))) (sym f) (record_ends ways.record_of phase))
    (fine_record (read_goes logs.Compactions ways.record_of phase answer)) (only.sound phase answer due kind)
by_phase db ways good settings now (ReadingManifest least phase) answer due kind =
    let only = read_faults db logs.Manifest ways.manifest_of good.manifests in
    around (manifest_goes least) answer (read_goes logs.Manifest ways.manifest_of phase answer)
    (λ f. subst (λ (a : StoreAnswer). IsEnd (manifest_goes least (read_goes logs.Manifest ways.manifest_of phase a))) (sym f) (manifest_ends ways.manifest_of least phase))
    (fine_manifest least (read_goes logs.Manifest ways.manifest_of phase answer)) (only.sound phase answer due kind)
by_phase db ways good settings now (Fetching heads phase) answer due kind =
    let only = referenced_faults db ways.manifest_of good.manifests in
    around (fetched_goes heads) answer (referenced_goes ways.manifest_of phase answer)
    (λ f. subst (λ (a : StoreAnswer). IsEnd (fetched_goes heads (referenced_goes ways.manifest_of phase a))) (sym f) (fetch_ends ways.manifest_of heads phase due))
    (fine_fetched heads (referenced_goes ways.manifest_of phase answer)) (only.sound phase answer due kind)
by_phase db ways good settings now (Listing heads versions) answer due kind =
    sound_at pass_due (pass_goes ways settings now (Listing heads versions)) Found answer (list_answers (folder_of settings.pass db) answer kind) tt (λ found. fine_found ways settings now heads versions found)
by_phase db ways good settings now (Getting n listed found) answer due kind =
    sound_at pass_due (pass_goes ways settings now (Getting n listed found)) Got answer (get_answers (version_path logs.Manifest db n) answer kind) tt (λ object. fine_got ways.manifest_of good.manifests n listed found object)
by_phase db ways good settings now (Bounding n listed candidates) answer due kind =
    sound_at pass_due (pass_goes ways settings now (Bounding n listed candidates)) Got answer (get_answers (boundary_path logs.Manifest db) answer kind) tt
    (λ object. fine_bounded ways.allows settings n listed candidates (boundary_got object))
by_phase db ways good settings now (Advancing phase left counts) answer due kind =
    let only = advance_faults db (log_or_manifests (log_of_pass settings.pass)) in
    around (advanced_goes left counts) answer (advance_goes phase answer)
    (λ f. subst (λ (a : StoreAnswer). IsEnd (advanced_goes left counts (advance_goes phase a))) (sym f) (advance_ends left counts phase))
    (fine_advanced left counts (advance_goes phase answer)) (only.sound phase answer due kind)
by_phase db ways good settings now (Deleting [] counts) answer due kind = absurd cc
by_phase db ways good settings now (Deleting (m ∷ ms) counts) answer due kind = inr (fine_deleted ways settings now db m ms counts answer kind)
by_phase db ways good settings now Over answer due kind = absurd cc

-- a pass ends in a fault only where the store faults before its deletes
pub pass_faults : (db : List ℕ) (ways : Ways) → AreFine ways → (settings : PassSettings) (now : ℤ) → OnlyFaults pass_due (pass_asks db settings.pass) (pass_goes ways settings now)
pass_faults db ways good settings now = record { sound = λ p answer. by_phase db ways good settings now p answer }

-- where memory may run out the call reads
pub reads_there : (db : List ℕ) (pass : GcMessage) (p : PassPhase) → is_reading_phase p ≡ true → is_reading (pass_asks db pass p) ≡ true
reads_there db pass (ReadingRecord phase) h = reads_only db logs.Compactions phase
reads_there db pass (ReadingManifest least phase) h = reads_only db logs.Manifest phase
reads_there db pass (Fetching heads phase) h = referenced_reads db phase
reads_there db pass (Advancing phase left counts) h = absurd cc
reads_there db pass (Deleting left counts) h = absurd cc
reads_there db pass Over h = absurd cc
reads_there db pass _ h = refl
