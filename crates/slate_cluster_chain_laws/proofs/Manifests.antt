-- The two logs: what their codecs and their rules give, and what is committed of a change.
use Rattle.std.proofs.Common.{◌≡◌, ℕ, ◌+◌, ◌==◌, Bool, true, false, List, Option, Some, None, Result, Ok, Err, refl, ap, ◌∙◌}
use Rattle.std.specs.Prelude.{if◌then◌else◌}
use Rattle.slate_ids.specs.Limits.{last_number}
use Rattle.slate_ids.specs.declared.error.SlateDBError.{SlateDBError}
use Rattle.slate_ids.specs.declared.error.SlateDBError.TheVariants.{Exhausted}
use Rattle.slate_layout.specs.laws.Codecs.{codec_round_trip, record_codec_trip}
use Rattle.slate_state_updates.proofs.Lawful.{names_stay}
use Rattle.slate_txn_log.specs.CommitPhase.{prepared, checked_commit, encoded_commit}
use Rattle.slate_txn_log.specs.declared.commit_phase.CommitPhase.{CommitPhase}
use Rattle.slate_txn_log.specs.declared.commit_phase.CommitPhase.TheVariants.{Putting}
use Rattle.slate_txn_log.specs.declared.right.Right.{Right}
use Rattle.slate_txn_log.specs.Change.{renewed, wanted, some_commit}
use Rattle.slate_txn_log.specs.Fence.{unless}
use Rattle.slate_txn_log.specs.declared.log_kind.LogKind.{LogKind}
use Rattle.slate_txn_log.specs.declared.log_kind.LogKind.TheVariants as logs
use Rattle.slate_cluster_protocol.specs.Logs.{manifests, records, log_of}
use Rattle.slate_cluster_chain_laws.proofs.LogRules.{IsLog}
use Rattle.slate_cluster_chain_laws.proofs.NormalRecordRules.{record_normal_passes}
use Rattle.slate_cluster_chain_laws.proofs.NormalRules.{refusal_normal}

pub manifests_log : IsLog manifests
manifests_log = record { round = λ m bytes h. codec_round_trip m bytes h; plain = λ n old m right h. refusal_normal n old m right ∙ h; known = λ n old m right k h named. names_stay n old m right h k named; first = λ author m k h named. absurd cc }

records_log : IsLog records
records_log = record { round = λ r bytes h. record_codec_trip r bytes h; plain = λ n old r right h. record_normal_passes n old r right h; known = λ n old r right k h named. absurd cc; first = λ author r k h named. absurd cc }

-- each log is one
pub log_laws : (k : LogKind) → IsLog (log_of k)
log_laws logs.Manifest = manifests_log
log_laws logs.Compactions = records_log

-- what a prepared commit puts
pub record IsPrepared {V : Type 0} (refusal : ℕ → V → V → Right → Option SlateDBError) (encoded : V → Result (List ℕ) SlateDBError) (n : ℕ) (old new : V) (right : Right) (commit : CommitPhase V) : Type 0 where
  pub bytes : List ℕ
  pub is : commit ≡ Putting (n + 1) bytes new
  pub encodes : encoded new ≡ Ok bytes
  pub lawful : refusal n old new right ≡ None
  pub room : (n == last_number) ≡ false

module _ {V : Type 0} (refusal : ℕ → V → V → Right → Option SlateDBError) (encoded : V → Result (List ℕ) SlateDBError) (n : ℕ) (old new : V) (right : Right) (commit : CommitPhase V) where
  by_bytes : (r : Result (List ℕ) SlateDBError) → encoded new ≡ r → refusal n old new right ≡ None → (n == last_number) ≡ false → encoded_commit (n + 1) new r ≡ Ok commit → IsPrepared refusal encoded n old new right commit
  by_bytes (Ok bytes) is lawful room h = record { bytes = bytes; is = cc; encodes = is; lawful = lawful; room = room }
  by_bytes (Err e) is lawful room h = absurd cc

  by_rules : (o : Option SlateDBError) → refusal n old new right ≡ o → (n == last_number) ≡ false → checked_commit o (n + 1) new (encoded new) ≡ Ok commit → IsPrepared refusal encoded n old new right commit
  by_rules (Some e) is room h = absurd cc
  by_rules None is room h = by_bytes (encoded new) refl is room h

  by_room : (b : Bool) → (n == last_number) ≡ b → (let r : Result (CommitPhase V) SlateDBError = if b then Err (Exhausted n) else checked_commit (refusal n old new right) (n + 1) new (encoded new) in r) ≡ Ok commit → IsPrepared refusal encoded n old new right commit
  by_room true is h = absurd cc
  by_room false is h = by_rules (refusal n old new right) refl is h

  pub is_prepared : prepared refusal encoded n old new right ≡ Ok commit → IsPrepared refusal encoded n old new right commit
  is_prepared h = by_room (n == last_number) refl h

-- what is committed of a change: what it makes of the version read, where its fence lets it
pub record IsChanged {V : Type 0} (refusal : ℕ → V → V → Right → Option SlateDBError) (encoded : V → Result (List ℕ) SlateDBError) (making : ℕ → V → Result (Option V) SlateDBError) (right : Right) (fence : Option SlateDBError) (n : ℕ) (old : V) (commit : CommitPhase V) : Type 0 where
  pub new : V
  pub makes : making n old ≡ Ok (Some new)
  pub prepared : IsPrepared refusal encoded n old new right commit
  pub passed : fence ≡ None

module _ {V : Type 0} (refusal : ℕ → V → V → Right → Option SlateDBError) (encoded : V → Result (List ℕ) SlateDBError) (making : ℕ → V → Result (Option V) SlateDBError) (right : Right) (fence : Option SlateDBError) (n : ℕ) (old : V) (commit : CommitPhase V) where
  abbrev Changed : Type 0
  Changed = IsChanged refusal encoded making right fence n old commit

  changed_of : (new : V) → making n old ≡ Ok (Some new) → fence ≡ None → (r : Result (CommitPhase V) SlateDBError) → prepared refusal encoded n old new right ≡ r → some_commit r ≡ Ok (Some commit) → Changed
  changed_of new made passed (Ok c) is h =
      let same : c ≡ commit = cc in
      record { new = new; makes = made; prepared = is_prepared refusal encoded n old new right commit (is ∙ ap (λ (x : CommitPhase V). Ok x) same); passed = passed }
  changed_of new made passed (Err e) is h = absurd cc

  by_value : (r : Result (Option V) SlateDBError) → making n old ≡ r → fence ≡ None → wanted (λ (new : V). prepared refusal encoded n old new right) r ≡ Ok (Some commit) → Changed
  by_value (Ok (Some new)) is passed h = changed_of new is passed (prepared refusal encoded n old new right) refl h
  by_value (Ok None) is passed h = absurd cc
  by_value (Err e) is passed h = absurd cc

  by_fence : (o : Option SlateDBError) → fence ≡ o → unless o (renewed making refusal encoded right n old) ≡ Ok (Some commit) → Changed
  by_fence (Some e) is h = absurd cc
  by_fence None is h = by_value (making n old) refl is h

  pub change_commits : unless fence (renewed making refusal encoded right n old) ≡ Ok (Some commit) → Changed
  change_commits h = by_fence fence refl h
