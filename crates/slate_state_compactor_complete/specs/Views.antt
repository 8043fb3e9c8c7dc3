-- What the read of two logs answers over a store that serves it, and that of a compactor's view.
use Rattle.std.specs.Prelude.{◌≡◌, ◌⊎◌, ℕ, true, List, Option, Some, Result, Ok, Err}
use Rattle.slate_ids.specs.Answers.{ran_out}
use Rattle.slate_ids.specs.declared.error.SlateDBError.{SlateDBError}
use Rattle.slate_model.specs.declared.manifest.Manifest.{Manifest}
use Rattle.slate_model_records.specs.Records.{Record}
use Rattle.slate_state_logs.specs.ManifestLog as manifests
use Rattle.slate_state_logs.specs.RecordLog as records
use Rattle.slate_state_reader.specs.StateViews.{viewed, Logs, View}
use Rattle.slate_state_reader.specs.declared.both_phase.Both.{Both}
use Rattle.slate_store.specs.Store.{Store}
use Rattle.slate_store.specs.StoreCalls.{Told}
use Rattle.slate_txn_laws.specs.Reading.{ReadAnswers}
use Rattle.slate_txn_laws.specs.Ready.{IsReady}
use Rattle.slate_txn_log.specs.declared.sequenced.Sequenced.{Sequenced}

-- both are read as each is read alone; or the one is refused as its read is, or else the other
pub data BothAnswers {T C V D : Type 0} (one_decoded : C → List ℕ → Result T SlateDBError) (other_decoded : D → List ℕ → Result V SlateDBError) (first : Sequenced T C) (second : Sequenced V D) (s : Store) (result : Result (Both T V) SlateDBError) : Type 0 where
  AreRead : (one : Option (ℕ × T)) (other : Option (ℕ × V)) → ReadAnswers (one_decoded first.codec) first.db first.log s (Ok one) → ReadAnswers (other_decoded second.codec) second.db second.log s (Ok other)
      → result ≡ Ok (record { one = one; other = other }) → BothAnswers one_decoded other_decoded first second s result
  OneRefused : (e : SlateDBError) → ReadAnswers (one_decoded first.codec) first.db first.log s (Err e) → result ≡ Err e → BothAnswers one_decoded other_decoded first second s result
  OtherRefused : (one : Option (ℕ × T)) (e : SlateDBError) → ReadAnswers (one_decoded first.codec) first.db first.log s (Ok one) → ReadAnswers (other_decoded second.codec) second.db second.log s (Err e)
      → result ≡ Err e → BothAnswers one_decoded other_decoded first second s result

-- both of these logs are ready
pub record BothReady {T C V D : Type 0} (first : Sequenced T C) (second : Sequenced V D) (s : Store) : Type 0 where
  pub one : IsReady first.db first.log s
  pub other : IsReady second.db second.log s

-- the reads are answered so, and the contents stay; or memory ran out
abbrev pub BothEnds : {T C V D : Type 0} → (C → List ℕ → Result T SlateDBError) → (D → List ℕ → Result V SlateDBError) → Sequenced T C → Sequenced V D → Store → Told → Result (Both T V) SlateDBError → Type 0
BothEnds one_decoded other_decoded first second s new result = (BothAnswers one_decoded other_decoded first second s result × (new.contents ≡ Some s)) ⊎ (ran_out result ≡ true)

-- the view is told of that answer
pub record ViewAnswers (logs : Logs) (s : Store) (new : Told) (result : Result View SlateDBError) : Type 0 where
  pub reply : Result (Both Record Manifest) SlateDBError
  pub answers : BothAnswers records.record_of_bytes manifests.manifest_decoded logs.records logs.manifests s reply
  pub told : viewed reply ≡ result
  pub contents : new.contents ≡ Some s

abbrev pub ViewEnds : Logs → Store → Told → Result View SlateDBError → Type 0
ViewEnds logs s new result = ViewAnswers logs s new result ⊎ (ran_out result ≡ true)
