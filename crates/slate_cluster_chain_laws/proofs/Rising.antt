-- Along a chain nothing falls, and each manifest names what the one before names.
use Rattle.std.proofs.Common.{◌≡◌, ◌≢◌, ℕ, List, [], ◌∷◌, None, arith}
use Rattle.slate_txn_log.specs.declared.log_kind.LogKind.TheVariants as logs
use Rattle.slate_txn_log.specs.declared.right.Right.{Right}
use Rattle.slate_model.specs.declared.manifest.Manifest.{Manifest}
use Rattle.slate_model_records.specs.Records.{Record}
use Rattle.slate_state_record_updates.specs.RecordRules.{KeepsLeast, record_refusal_of}
use Rattle.slate_state_updates.specs.RuleLaws.{NothingFalls}
use Rattle.slate_state_updates.proofs.Lawful.{nothing_falls, names_stay}
use Rattle.slate_cluster_protocol.specs.Chains.{Link, Log, IsChain}
use Rattle.slate_cluster_protocol.specs.Logs.{Author, Chain, manifests, records}
use Rattle.slate_cluster_protocol.specs.Rising.{AboveAll, NeverFalls, RecordRises, NameKnown}
use Rattle.slate_cluster_chain_laws.proofs.Epochs.{record_epoch_rises}

-- what has not fallen from a version to the next, under the rules, has not fallen along the chain
module _ {V : Type 0} (log : Log V Author) (Rises : V → V → Type 0) (since : (old mid new : V) → Rises old mid → Rises mid new → Rises old new)
    (next : (n : ℕ) (old new : V) (right : Right) → log.refusal n old new right ≡ None → Rises old new) where
  above_all : (mid new : V) (c : List (Link V Author)) → Rises mid new → AboveAll Rises mid c → AboveAll Rises new c
  above_all mid new [] up h = tt
  above_all mid new (old ∷ c) up h = (since old.value mid new h.0 up, above_all mid new c up h.1)

  rises : (c : List (Link V Author)) → IsChain log c → NeverFalls Rises c
  rises [] h = tt
  rises (first ∷ []) h = (tt, tt)
  rises (new ∷ old ∷ c) h =
      let rest = rises (old ∷ c) h.1 in
      let up = next old.number old.value new.value (log.right h.0.author) h.0.lawful in
      ((up, above_all old.value new.value c up rest.0), rest)

-- ---- manifests

since_old : (old mid new : Manifest) → NothingFalls old mid → NothingFalls mid new → NothingFalls old new
since_old old mid new a b = record {
  writer = omega (arith, a.writer, b.writer);
  compactor = omega (arith, a.compactor, b.compactor);
  replay = omega (arith, a.replay, b.replay);
  floor = omega (arith, a.floor, b.floor);
}

pub never_falls : (c : Chain logs.Manifest) → IsChain manifests c → NeverFalls NothingFalls c
never_falls c h = rises manifests NothingFalls since_old (λ n old new right k. nothing_falls n old new right k) c h

pub name_known : (c : Chain logs.Manifest) → IsChain manifests c → NameKnown c
name_known [] h = tt
name_known (first ∷ []) h = tt
name_known (new ∷ old ∷ c) h = (names_stay old.number old.value new.value (manifests.right h.0.author) h.0.lawful, name_known (old ∷ c) h.1)

-- ---- records

record_since : (old mid new : Record) → RecordRises old mid → RecordRises mid new → RecordRises old new
record_since old mid new a b = record {
  epoch = omega (arith, a.epoch, b.epoch);
  least = λ some. let first = a.least some in let then = b.least first.some_stand in record { some_stand = then.some_stand; least = omega (arith, first.least, then.least) };
}

-- what the rules keep of a record's compactions is given
pub records_never_fall : ((n : ℕ) (old new : Record) (right : Right) → record_refusal_of n old new right ≡ None → old.entries ≢ [] → KeepsLeast old.entries new.entries)
    → (c : Chain logs.Compactions) → IsChain records c → NeverFalls RecordRises c
records_never_fall keep c h = rises records RecordRises record_since (λ n old new right k. record { epoch = record_epoch_rises n old new right k; least = λ some. keep n old new right k some }) c h
