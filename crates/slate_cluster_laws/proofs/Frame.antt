-- What a party knows stays true under whatever the others do.
use Rattle.std.proofs.Common.{ℕ, List, arith}
use Rattle.slate_store.specs.Store.{Store}
use Rattle.slate_txn_log.specs.declared.advance_phase.AdvancePhase.{AdvancePhase}
use Rattle.slate_txn_log.specs.declared.advance_phase.AdvancePhase.TheVariants as advancing
use Rattle.slate_txn_log.specs.declared.commit_phase.CommitPhase.{CommitPhase}
use Rattle.slate_txn_log.specs.declared.commit_phase.CommitPhase.TheVariants as committing
use Rattle.slate_txn_log.specs.declared.read_phase.ReadPhase.{ReadPhase}
use Rattle.slate_txn_log.specs.declared.read_phase.ReadPhase.TheVariants as reading
use Rattle.slate_cluster_protocol.specs.Chains.{Link, Log}
use Rattle.slate_cluster_protocol.specs.Holding.{IsPutBy}
use Rattle.slate_cluster_chain_laws.proofs.LogRules.IsMade.{OfVersion, OfNone}
use Rattle.slate_cluster_chain_laws.proofs.LogRules.{IsMade}
use Rattle.slate_cluster_laws.proofs.Facts.{IsValue, Holds, HoldsBy, IsNext, IsAtMost, IsReached, ReadKnows, CommitKnows, AdvanceKnows, Grows}

module _ {V A : Type 0} (log : Log V A) (db : List ℕ) (s : Store) (c : List (Link V A)) (s' : Store) (c' : List (Link V A)) (g : Grows log db s c s' c') where
  pub kept_value : (n : ℕ) (v : V) → IsValue c n v → IsValue c' n v
  kept_value n v h = record { link = h.link; at = g.kept n h.link h.at; value = h.value }

  pub kept_holds : (n : ℕ) (v : V) → Holds log db s c n v → Holds log db s' c' n v
  kept_holds n v h = record { same = λ b' read lt. let was = g.bound b' read in let le = was.2 in kept_value n v (h.same was.0 was.1 (omega arith)) }

  pub kept_put : (author : A) (n : ℕ) (v : V) → IsPutBy log c author n v → IsPutBy log c' author n v
  kept_put author n v h = record { link = h.link; at = g.kept n h.link h.at; bytes = h.bytes; value = h.value; by = h.by }

  pub kept_holds_by : (author : A) (n : ℕ) (v : V) → HoldsBy log db s c author n v → HoldsBy log db s' c' author n v
  kept_holds_by author n v h = record { same = λ b' read lt. let was = g.bound b' read in let le = was.2 in kept_put author n v (h.same was.0 was.1 (omega arith)) }

  kept_made : (author : A) (n : ℕ) (v : V) → IsMade log c author n v → IsMade log c' author n v
  kept_made author n v (OfVersion old at number makes lawful passed) = OfVersion old (g.kept old.number old at) number makes lawful passed
  kept_made author n v (OfNone number first) = OfNone number first

  pub kept_next : (author : A) (n : ℕ) (bytes : List ℕ) (v : V) → IsNext log c author n bytes v → IsNext log c' author n bytes v
  kept_next author n bytes v h = record { small = h.small; encodes = h.encodes; made = kept_made author n v h.made }

  pub kept_read : (phase : ReadPhase V) → ReadKnows log db s c phase → ReadKnows log db s' c' phase
  kept_read (reading.Bounding n v) h = kept_holds n v h
  kept_read _ h = h

  pub kept_commit : (author : A) (phase : CommitPhase V) → CommitKnows log db s c author phase → CommitKnows log db s' c' author phase
  kept_commit author (committing.Putting n bytes v) h = kept_next author n bytes v h
  kept_commit author (committing.Bounding n v) h = kept_holds_by author n v h
  kept_commit author committing.Over h = h

  kept_most : (tag n : ℕ) → IsAtMost log db s tag n → IsAtMost log db s' tag n
  kept_most tag n h =
      let later = g.later in
      let given = h.given in
      record { given = omega arith; most = λ o at same. h.most o (g.tags o at (omega arith)) same }

  pub kept_reached : (n : ℕ) → IsReached log db s n → IsReached log db s' n
  kept_reached n h = record { reached = λ b' read. let was = g.bound b' read in let le = was.2 in let here = h.reached was.0 was.1 in omega arith }

  pub kept_advance : (phase : AdvancePhase) → AdvanceKnows log db s c phase → AdvanceKnows log db s' c' phase
  kept_advance (advancing.Bounding n) h = let up = g.rises in omega arith
  kept_advance (advancing.Creating n) h = let up = g.rises in omega arith
  kept_advance (advancing.Replacing n tag) h =
      let up = g.rises in
      let lt = h.0 in
      (omega arith, kept_most tag n h.1)
  kept_advance advancing.Over h = h
