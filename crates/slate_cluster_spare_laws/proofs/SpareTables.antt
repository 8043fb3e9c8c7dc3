-- A table that nobody needs stays so when one more manifest is committed.
use Rattle.std.proofs.Common.{◌≡◌, ◌≢◌, ℕ, ◌+◌, ◌<◌, ◌≤◌, true, ◌∷◌, ⊎_elim, refl, sym, ◌∙◌, subst, arith}
use Rattle.slate_model.specs.declared.manifest.Manifest.{Manifest}
use Rattle.slate_model_tables.specs.declared.ss_table_id.SsTableId.TheVariants.{Compacted}
use Rattle.slate_state_updates.proofs.Lawful.{names_stay}
use Rattle.slate_state_updates.specs.FlushedTables.{least_tick}
use Rattle.slate_state_updates.specs.RunTables.{outputs_of}
use Rattle.slate_state_updates.specs.TableSets.{is_among}
use Rattle.slate_txn_log.specs.declared.log_kind.LogKind.TheVariants as logs
use Rattle.slate_cluster_protocol.specs.Chains.{Link, IsChain}
use Rattle.slate_cluster_protocol.specs.Logs.{Author, Chain, manifests}
use Rattle.slate_cluster_protocol.specs.Reach.{IsNeeded, HasOwn, NeedsTable}
use Rattle.slate_cluster_protocol.specs.Reach.IsNeeded.{Greatest, Named}
use Rattle.slate_cluster_chain_laws.proofs.Links.{link_here, link_there, same_or_not}
use Rattle.slate_cluster_chain_laws.specs.TableSteps.{ComesFrom, OwnTablesCome}
use Rattle.slate_cluster_chain_laws.specs.TableSteps.ComesFrom.{Stays, Flushed, Made}

module _ (new old : Link Manifest Author) (c : Chain logs.Manifest) (h : IsChain manifests (new ∷ old ∷ c)) (some : 0 < old.number)
    (come : OwnTablesCome (manifests.right h.0.author) old.value new.value) (id : ℕ × ℕ) (least : ℕ) (early : id.0 < least_tick old.value) (below : id.0 < least)
    (made : is_among (outputs_of (manifests.right h.0.author)) (Compacted id) ≡ true → least ≤ id.0) where
  -- a table of the new manifest was one of the old: it is too early to be flushed, or made
  was_own : ComesFrom (manifests.right h.0.author) old.value id → HasOwn old.value id
  was_own (Stays own) = own
  was_own (Flushed late) = absurd (omega (arith, late, early))
  was_own (Made is) = let late = made is in absurd (omega (arith, late, below))

  -- an old number that is needed after was needed before
  needed_old : (n : ℕ) → new.number ≢ n → IsNeeded manifests (new ∷ old ∷ c) n → IsNeeded manifests (old ∷ c) n
  needed_old n ne (Greatest pos e) = absurd (ne (sym e))
  needed_old n ne (Named named) =
      ⊎_elim (λ (e : n ≡ old.number + 1). absurd (ne (h.0.number ∙ sym e))) (λ known. Named known) (names_stay old.number old.value new.value (manifests.right h.0.author) h.0.lawful n named)

  -- who needs the table after needed it before
  pub needs_before : NeedsTable (new ∷ old ∷ c) id → NeedsTable (old ∷ c) id
  needs_before needs =
      ⊎_elim
      (λ (e : new.number ≡ needs.number).
      let same : new ≡ needs.link = cc (link_here needs.number new (old ∷ c) e, needs.at) in
      let own : HasOwn new.value id = subst (λ (l : Link Manifest Author). HasOwn l.value id) (sym same) needs.own in
      record { number = old.number; link = old; needed = Greatest some refl; at = link_here old.number old c refl; own = was_own (come id own) })
      (λ (ne : new.number ≢ needs.number).
      record { number = needs.number; link = needs.link; needed = needed_old needs.number ne needs.needed; at = sym (link_there needs.number new (old ∷ c) ne) ∙ needs.at; own = needs.own })
      (same_or_not new.number needs.number)

  -- so a table that nobody needed nobody needs after
  pub stays_unneeded : (NeedsTable (old ∷ c) id → ⊥) → NeedsTable (new ∷ old ∷ c) id → ⊥
  stays_unneeded un needs = un (needs_before needs)
