-- What each step of a chain of records keeps, or else does, holds from any record to any later one.
use Rattle.std.proofs.Common.{◌≡◌, ◌≢◌, ℕ, ◌+◌, ◌≤◌, true, List, [], ◌∷◌, Some, None, is_some, ◌⊎◌, inl, inr, ⊎_elim, refl, sym, ◌∙◌, subst, arith}
use Rattle.slate_txn_log.specs.declared.log_kind.LogKind.TheVariants as logs
use Rattle.slate_model_records.specs.Records.{Record, entry_of}
use Rattle.slate_model_records.specs.declared.compaction.Compaction.{Compaction}
use Rattle.slate_state_record_updates.specs.RecordRules.{KeepsLeast, refusal_between}
use Rattle.slate_state_record_updates.proofs.LeastIds.{keeps_least}
use Rattle.slate_txn_log.specs.declared.right.Right.{Right}
use Rattle.slate_cluster_protocol.specs.Chains.{Link, link_at, IsChain, Follows}
use Rattle.slate_cluster_protocol.specs.Logs.{Author, Chain, Puts, records}
use Rattle.slate_cluster_chain_laws.specs.RecordSteps.{EndsIt, HasOutputs, TakesAway}
use Rattle.slate_cluster_chain_laws.proofs.Links.{at_most, link_here, link_there, same_or_not}
use Rattle.slate_cluster_chain_laws.proofs.RecordSteps.{record_step}
use Rattle.slate_cluster_compactor_laws.specs.Growing.{IsBetween, RecordsGrow}

module _ (Has : Record → Type 0) (Does : Puts → Record → Type 0) (step : (old new : Link Record Author) (f : Follows records old new) → Has old.value → Has new.value ⊎ Does f.author.puts old.value) where
  -- in a longer chain
  longer : (l m : Link Record Author) (c : Chain logs.Compactions) (from to : ℕ) → IsChain records (l ∷ m ∷ c) → IsBetween Does (m ∷ c) from to → IsBetween Does (l ∷ m ∷ c) from to
  longer l m c from to h b =
      let up = h.0.number in
      let last = at_most records (b.number + 1) b.new (m ∷ c) h.1 b.is in
      record {
        number = b.number;
        old = b.old;
        new = b.new;
        was = link_there b.number l (m ∷ c) (λ (e : l.number ≡ b.number). omega arith) ∙ b.was;
        is = link_there (b.number + 1) l (m ∷ c) (λ (e : l.number ≡ b.number + 1). omega arith) ∙ b.is;
        above = b.above;
        below = b.below;
        author = b.author;
        by = b.by;
        does = b.does;
      }

  -- it may end earlier than it is said
  later : (c : Chain logs.Compactions) (from to last : ℕ) → to ≤ last → IsBetween Does c from to → IsBetween Does c from last
  later c from to last le b = let lt = b.below in record { number = b.number; old = b.old; new = b.new; was = b.was; is = b.is; above = b.above; below = omega arith; author = b.author; by = b.by; does = b.does }

  pub grows : (c : Chain logs.Compactions) → IsChain records c → (from to : ℕ) (old new : Link Record Author) → link_at from c ≡ Some old → link_at to c ≡ Some new → from ≤ to → Has old.value → Has new.value ⊎ IsBetween Does c from to
  grows [] h from to old new was is le has = absurd (cc was)
  grows (first ∷ []) h from to old new was is le has =
      let one : old ≡ first = alone from old was in
      let other : new ≡ first = alone to new is in
      inl (subst (λ (l : Link Record Author). Has l.value) (one ∙ sym other) has)
    where
      alone : (n : ℕ) (l : Link Record Author) → link_at n (first ∷ []) ≡ Some l → l ≡ first
      alone n l at =
          ⊎_elim
          (λ (e : first.number ≡ n). let same : l ≡ first = cc (link_here n first [] e, at) in same)
          (λ (ne : first.number ≢ n). absurd (cc (link_there n first [] ne, at)))
          (same_or_not first.number n)
  grows (l ∷ m ∷ c) h from to old new was is le has =
      ⊎_elim
      (λ (e : l.number ≡ to). ⊎_elim
      (λ (f : l.number ≡ from).
      let same : old ≡ new = cc (link_here from l (m ∷ c) f, was, link_here to l (m ∷ c) e, is) in
      inl (subst (λ (x : Link Record Author). Has x.value) same has))
      (λ (ne : l.number ≢ from).
      let below : link_at from (m ∷ c) ≡ Some old = sym (link_there from l (m ∷ c) ne) ∙ was in
      last (sym e) below (grows (m ∷ c) h.1 from m.number old m below (link_here m.number m c refl) (at_most records from old (m ∷ c) h.1 below) has))
      (same_or_not l.number from))
      (λ (ne : l.number ≢ to).
      let there : link_at to (m ∷ c) ≡ Some new = sym (link_there to l (m ∷ c) ne) ∙ is in
      let most = at_most records to new (m ∷ c) h.1 there in
      let up = h.0.number in
      let below : link_at from (m ∷ c) ≡ Some old = sym (link_there from l (m ∷ c) (λ (f : l.number ≡ from). omega arith)) ∙ was in
      ⊎_elim (λ (x : Has new.value). inl x) (λ (b : IsBetween Does (m ∷ c) from to). inr (longer l m c from to h b)) (grows (m ∷ c) h.1 from to old new below there le has))
      (same_or_not l.number to)
    where
      -- the last step
      last : to ≡ l.number → link_at from (m ∷ c) ≡ Some old → Has m.value ⊎ IsBetween Does (m ∷ c) from m.number → Has new.value ⊎ IsBetween Does (l ∷ m ∷ c) from to
      last e below so =
          let up = h.0.number in
          let top : l ≡ new = cc (link_here to l (m ∷ c) (sym e), is) in
          ⊎_elim
          (λ (x : Has m.value). ⊎_elim
          (λ (y : Has l.value). inl (subst (λ (z : Link Record Author). Has z.value) top y))
          (λ (d : Does h.0.author.puts m.value). inr (record {
            number = m.number;
            old = m;
            new = l;
            was = link_there m.number l (m ∷ c) (λ (f : l.number ≡ m.number). omega arith) ∙ link_here m.number m c refl;
            is = link_here (m.number + 1) l (m ∷ c) up;
            above = at_most records from old (m ∷ c) h.1 below;
            below = omega arith;
            author = h.0.author;
            by = h.0.by;
            does = d;
          }))
          (step m l h.0 x))
          (λ (b : IsBetween Does (m ∷ c) from m.number). inr (later (l ∷ m ∷ c) from m.number to (omega arith) (longer l m c from m.number h b)))
          so

-- ---- the least

since : (old mid new : List Compaction) → KeepsLeast old mid → KeepsLeast mid new → KeepsLeast old new
since old mid new a b = record { some_stand = b.some_stand; least = omega (arith, a.least, b.least) }

-- nothing is put that does anything
abbrev Nothing : Puts → Record → Type 0
Nothing puts r = ⊥

least_stays : ((old new : Record) (right : Right) → refusal_between old new right ≡ None → old.entries ≢ [] → KeepsLeast old.entries new.entries) → (c : Chain logs.Compactions) → IsChain records c
    → (from to : ℕ) (old new : Link Record Author) → link_at from c ≡ Some old → link_at to c ≡ Some new → from ≤ to → old.value.entries ≢ [] → KeepsLeast old.value.entries new.value.entries
least_stays keep c h from to old new was is le some =
    ⊎_elim
    (λ (k : KeepsLeast old.value.entries new.value.entries). k)
    (λ (b : IsBetween Nothing c from to). absurd b.does)
    (grows (λ r. KeepsLeast old.value.entries r.entries) Nothing
    (λ before after f k. inl (since old.value.entries before.value.entries after.value.entries k (keep before.value after.value (records.right f.author) f.lawful k.some_stand)))
    c h from to old new was is le (record { some_stand = some; least = omega arith }))

pub records_of_chain : (c : Chain logs.Compactions) → IsChain records c → RecordsGrow c
records_of_chain c h = record {
  least = least_stays keeps_least c h;
  stays = λ from to old new id was is le some. grows (λ r. is_some (entry_of id r.entries) ≡ true) (λ puts r. TakesAway puts r id) (λ before after f x. (record_step before after f).stays id x) c h from to old new was is le some;
  compacted = λ from to old new id outputs was is le has. grows (λ r. HasOutputs r id outputs) (λ puts r. EndsIt puts r id) (λ before after f x. (record_step before after f).compacted id outputs x) c h from to old new was is le has;
}
