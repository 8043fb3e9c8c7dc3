-- A manifest that may follow another keeps each rule, and what the rules say.
use Rattle.std.specs.Prelude.{ℕ, ◌+◌, ◌==◌, ◌≤◌, ◌&&◌, ◌||◌, nat_lt, Bool, true, false, not, List, [], ◌∷◌, Option, Some, None, if◌then◌else◌}
use Rattle.std.specs.List.{list_all, find}
use Rattle.std.proofs.Common.{◌≡◌, ◌⊎◌, ◌↔◌, refl, sym, ◌∙◌, ap, subst, inl, inr, arith}
use Rattle.std.proofs.lemmas.Bool.Decides.{nat_tests}
use Rattle.slate_ids.specs.declared.error.SlateDBError.{SlateDBError}
use Rattle.slate_ids.specs.declared.error.SlateDBError.TheVariants.{InvalidSegmentPrefix}
use Rattle.slate_ids.specs.declared.error.UpdateRule.{UpdateRule}
use Rattle.slate_ids.specs.declared.error.UpdateRule.TheVariants.{U1, U2, U3, U5}
use Rattle.slate_ids.specs.Keys.{begins_with}
use Rattle.slate_ids.specs.Ulids.{same_id}
use Rattle.slate_model_tables.specs.declared.ss_table_id.SsTableId.{SsTableId}
use Rattle.slate_model_tables.specs.declared.ss_table_id.SsTableId.TheVariants.{Wal, Compacted}
use Rattle.slate_model.specs.declared.checkpoint.Checkpoint.{Checkpoint}
use Rattle.slate_model.specs.declared.manifest.Manifest.{Manifest}
use Rattle.slate_model.specs.Segments.{Prefixed}
use Rattle.slate_txn_log.specs.declared.right.Right.{Right}
use Rattle.slate_state_updates.specs.Checkpoints.{is_named}
use Rattle.slate_state_updates.specs.ExternalEntries.{entries_kept}
use Rattle.slate_state_updates.specs.FlushedTables.{tick_refusal, early_refusal, is_early, least_tick, flushed_tables}
use Rattle.slate_state_updates.specs.RunTables.{runs_known}
use Rattle.slate_state_updates.specs.Prefixes.{nested_after, prefix_refusal}
use Rattle.slate_state_updates.specs.Rules.{falls, names_known, unless_kept, first_refusal, manifest_refusal}
use Rattle.slate_state_updates.specs.RuleLaws.{NothingFalls, NamesKnown, StartAt, AreTimely, IsOfRules}
use Rattle.slate_state_updates.specs.TableSets.{is_among}

-- ---- the rules one by one

-- each of the rules is kept
pub record KeepsRules (n : ℕ) (old new : Manifest) (right : Right) : Type 0 where
  pub numbers : falls old new ≡ false
  pub names : names_known n old new ≡ true
  pub entries : entries_kept old new ≡ true
  pub ticks : tick_refusal old new ≡ None
  pub runs : runs_known old new right ≡ true
  pub prefixes : prefix_refusal new.core.segments ≡ None

not_falling : (b : Bool) (rule : UpdateRule) → unless_kept rule (not b) ≡ None → b ≡ false
not_falling true rule h = absurd cc
not_falling false rule h = refl

kept : (b : Bool) (rule : UpdateRule) → unless_kept rule b ≡ None → b ≡ true
kept true rule h = refl
kept false rule h = absurd cc

-- none of these refuses
abbrev NoneRefuses : List (Option SlateDBError) → Type 0
NoneRefuses [] = Unit {0}
NoneRefuses (o ∷ os) = (o ≡ None) × NoneRefuses os

none_refuses : (os : List (Option SlateDBError)) → first_refusal os ≡ None → NoneRefuses os
none_refuses [] h = tt
none_refuses (Some e ∷ os) h = absurd cc
none_refuses (None ∷ os) h = (refl, none_refuses os h)

-- what no rule refuses keeps each
pub keeps : (n : ℕ) (old new : Manifest) (right : Right) → manifest_refusal n old new right ≡ None → KeepsRules n old new right
keeps n old new right h =
    let all = none_refuses (unless_kept U1 (not (falls old new)) ∷ unless_kept U2 (names_known n old new) ∷ unless_kept U3 (entries_kept old new) ∷ tick_refusal old new ∷ unless_kept U5 (runs_known old new right) ∷ prefix_refusal new.core.segments ∷ []) h in
    record {
      numbers = not_falling (falls old new) _ all.0;
      names = kept (names_known n old new) _ all.1.0;
      entries = kept (entries_kept old new) _ all.1.1.0;
      ticks = all.1.1.1.0;
      runs = kept (runs_known old new right) _ all.1.1.1.1.0;
      prefixes = all.1.1.1.1.1.0;
    }

-- and what keeps each isn't refused
pub lawful : (n : ℕ) (old new : Manifest) (right : Right) → KeepsRules n old new right → manifest_refusal n old new right ≡ None
lawful n old new right k = rw (k.numbers, k.names, k.entries, k.ticks, k.runs, k.prefixes) refl

-- ---- numbers

nothing_falls_by : (w v c d r s f g : ℕ) → (nat_lt w v || nat_lt c d || nat_lt r s || nat_lt f g) ≡ false → (v ≤ w) × (d ≤ c) × (s ≤ r) × (g ≤ f)
nothing_falls_by w v c d r s f g h = (grind (arith, nat_tests), grind (arith, nat_tests), grind (arith, nat_tests), grind (arith, nat_tests))

pub nothing_falls : (n : ℕ) (old new : Manifest) (right : Right) → manifest_refusal n old new right ≡ None → NothingFalls old new
nothing_falls n old new right h =
    let k = keeps n old new right h in
    let all = nothing_falls_by new.writer_epoch old.writer_epoch new.compactor_epoch old.compactor_epoch new.core.replay_after_wal_id old.core.replay_after_wal_id new.core.floor old.core.floor k.numbers in
    record { writer = all.0; compactor = all.1; replay = all.2; floor = all.3 }

-- ---- the versions that checkpoints name

all_true : (a b : Bool) → (a && b) ≡ true → (a ≡ true) × (b ≡ true)
all_true true b h = (refl, h)
all_true false b h = absurd cc

-- a number that checkpoints name is one that all of them may name
named_known : (n k : ℕ) (old : Manifest) (cs : List Checkpoint) → list_all (λ c. c.manifest_id == n + 1 || is_named c.manifest_id old.core.checkpoints) cs ≡ true → is_named k cs ≡ true → (k ≡ n + 1) ⊎ (is_named k old.core.checkpoints ≡ true)
named_known n k old [] all h = absurd cc
named_known n k old (c ∷ cs) all h = by_first (c.manifest_id == k) refl h (all_true (c.manifest_id == n + 1 || is_named c.manifest_id old.core.checkpoints) _ all)
    (λ rest more. named_known n k old cs rest more)
  where
    same : (a b : ℕ) → (a == b) ≡ true → a ≡ b
    same a b e = grind (arith, nat_tests)

    either : (t : Bool) → (c.manifest_id == n + 1) ≡ t → c.manifest_id ≡ k → (t || is_named c.manifest_id old.core.checkpoints) ≡ true → (k ≡ n + 1) ⊎ (is_named k old.core.checkpoints ≡ true)
    either true is e own = inl (sym e ∙ same c.manifest_id (n + 1) is)
    either false is e own = inr (subst (λ j. is_named j old.core.checkpoints ≡ true) e own)

    by_first : (t : Bool) → (c.manifest_id == k) ≡ t → (t || is_named k cs) ≡ true
        → ((c.manifest_id == n + 1 || is_named c.manifest_id old.core.checkpoints) ≡ true) × (list_all (λ c. c.manifest_id == n + 1 || is_named c.manifest_id old.core.checkpoints) cs ≡ true)
        → (list_all (λ c. c.manifest_id == n + 1 || is_named c.manifest_id old.core.checkpoints) cs ≡ true → is_named k cs ≡ true → (k ≡ n + 1) ⊎ (is_named k old.core.checkpoints ≡ true))
        → (k ≡ n + 1) ⊎ (is_named k old.core.checkpoints ≡ true)
    by_first true is h both rest = either (c.manifest_id == n + 1) refl (same c.manifest_id k is) both.0
    by_first false is h both rest = rest both.1 h

pub names_stay : (n : ℕ) (old new : Manifest) (right : Right) → manifest_refusal n old new right ≡ None → NamesKnown n old new
names_stay n old new right h k named = named_known n k old new.core.checkpoints (keeps n old new right h).names named

-- ---- flushed tables

not_before : (a b : ℕ) → nat_lt a b ≡ false → b ≤ a
not_before a b e = grind (arith, nat_tests)

not_below : (a b : ℕ) → b ≤ a → nat_lt a b ≡ true → ⊥
not_below a b e l = grind (arith, nat_tests)

first_parts : (a b : ℕ × ℕ) → same_id a b ≡ true → a.0 ≡ b.0
first_parts a b h = grind (arith, nat_tests)

second_parts : (a b : ℕ × ℕ) → same_id a b ≡ true → a.1 ≡ b.1
second_parts a b h = grind (arith, nat_tests)

one : (a b : ℕ × ℕ) → same_id a b ≡ true → a ≡ b
one a b h = ap (λ x. (x, a.1)) (first_parts a b h) ∙ ap (λ y. (b.0, y)) (second_parts a b h)

is_itself : (a : ℕ × ℕ) → same_id a a ≡ true
is_itself a = grind (arith, nat_tests)

later_is : (a b : Bool) → b ≡ true → (a || b) ≡ true
later_is true b e = refl
later_is false b e = e

-- no table is found exactly where each starts at the moment
found_timely : (moment : ℕ) (old ids : List SsTableId) → early_refusal moment (find (is_early moment old) ids) ≡ None → StartAt moment old ids
found_timely moment old [] h q among new = absurd cc
found_timely moment old (Wal number ∷ ids) h q among new = found_timely moment old ids h q among new
found_timely moment old (Compacted id ∷ ids) h q among new = by_test (nat_lt id.0 moment) (is_among old (Compacted id)) refl refl h (λ k. found_timely moment old ids k q)
  where
    here : nat_lt id.0 moment ≡ false → (s : Bool) → same_id q id ≡ s → (s || is_among ids (Compacted q)) ≡ true → (is_among ids (Compacted q) ≡ true → is_among old (Compacted q) ≡ false → moment ≤ q.0) → moment ≤ q.0
    here late true is e rest = subst (λ (x : ℕ × ℕ). moment ≤ x.0) (sym (one q id is)) (not_before id.0 moment late)
    here late false is e rest = rest e new

    known : is_among old (Compacted id) ≡ true → (s : Bool) → same_id q id ≡ s → (s || is_among ids (Compacted q)) ≡ true → (is_among ids (Compacted q) ≡ true → is_among old (Compacted q) ≡ false → moment ≤ q.0) → moment ≤ q.0
    known old_one true is e rest = let clash : true ≡ false = sym old_one ∙ (ap (λ (x : ℕ × ℕ). is_among old (Compacted x)) (sym (one q id is)) ∙ new) in absurd cc
    known old_one false is e rest = rest e new

    by_test : (b a : Bool) → nat_lt id.0 moment ≡ b → is_among old (Compacted id) ≡ a → early_refusal moment (if b && not a then Some (Compacted id) else find (is_early moment old) ids) ≡ None
        → (early_refusal moment (find (is_early moment old) ids) ≡ None → is_among ids (Compacted q) ≡ true → is_among old (Compacted q) ≡ false → moment ≤ q.0) → moment ≤ q.0
    by_test true true is old_one e rest = known old_one (same_id q id) refl among (rest e)
    by_test true false is old_one e rest = absurd cc
    by_test false a is old_one e rest = here is (same_id q id) refl among (rest e)

timely_found : (moment : ℕ) (old ids : List SsTableId) → StartAt moment old ids → early_refusal moment (find (is_early moment old) ids) ≡ None
timely_found moment old [] h = refl
timely_found moment old (Wal number ∷ ids) h = timely_found moment old ids h
timely_found moment old (Compacted id ∷ ids) h = by_test (nat_lt id.0 moment) (is_among old (Compacted id)) refl refl (timely_found moment old ids (λ q among new. h q (later_is (same_id q id) (is_among ids (Compacted q)) among) new))
  where
    own : is_among (Compacted id ∷ ids) (Compacted id) ≡ true
    own = ap (λ (b : Bool). b || is_among ids (Compacted id)) (is_itself id)

    by_test : (b a : Bool) → nat_lt id.0 moment ≡ b → is_among old (Compacted id) ≡ a → early_refusal moment (find (is_early moment old) ids) ≡ None
        → early_refusal moment (if b && not a then Some (Compacted id) else find (is_early moment old) ids) ≡ None
    by_test true true is old_one rest = rest
    by_test true false is old_one rest = absurd (not_below id.0 moment (h id own old_one) is)
    by_test false a is old_one rest = rest

pub timely : (old new : Manifest) → tick_refusal old new ≡ None ↔ AreTimely old new
timely old new = (found_timely (least_tick old) (flushed_tables old.core) (flushed_tables new.core), timely_found (least_tick old) (flushed_tables old.core) (flushed_tables new.core))

-- ---- what the rules refuse with

kept_cause : (rule : UpdateRule) (b : Bool) → IsOfRules (unless_kept rule b)
kept_cause rule true = tt
kept_cause rule false = refl

early_cause : (moment : ℕ) (o : Option SsTableId) → IsOfRules (early_refusal moment o)
early_cause moment None = tt
early_cause moment (Some (Wal number)) = tt
early_cause moment (Some (Compacted id)) = refl

nested_cause : (s : Prefixed) (ss : List Prefixed) → IsOfRules (nested_after s ss)
nested_cause s [] = tt
nested_cause s (t ∷ ss) = by_test (begins_with s.prefix t.prefix) (nested_cause t ss)
  where
    by_test : (b : Bool) → IsOfRules (nested_after t ss) → IsOfRules (if b then Some (InvalidSegmentPrefix t.prefix s.prefix) else nested_after t ss)
    by_test true rest = refl
    by_test false rest = rest

prefix_cause : (ss : List Prefixed) → IsOfRules (prefix_refusal ss)
prefix_cause [] = tt
prefix_cause (s ∷ ss) = nested_cause s ss

one_cause : (o : Option SlateDBError) (os : List (Option SlateDBError)) → IsOfRules o → IsOfRules (first_refusal os) → IsOfRules (first_refusal (o ∷ os))
one_cause None os h rest = rest
one_cause (Some e) os h rest = h

pub causes : (n : ℕ) (old new : Manifest) (right : Right) → IsOfRules (manifest_refusal n old new right)
causes n old new right =
    one_cause (unless_kept U1 (not (falls old new))) _ (kept_cause U1 (not (falls old new)))
    (one_cause (unless_kept U2 (names_known n old new)) _ (kept_cause U2 (names_known n old new))
    (one_cause (unless_kept U3 (entries_kept old new)) _ (kept_cause U3 (entries_kept old new))
    (one_cause (tick_refusal old new) _ (early_cause (least_tick old) (find (is_early (least_tick old) (flushed_tables old.core)) (flushed_tables new.core)))
    (one_cause (unless_kept U5 (runs_known old new right)) _ (kept_cause U5 (runs_known old new right))
    (one_cause (prefix_refusal new.core.segments) [] (prefix_cause new.core.segments) tt)))))
