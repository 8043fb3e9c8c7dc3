-- The least milliseconds of a record, and what the rules on records keep of them.
use Rattle.std.specs.Prelude.{ℕ, suc, length, pos, ◌≤◌, nat_lt, ◌==◌, ◌&&◌, ◌||◌, min, Bool, true, false, List, [], ◌∷◌, not, Option, Some, None, is_some, if◌then◌else◌, ◌≢◌}
use Rattle.std.specs.List.{list_any, AllByRecursion}
use Rattle.std.specs.Option.{option_or}
use Rattle.std.proofs.Common.{◌≡◌, refl, sym, ap, ◌∙◌, arith}
use Rattle.std.proofs.lemmas.Bool.Decides.{nat_tests}
use Rattle.slate_ids.specs.declared.error.SlateDBError.{SlateDBError}
use Rattle.slate_ids.specs.declared.error.SlateDBError.TheVariants.{InvalidClockTick}
use Rattle.slate_ids.specs.declared.error.UpdateRule.TheVariants.{U1, U8, U9}
use Rattle.slate_txn_log.specs.declared.right.Right.{Right}
use Rattle.slate_ids.specs.Ulids.{id_lt, same_id}
use Rattle.slate_model_records.specs.declared.compaction.Compaction.{Compaction}
use Rattle.slate_model_records.specs.Records.{Record, first_id, entry_of}
use Rattle.slate_state_record_updates.specs.RecordRules.{first_refusal, rule_refusal, clock_refusal, epoch_falls, least_with, least_ms, entry_refusal, outputs_refusal, clocks_refusal, is_emptied, is_lost, removal_refusal, refusal_between, KeepsLeast}

or_parts : (a b : Bool) → (a || b) ≡ false → (a ≡ false) × (b ≡ false)
or_parts true b h = absurd cc
or_parts false b h = (refl, h)

not_below : (a b : ℕ × ℕ) → id_lt a b ≡ false → b.0 ≤ a.0
not_below a b h = let p = or_parts (nat_lt a.0 b.0) ((a.0 == b.0) && nat_lt a.1 b.1) h in grind (arith, nat_tests, p.0)

least_of_two : (a b m : ℕ) → m ≤ a → b ≡ m → min a b ≡ m
least_of_two a b m h e = omega arith

-- no milliseconds are below those of an id that is before all others
none_less : (id : ℕ × ℕ) (cs : List Compaction) → list_any (λ c. id_lt c.id id) cs ≡ false → least_with id.0 cs ≡ id.0
none_less id [] h = refl
none_less id (c ∷ cs) h =
    let p = or_parts (id_lt c.id id) (list_any (λ d. id_lt d.id id) cs) h in
    least_of_two c.id.0 (least_with id.0 cs) id.0 (not_below c.id id p.0) (none_less id cs p.1)

-- the least id has the least milliseconds
pub least_is : (id : ℕ × ℕ) (cs : List Compaction) → Some id ≡ first_id cs → list_any (λ c. id_lt c.id id) cs ≡ false → id.0 ≡ least_ms cs
least_is id [] e h = absurd cc
least_is id (c ∷ cs) e h =
    let same : id ≡ c.id = cc in
    let p = or_parts (id_lt c.id id) (list_any (λ d. id_lt d.id id) cs) h in
    sym (none_less id cs p.1) ∙ ap (λ (i : ℕ × ℕ). least_with i.0 cs) same

-- ---- what the rules keep

-- where neither of two refuses
neither : {X : Type 0} (a b : Option X) → option_or a b ≡ None → (a ≡ None) × (b ≡ None)
neither (Some x) b h = absurd cc
neither None b h = (refl, h)

none_refuses : {X : Type 0} (f : X → Option SlateDBError) (xs : List X) → first_refusal f xs ≡ None → AllByRecursion (λ x. f x ≡ None) xs
none_refuses f [] h = tt
none_refuses f (x ∷ xs) h = let p = neither (f x) (first_refusal f xs) h in (p.0, none_refuses f xs p.1)

no_clock : (last next : ℕ) → clock_refusal last next ≡ None → last ≤ next
no_clock last next h = by (nat_lt next last) refl h
  where
    by : (b : Bool) → nat_lt next last ≡ b → (if b then Some (InvalidClockTick (pos last) (pos next)) else None) ≡ None → last ≤ next
    by true t e = absurd cc
    by false t e = grind (arith, nat_tests, t)

-- the least is at or below each
below_first : (ms : ℕ) (cs : List Compaction) → least_with ms cs ≤ ms
below_first ms [] = omega arith
below_first ms (c ∷ cs) = omega (arith, below_first ms cs)

same_ms : (a b : ℕ × ℕ) → same_id a b ≡ true → a.0 ≡ b.0
same_ms a b h = grind (arith, nat_tests, h)

below_found : (ms : ℕ) (id : ℕ × ℕ) (cs : List Compaction) → is_some (entry_of id cs) ≡ true → least_with ms cs ≤ id.0
below_found ms id [] h = absurd cc
below_found ms id (c ∷ cs) h = by (same_id c.id id) refl h (below_found ms id cs)
  where
    by : (b : Bool) → same_id c.id id ≡ b → is_some (if b then Some c else entry_of id cs) ≡ true → (is_some (entry_of id cs) ≡ true → least_with ms cs ≤ id.0) → least_with ms (c ∷ cs) ≤ id.0
    by true t e rest = omega (arith, same_ms c.id id t)
    by false t e rest = omega (arith, rest e)

least_below : (id : ℕ × ℕ) (cs : List Compaction) → is_some (entry_of id cs) ≡ true → least_ms cs ≤ id.0
least_below id [] h = absurd cc
least_below id (c ∷ cs) h = by (same_id c.id id) refl h
  where
    by : (b : Bool) → same_id c.id id ≡ b → is_some (if b then Some c else entry_of id cs) ≡ true → least_with c.id.0 cs ≤ id.0
    by true t e = omega (arith, same_ms c.id id t, below_first c.id.0 cs)
    by false t e = below_found c.id.0 id cs e

-- a compaction that isn't refused lies at or above the old least
stands : (old : List Compaction) (c : Compaction) → entry_refusal old c ≡ None → least_ms old ≤ c.id.0
stands old c h = by (is_some (entry_of c.id old)) refl h
  where
    by : (b : Bool) → is_some (entry_of c.id old) ≡ b → (if b then None else clock_refusal (least_ms old) c.id.0) ≡ None → least_ms old ≤ c.id.0
    by true t e = least_below c.id old t
    by false t e = no_clock (least_ms old) c.id.0 e

all_stand : (old : List Compaction) (ms : ℕ) (new : List Compaction) → least_ms old ≤ ms → AllByRecursion (λ c. entry_refusal old c ≡ None) new → least_ms old ≤ least_with ms new
all_stand old ms [] h a = h
all_stand old ms (c ∷ new) h a = omega (arith, stands old c a.0, all_stand old ms new h a.1)

all_gone : (n : ℕ) → (not (suc n == 0) && (0 == 0)) ≡ false → ⊥
all_gone n h = grind (arith, nat_tests, h)

not_emptied : (old new : List Compaction) → old ≢ [] → is_emptied old new ≡ false → new ≢ []
not_emptied [] new some h = absurd (some refl)
not_emptied (c ∷ old) [] some h = λ e. all_gone (length old) h
not_emptied (c ∷ old) (d ∷ new) some h = λ e. absurd cc

least_stands : (old new : List Compaction) → new ≢ [] → AllByRecursion (λ c. entry_refusal old c ≡ None) new → least_ms old ≤ least_ms new
least_stands old [] some a = absurd (some refl)
least_stands old (c ∷ new) some a = all_stand old c.id.0 new (stands old c a.0) a.1

no_rule : (b : Bool) → rule_refusal b U8 ≡ None → b ≡ false
no_rule true h = absurd cc
no_rule false h = refl

-- a record with compactions keeps one, and its least milliseconds don't fall
pub keeps_least : (old new : Record) (right : Right) → refusal_between old new right ≡ None → old.entries ≢ [] → KeepsLeast old.entries new.entries
keeps_least old new right h some =
    let p = neither (rule_refusal (epoch_falls old new) U1) (option_or (clocks_refusal old.entries new.entries) (removal_refusal right old.entries new.entries)) h in
    let q = neither (clocks_refusal old.entries new.entries) (removal_refusal right old.entries new.entries) p.1 in
    let clocks = neither (first_refusal (entry_refusal old.entries) new.entries) (first_refusal outputs_refusal new.entries) q.0 in
    let goes = neither (rule_refusal (is_emptied old.entries new.entries) U8) (rule_refusal (list_any (is_lost right new.entries) old.entries) U9) q.1 in
    let left : new.entries ≢ [] = not_emptied old.entries new.entries some (no_rule (is_emptied old.entries new.entries) goes.0) in
    record {
      some_stand = left;
      least = least_stands old.entries new.entries left (none_refuses (entry_refusal old.entries) new.entries clocks.0);
    }
