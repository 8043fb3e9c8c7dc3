-- A set takes tables one by one.
use Rattle.std.specs.Prelude.{ℕ, ◌+◌, ◌<◌, ◌||◌, ◌==◌, ◌&&◌, not, cond, Bool, true, false, List, [], ◌∷◌, length, Option, Some, if◌then◌else◌}
use Rattle.std.specs.List.{find}
use Rattle.std.specs.BTreeSet.{BTreeSet}
use Rattle.std.specs.Ordering.{nat_cmp, is_eq}
use Rattle.std.proofs.Common.{◌≡◌, refl, sym, ◌∙◌, ap, arith, drop, get_or}
use Rattle.std.proofs.lemmas.Bool.Decides.{nat_tests}
use Rattle.std.proofs.lemmas.List.{at_drop_more}
use Rattle.slate_ids.proofs.IdOrder.{is_at_is}
use Rattle.slate_model_tables.specs.declared.ss_table_id.SsTableId.{SsTableId}
use Rattle.slate_model_tables.specs.declared.ss_table_id.SsTableId.TheVariants.{Wal, Compacted}
use Rattle.slate_model.specs.Externals.{same_table}
use Rattle.slate_state_updates.specs.FlushedTables.{is_before, is_early}
use Rattle.slate_state_updates.specs.TableSets.{is_among, has_table, table_cmp, IsTableSet}

-- what the set has, or what is left of the tables, is what is among all
abbrev pub Left : (SsTableId → Bool) → List SsTableId → List SsTableId → Type 0
Left has rest all = (id : SsTableId) → (has id || is_among rest id) ≡ is_among all id

same_number : (a b : ℕ) → is_eq (nat_cmp a b) ≡ (b == a)
same_number a b = grind (arith, nat_tests)

pub same : (a b : SsTableId) → is_eq (table_cmp a b) ≡ same_table b a
same (Wal a) (Wal b) = same_number a b
same (Wal a) (Compacted b) = refl
same (Compacted a) (Wal b) = refl
same (Compacted a) (Compacted b) = is_at_is a b

turned : (b x r : Bool) → (cond b true x || r) ≡ (x || (b || r))
turned true true r = refl
turned true false r = refl
turned false true r = refl
turned false false r = refl

-- one more table is in the set
pub one_more : (has new : SsTableId → Bool) (ids all : List SsTableId) (i : ℕ) (id : SsTableId) → i < length ids → id ≡ get_or ids i id
    → ((q : SsTableId) → new q ≡ cond (is_eq (table_cmp id q)) true (has q)) → Left has (drop i ids) all → Left new (drop (i + 1) ids) all
one_more has new ids all i id lt at made left q =
    let rest = is_among (drop (i + 1) ids) q in
    let here : is_among (drop i ids) q ≡ (same_table q id || rest) = at_drop_more (λ x. is_among x q) ids i id lt ∙ ap (λ (x : SsTableId). is_among (x ∷ drop (i + 1) ids) q) (sym at) in
    ap (λ (b : Bool). b || rest) (made q ∙ ap (λ (b : Bool). cond b true (has q)) (same id q)) ∙ turned (same_table q id) (has q) rest ∙ ap (λ (b : Bool). has q || b) (sym here) ∙ left q

-- what a set answers for its tables
pub first_found : (set : BTreeSet SsTableId) (old ids : List SsTableId) (moment : ℕ) → IsTableSet set old
    → find (λ id. is_before moment id && not (has_table set id)) ids ≡ find (is_early moment old) ids
first_found set old [] moment is = refl
first_found set old (id ∷ ids) moment is =
    ap (λ (b : Bool). if is_before moment id && not b then Some id else find (λ x. is_before moment x && not (has_table set x)) ids) (is id)
    ∙ ap (λ (o : Option SsTableId). if is_early moment old id then Some id else o) (first_found set old ids moment is)
