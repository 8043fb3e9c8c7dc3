-- Compactions in a map, in the order of their ids.
use Rattle.std.specs.Prelude.{ℕ, ◌&&◌, ◌||◌, Bool, true, false, List, [], ◌∷◌, slice_get, Some, if◌then◌else◌}
use Rattle.std.specs.List.{list_any, list_all, AllByRecursion, All}
use Rattle.std.specs.List.Sorted.{IsStrictlySortedBy}
use Rattle.std.specs.Map.{keys_of, lookup}
use Rattle.std.specs.BTreeMap.{is_at}
use Rattle.std.specs.BTreeMap.Range.{IsLeBy}
use Rattle.std.specs.Ordering.{is_eq}
use Rattle.std.specs.declared.cmp.Ordering.TheVariants.{Less}
use Rattle.std.proofs.Common.{◌≡◌, refl, sym, ap, ◌∙◌}
use Rattle.std.proofs.lemmas.Bool.{and_from, or_from}
use Rattle.std.proofs.lemmas.List.Elements.{All-head, All-tail}
use Rattle.slate_model_records.specs.declared.compaction.Compaction.{Compaction}
use Rattle.slate_model_records.specs.Records.{are_ascending, entry_of, first_id}
use Rattle.slate_ids.specs.Ulids.{same_id, id_lt, id_cmp}
use Rattle.slate_model_records.specs.Entries.{compactions_of, UnderOwnIds}
use Rattle.slate_ids.proofs.IdOrder.{less, is_at_is, is_at_is_back, not_above}

abbrev pub Entry : Type 0
Entry = (ℕ × ℕ) × Compaction

pub clash : {P : Type 0} (b : Bool) → b ≡ true → b ≡ false → P
clash b t f = let e : true ≡ false = sym t ∙ f in absurd cc

-- those after an id, in a map
all_after : (id : ℕ × ℕ) (es : List Entry) → AllByRecursion (λ k. id_cmp id k ≡ Less) (keys_of es) → UnderOwnIds es → list_all (λ d. id_lt id d.id) (compactions_of es) ≡ true
all_after id [] h own = refl
all_after id (e ∷ es) h own = and_from (id_lt id e.1.id) (list_all (λ d. id_lt id d.id) (compactions_of es)) (ap (id_lt id) (sym own.0) ∙ less id e.0 h.0) (all_after id es h.1 own.1)

-- a map's keys ascend, so its compactions do
pub ascending : (es : List Entry) → IsStrictlySortedBy id_cmp (keys_of es) → UnderOwnIds es → are_ascending (compactions_of es) ≡ true
unfolding IsStrictlySortedBy
ascending [] sorted own = refl
ascending (e ∷ es) sorted own = and_from (list_all (λ d. id_lt e.1.id d.id) (compactions_of es)) (are_ascending (compactions_of es)) (ap (λ id. list_all (λ d. id_lt id d.id) (compactions_of es)) (sym own.0) ∙ all_after e.0 es sorted.0 own.1) (ascending es sorted.1 own.1)

-- a look-up in a map
pub found : (id : ℕ × ℕ) (es : List Entry) → UnderOwnIds es → lookup (is_at (id_cmp id)) es ≡ entry_of id (compactions_of es)
found id [] own = refl
found id (e ∷ es) own = ap (λ b. if b then Some e.1 else lookup (is_at (id_cmp id)) es) (is_at_is id e.0 ∙ ap (λ k. same_id k id) own.0) ∙ ap (λ o. if same_id e.1.id id then Some e.1 else o) (found id es own.1)

-- the first key of a map
pub first_is : (es : List Entry) (id : ℕ × ℕ) (c : Compaction) → slice_get es 0 ≡ Some (id, c) → UnderOwnIds es → Some id ≡ first_id (compactions_of es)
first_is [] id c h own = absurd cc
first_is (e ∷ es) id c h own = let same : e ≡ (id, c) = cc in ap (λ (x : Entry). Some x.0) (sym same) ∙ ap Some own.0

-- no key is before the least one
pub none_before : (id : ℕ × ℕ) (es : List Entry) → All (IsLeBy id_cmp id) (keys_of es) → UnderOwnIds es → list_any (λ c. id_lt c.id id) (compactions_of es) ≡ false
none_before id [] h own = refl
none_before id (e ∷ es) h own = or_from (id_lt e.1.id id) (list_any (λ c. id_lt c.id id) (compactions_of es)) (ap (λ k. id_lt k id) (sym own.0) ∙ not_above id e.0 (All-head (IsLeBy id_cmp id) e.0 (keys_of es) h)) (none_before id es (All-tail (IsLeBy id_cmp id) e.0 (keys_of es) h) own.1)

-- a look-up after a change at one id
pub updated : (id : ℕ × ℕ) (c : Compaction) (old new : List Entry) → UnderOwnIds old → UnderOwnIds new → lookup (is_at (id_cmp id)) new ≡ (if is_eq (id_cmp c.id id) then Some c else lookup (is_at (id_cmp id)) old) → entry_of id (compactions_of new) ≡ (if same_id c.id id then Some c else entry_of id (compactions_of old))
updated id c old new own own_new h = sym (found id new own_new) ∙ h ∙ ap (λ b. if b then Some c else lookup (is_at (id_cmp id)) old) (is_at_is_back c.id id) ∙ ap (λ o. if same_id c.id id then Some c else o) (found id old own)
