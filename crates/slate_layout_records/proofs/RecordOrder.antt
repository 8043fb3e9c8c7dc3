-- The order of compactions that are read, and of their normal forms.
use Rattle.std.specs.Prelude.{◌≡◌, ℕ, ◌&&◌, true, List, [], ◌∷◌, map, refl}
use Rattle.std.specs.List.{list_all}
use Rattle.std.proofs.Common.{ap, ◌∙◌}
use Rattle.std.proofs.lemmas.Bool.{and_parts, and_from}
use Rattle.slate_model_records.specs.declared.compaction.Compaction.{Compaction}
use Rattle.slate_model_records.specs.Records.{are_ascending}
use Rattle.slate_ids.specs.Ulids.{id_lt}
use Rattle.slate_ids.proofs.IdOrder.{chained}
use Rattle.slate_layout_records.specs.RecordBytes.{Raw, compaction_of, leads, raws_ascend}
use Rattle.slate_layout_records.specs.RecordNormal.{normal_compaction}

-- ---- what ascends step by step does so as a whole

all_through : (a b : ℕ × ℕ) (cs : List Compaction) → id_lt a b ≡ true → list_all (λ d. id_lt b d.id) cs ≡ true → list_all (λ d. id_lt a d.id) cs ≡ true
all_through a b [] h g = refl
all_through a b (c ∷ cs) h g =
    let p = and_parts (id_lt b c.id) (list_all (λ d. id_lt b d.id) cs) g in
    and_from _ _ (chained a b c.id h p.0) (all_through a b cs h p.1)

before_all : (id : ℕ × ℕ) (raws : List Raw) → leads id raws ≡ true → are_ascending (map compaction_of raws) ≡ true → list_all (λ d. id_lt id d.id) (map compaction_of raws) ≡ true
before_all id [] h g = refl
before_all id (r ∷ raws) h g = and_from _ _ h (all_through id r.0 (map compaction_of raws) h (and_parts (list_all (λ d. id_lt r.0 d.id) (map compaction_of raws)) (are_ascending (map compaction_of raws)) g).0)

pub ascending_of : (raws : List Raw) → raws_ascend raws ≡ true → are_ascending (map compaction_of raws) ≡ true
ascending_of [] h = refl
ascending_of (r ∷ raws) h =
    let p = and_parts (leads r.0 raws) (raws_ascend raws) h in
    let more = ascending_of raws p.1 in
    and_from _ _ (before_all r.0 raws p.0 more) more

-- ---- normal forms

normal_all : (id : ℕ × ℕ) (cs : List Compaction) → list_all (λ d. id_lt id d.id) (map normal_compaction cs) ≡ list_all (λ d. id_lt id d.id) cs
normal_all id [] = refl
normal_all id (c ∷ cs) = ap (λ b. id_lt id c.id && b) (normal_all id cs)

-- normal forms stand in the same order
pub normal_ascend : (cs : List Compaction) → are_ascending cs ≡ true → are_ascending (map normal_compaction cs) ≡ true
normal_ascend [] h = refl
normal_ascend (c ∷ cs) h =
    let p = and_parts (list_all (λ d. id_lt c.id d.id) cs) (are_ascending cs) h in
    and_from _ _ (normal_all c.id cs ∙ p.0) (normal_ascend cs p.1)
