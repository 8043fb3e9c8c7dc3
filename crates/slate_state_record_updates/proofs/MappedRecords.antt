-- Compactions that are changed one by one under their own ids stand in the same order.
use Rattle.std.specs.Prelude.{◌≡◌, ℕ, Bool, true, false, List, [], ◌∷◌, map, None, if◌then◌else◌, refl}
use Rattle.std.specs.List.{list_all}
use Rattle.std.proofs.Common.{ap, ◌∙◌}
use Rattle.std.proofs.lemmas.Bool.{and_parts, and_from}
use Rattle.slate_ids.specs.Ulids.{id_lt}
use Rattle.slate_model_records.specs.declared.compaction.Compaction.{Compaction}
use Rattle.slate_model_records.specs.declared.compaction_status.CompactionStatus.TheVariants.{Submitted}
use Rattle.slate_model_records.specs.Records.{are_ascending}
use Rattle.slate_state_record_updates.specs.EntrySteps.{is_scheduled, unscheduled, with_local_status}

-- ---- a map that keeps ids keeps the order

mapped_all : (f : Compaction → Compaction) → ((c : Compaction) → (f c).id ≡ c.id) → (id : ℕ × ℕ) (cs : List Compaction) → list_all (λ d. id_lt id d.id) cs ≡ true → list_all (λ d. id_lt id d.id) (map f cs) ≡ true
mapped_all f keeps id [] h = refl
mapped_all f keeps id (c ∷ cs) h =
    let p = and_parts (id_lt id c.id) (list_all (λ d. id_lt id d.id) cs) h in
    and_from _ _ (ap (id_lt id) (keeps c) ∙ p.0) (mapped_all f keeps id cs p.1)

mapped_ascend : (f : Compaction → Compaction) → ((c : Compaction) → (f c).id ≡ c.id) → (cs : List Compaction) → are_ascending cs ≡ true → are_ascending (map f cs) ≡ true
mapped_ascend f keeps [] h = refl
mapped_ascend f keeps (c ∷ cs) h =
    let p = and_parts (list_all (λ d. id_lt c.id d.id) cs) (are_ascending cs) h in
    and_from _ _ (ap (λ (id : ℕ × ℕ). list_all (λ d. id_lt id d.id) (map f cs)) (keeps c) ∙ mapped_all f keeps c.id cs p.0) (mapped_ascend f keeps cs p.1)

unscheduled_id : (c : Compaction) → (unscheduled c).id ≡ c.id
unscheduled_id c = by (is_scheduled c.status)
  where
    by : (b : Bool) → (if b then record c { status = Submitted; worker = None } else c).id ≡ c.id
    by true = refl
    by false = refl

pub unscheduled_ascend : (cs : List Compaction) → are_ascending cs ≡ true → are_ascending (map unscheduled cs) ≡ true
unscheduled_ascend = mapped_ascend unscheduled unscheduled_id

pub local_ascend : (local cs : List Compaction) → are_ascending cs ≡ true → are_ascending (map (with_local_status local) cs) ≡ true
local_ascend local = mapped_ascend (with_local_status local) (λ c. refl)
