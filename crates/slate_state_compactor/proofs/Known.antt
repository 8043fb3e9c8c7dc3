-- A compaction that was found by an id is found by its own.
use Rattle.std.specs.Prelude.{ℕ, Bool, true, false, List, [], ◌∷◌, Option, Some, is_some, if◌then◌else◌}
use Rattle.std.proofs.Common.{◌≡◌, refl, ap, ◌∙◌}
use Rattle.slate_ids.specs.Ulids.{same_id}
use Rattle.slate_ids.proofs.IdOrder.{is_itself}
use Rattle.slate_model_records.specs.Records.{entry_of}
use Rattle.slate_model_records.specs.declared.compaction.Compaction.{Compaction}

some_of : (b : Bool) (d : Compaction) (o : Option Compaction) → is_some o ≡ true → is_some (if b then Some d else o) ≡ true
some_of true d o h = refl
some_of false d o h = h

here : (c : Compaction) (cs : List Compaction) → is_some (entry_of c.id (c ∷ cs)) ≡ true
here c cs = ap (λ (b : Bool). is_some (if b then Some c else entry_of c.id cs)) (is_itself c.id)

pub is_known : (id : ℕ × ℕ) (cs : List Compaction) (c : Compaction) → entry_of id cs ≡ Some c → is_some (entry_of c.id cs) ≡ true
is_known id [] c h = absurd cc
is_known id (d ∷ cs) c h = by (same_id d.id id) (is_known id cs c) h
  where
    by : (b : Bool) → (entry_of id cs ≡ Some c → is_some (entry_of c.id cs) ≡ true) → (if b then Some d else entry_of id cs) ≡ Some c → is_some (entry_of c.id (d ∷ cs)) ≡ true
    by true more h = let same : d ≡ c = cc in ap (λ (e : Compaction). is_some (entry_of c.id (e ∷ cs))) same ∙ here c cs
    by false more h = some_of (same_id d.id c.id) d (entry_of c.id cs) (more h)
