-- Segments of normal trees stand as before.
use Rattle.std.specs.Prelude.{◌≡◌, ℕ, ◌&&◌, List, [], ◌∷◌, map, refl}
use Rattle.std.proofs.Common.{ap, ◌∙◌}
use Rattle.slate_ids.specs.Keys.{key_lt}
use Rattle.slate_model.specs.Segments.{Prefixed, ascend_from, IsAscending}
use Rattle.slate_layout_encodable.specs.Normal.{normal_segment}

same_order : (last : List ℕ) (ss : List Prefixed) → ascend_from last (map normal_segment ss) ≡ ascend_from last ss
same_order last [] = refl
same_order last (s ∷ ss) = ap (λ b. key_lt last s.prefix && b) (same_order s.prefix ss)

pub ascend_as_before : (ss : List Prefixed) → IsAscending ss → IsAscending (map normal_segment ss)
ascend_as_before ss h = same_order [] ss ∙ h
