-- The first and the last of views, as a slice gives them.
use Rattle.std.specs.Prelude.{◌-◌, List, [], ◌∷◌, length, slice_get, Some}
use Rattle.std.proofs.Common.{◌≡◌, ap, ◌∙◌, arith}
use Rattle.slate_ids.specs.KeyRange.{KeyRange, ranges_meet}
use Rattle.slate_model_tables.specs.Views.{View, effective_range}
use Rattle.slate_model_tables.specs.SortedRuns.{last_of, spans_meet}

some_is : {A : Type 0} (a b : A) → Some a ≡ Some b → a ≡ b
some_is a b h = cc

last_is : (v : View) (views : List View) (w : View) → Some w ≡ slice_get (v ∷ views) (length views) → w ≡ last_of v views
last_is v [] w h = some_is w v h
last_is v (next ∷ views) w h = last_is next views w h

-- whether the span from the first view to the last meets a range
pub spans_by : (views : List View) (f l : View) (r : KeyRange) → Some f ≡ slice_get views 0 → Some l ≡ slice_get views (length views - 1) → ranges_meet (record { start = (effective_range f).start; end = (effective_range l).end }) r ≡ spans_meet views r
spans_by [] f l r h k = absurd cc
spans_by (v ∷ views) f l r h k =
    let less : length (v ∷ views) - 1 ≡ length views = omega arith in
    let last = last_is v views l (k ∙ ap (slice_get (v ∷ views)) less) in
    let first = some_is f v h in
    ap (λ w. ranges_meet (record { start = (effective_range w).start; end = (effective_range l).end }) r) first ∙ ap (λ w. ranges_meet (record { start = (effective_range v).start; end = (effective_range w).end }) r) last
