-- Views ascend from a place on where the one there ends before the next, and those from the next on ascend.
use Rattle.std.specs.Prelude.{ℕ, ◌+◌, ◌<◌, Bool, true, ◌&&◌, List, [], ◌∷◌, length, get_or, drop}
use Rattle.std.proofs.Common.{◌≡◌, refl, sym, ap, ◌∙◌, arith}
use Rattle.std.proofs.lemmas.List.{drop_more}
use Rattle.slate_model_tables.specs.Views.{View}
use Rattle.slate_model_tables.specs.SortedRuns.{ascend, ends_before_next}

ascend_cons : (v : View) (views : List View) → ascend (v ∷ views) ≡ (ends_before_next v views && ascend views)
unfolding ascend
ascend_cons v views = refl

pub ascend_nothing : ascend [] ≡ true
unfolding ascend
ascend_nothing = refl

pub ascend_at : (views : List View) (i : ℕ) (b : Bool) → i < length views → ((d : View) → b ≡ ends_before_next (get_or views i d) (drop (i + 1) views)) → ascend (drop i views) ≡ (b && ascend (drop (i + 1) views))
ascend_at [] i b l h = absurd (omega arith)
ascend_at (v ∷ views) i b l h = ap ascend (drop_more (v ∷ views) i v l) ∙ ascend_cons (get_or (v ∷ views) i v) (drop (i + 1) (v ∷ views)) ∙ ap (λ t. t && ascend (drop (i + 1) (v ∷ views))) (sym (h v))
