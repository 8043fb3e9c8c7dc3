use Rattle.std.proofs.Common.{rules, sym}
use Rattle.std.proofs.lemmas.List.Sorted.{IsNonDecreasingBy-from_sort, answers_always, list_any-IsPermutation}
use Rattle.slate_gc_picks.specs.WalCovers.{Span, is_spanned}
use Rattle.slate_gc_picks.proofs.wal_cover.sort.Goals as goal

pub returns-clause-same : goal.returns-clause-same
returns-clause-same c = λ n. sym (list_any-IsPermutation (is_spanned n) _ _ c.sort_unstable_by_key.ensures.permutation)

pub returns-clause-sorted : goal.returns-clause-sorted
returns-clause-sorted c = IsNonDecreasingBy-from_sort (λ (s : Span). s.first) _ (c.sort_unstable_by_key.ensures.sorted (λ (s : Span). s.first) (answers_always _ _ _ (λ f a r g h. search rules)))
