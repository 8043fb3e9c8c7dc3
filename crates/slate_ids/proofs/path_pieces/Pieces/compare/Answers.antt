use Rattle.std.proofs.Common.{refl, ap, ◌∙◌, append_assoc, List, [], ◌∷◌, ℕ, ◌≡◌, ◌++◌}
use Rattle.std.specs.Ordering.{nat_cmp}
use Rattle.std.specs.Cmp.Lexicographic.{slice_cmp}
use Rattle.std.proofs.lemmas.Iterator.{YieldsList-from_slice}
use Rattle.std.proofs.lemmas.Iterator.Consumers.{YieldsList-from_chain, YieldsList-at}
use Rattle.std.proofs.lemmas.Iterator.Search.{cmp_from_yields_List}
use Rattle.slate_ids.proofs.path_pieces.Pieces.compare.Goals as goal

regroup : (a s b c d : List ℕ) → (((a ++ s) ++ b) ++ c) ++ d ≡ a ++ (s ++ (b ++ (c ++ d)))
regroup a s b c d = simp append_assoc

same_groups : (s a b c d p q r t : List ℕ) → slice_cmp nat_cmp ((((a ++ s) ++ b) ++ c) ++ d) ((((p ++ s) ++ q) ++ r) ++ t) ≡ slice_cmp nat_cmp (a ++ (s ++ (b ++ (c ++ d)))) (p ++ (s ++ (q ++ (r ++ t))))
same_groups s a b c d p q r t = rw (regroup a s b c d, regroup p s q r t)

abbrev slash : List ℕ
slash = 47 ∷ []

pub returns : goal.returns
returns c =
    let own = c.args.self.now in
    let other = c.args.other.now in
    let own_db : c.chain.result.a.rest.now ≡ own.db.now = ap (λ s. s.rest.now) c.chain.ensures.first ∙ c.iter.ensures.rest ∙ c.as_bytes.ensures.value in
    let other_db : c.chain-4.result.a.rest.now ≡ other.db.now = ap (λ s. s.rest.now) c.chain-4.ensures.first ∙ c.iter-2.ensures.rest ∙ c.as_bytes-5.ensures.value in
    let slashed = YieldsList-from_chain {s = c.chain.result} (YieldsList-from_slice own.db.now own_db) (YieldsList-from_slice slash (c.chain.ensures.second.0 ∙ c.as_slice.ensures)) c.chain.ensures.first_done c.chain.ensures.second_done in
    let front = YieldsList-from_chain {s = c.chain-2.result} (YieldsList-at c.chain-2.ensures.first slashed) (YieldsList-from_slice own.front.now (c.chain-2.ensures.second.0 ∙ c.as_bytes-2.ensures.value)) c.chain-2.ensures.first_done c.chain-2.ensures.second_done in
    let named = YieldsList-from_chain {s = c.chain-3.result} (YieldsList-at c.chain-3.ensures.first front) (YieldsList-from_slice own.name.now (c.chain-3.ensures.second.0 ∙ c.as_bytes-3.ensures.value)) c.chain-3.ensures.first_done c.chain-3.ensures.second_done in
    let all = YieldsList-from_chain {s = c.chain-own.result} (YieldsList-at c.chain-own.ensures.first named) (YieldsList-from_slice own.suffix.now (c.chain-own.ensures.second.0 ∙ c.as_bytes-4.ensures.value)) c.chain-own.ensures.first_done c.chain-own.ensures.second_done in
    let others_slashed = YieldsList-from_chain {s = c.chain-4.result} (YieldsList-from_slice other.db.now other_db) (YieldsList-from_slice slash (c.chain-4.ensures.second.0 ∙ c.as_slice-2.ensures)) c.chain-4.ensures.first_done c.chain-4.ensures.second_done in
    let others_front = YieldsList-from_chain {s = c.chain-5.result} (YieldsList-at c.chain-5.ensures.first others_slashed) (YieldsList-from_slice other.front.now (c.chain-5.ensures.second.0 ∙ c.as_bytes-6.ensures.value)) c.chain-5.ensures.first_done c.chain-5.ensures.second_done in
    let others_named = YieldsList-from_chain {s = c.chain-6.result} (YieldsList-at c.chain-6.ensures.first others_front) (YieldsList-from_slice other.name.now (c.chain-6.ensures.second.0 ∙ c.as_bytes-7.ensures.value)) c.chain-6.ensures.first_done c.chain-6.ensures.second_done in
    let others_all = YieldsList-from_chain {s = c.chain-others.result} (YieldsList-at c.chain-others.ensures.first others_named) (YieldsList-from_slice other.suffix.now (c.chain-others.ensures.second.0 ∙ c.as_bytes-8.ensures.value)) c.chain-others.ensures.first_done c.chain-others.ensures.second_done in
    cmp_from_yields_List (λ x y. y ≡ x) c.chain-others.result nat_cmp c.cmp.result c.cmp.ensures.ran all (λ it e. YieldsList-at e others_all) (λ x y. refl) ∙ same_groups slash own.db.now own.front.now own.name.now own.suffix.now other.db.now other.front.now other.name.now other.suffix.now
