-- Bytes from a place on.
use Rattle.std.proofs.Common.{◌≡◌, ℕ, ◌+◌, ◌-◌, ◌<◌, min, List, [], ◌++◌, length, take, drop, length-drop, ap, sym, ◌∙◌, arith}
use Rattle.std.proofs.Math.ListN.{drop_of_length-le}
use Rattle.std.proofs.Math.Seq.{take-length}
use Rattle.std.proofs.lemmas.List.{drop-drop, take-append-drop}

pub tail_slice : (p : ℕ) (bs : List ℕ) → take (length bs - p) (drop p bs) ≡ drop p bs
tail_slice p bs = ap (λ n. take n (drop p bs)) (sym (length-drop p bs)) ∙ take-length (drop p bs)

-- a copied front of the bytes left, and the rest of them
pub front_and_rest : (now bs to : List ℕ) (p n : ℕ) → now ≡ bs → take n to ≡ take n (take (length now - p) (drop p now)) → drop p bs ≡ take n to ++ drop (p + n) bs
front_and_rest now bs to p n v e =
    let copied : take n to ≡ take n (drop p bs) = e ∙ ap (take n) (tail_slice p now) ∙ ap (λ (xs : List ℕ). take n (drop p xs)) v in
    sym (take-append-drop n (drop p bs)) ∙ ap (λ (f : List ℕ). f ++ drop n (drop p bs)) (sym copied) ∙ ap (λ (r : List ℕ). take n to ++ r) (drop-drop n p bs)

-- where nothing was copied and there was room, no byte is left
pub nothing_left : (now bs : List ℕ) (p n room : ℕ) → now ≡ bs → n ≡ min (length (take (length now - p) (drop p now))) room → n ≡ 0 → 0 < room → drop (p + n) bs ≡ []
nothing_left now bs p n room v e z r =
    let left : length (take (length now - p) (drop p now)) ≡ length now - p = ap length (tail_slice p now) ∙ length-drop p now in
    let same : length now ≡ length bs = ap length v in
    drop_of_length-le bs (omega (arith, e, z, r, left, same))
