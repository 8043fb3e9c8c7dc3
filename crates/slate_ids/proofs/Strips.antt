-- A front and an end are put on and taken off.
use Rattle.std.proofs.Common.{◌≡◌, ℕ, ◌-◌, true, List, ◌++◌, length, take, drop, Option, Some, None, option_and_then, option_map, refl, sym, ap, ◌∙◌, arith}
use Rattle.std.proofs.lemmas.List.{length-append, take-append-drop}
use Rattle.std.proofs.Math.Seq.{take-append_seam, drop-append_seam}
use Rattle.std.proofs.lemmas.Option.{option_and_then_some}
use Rattle.std.proofs.lemmas.Slice.Eq.{bytes_eq-Decides}
use Rattle.std.specs.Str.{bytes_eq}
use Rattle.slate_ids.specs.PathKind.{strip_front, strip_end, middle, or_else}
use Rattle.slate_ids.proofs.UlidTexts.{if_some}

pub same_bytes : (s t : List ℕ) → bytes_eq s t ≡ true → s ≡ t
same_bytes s t h = (bytes_eq-Decides s t).0 h

pub bytes_same : (s : List ℕ) → bytes_eq s s ≡ true
bytes_same s = (bytes_eq-Decides s s).1 refl

front_off : (front text : List ℕ) → strip_front front (front ++ text) ≡ Some text
unfolding strip_front
front_off front text = rw (take-append_seam front text, drop-append_seam front text, bytes_same front)

end_off : (end text : List ℕ) → strip_end end (text ++ end) ≡ Some text
unfolding strip_end
end_off end text =
    let size = length-append text end in
    let here : length (text ++ end) - length end ≡ length text = omega arith in
    rw (here, take-append_seam text end, drop-append_seam text end, bytes_same end)

front_on : (front text rest : List ℕ) → strip_front front text ≡ Some rest → front ++ rest ≡ text
unfolding strip_front
front_on front text rest h =
    let i = if_some (bytes_eq (take (length front) text) front) (Some (drop (length front) text)) rest h in
    let same : drop (length front) text ≡ rest = cc (i.1) in
    let begins : take (length front) text ≡ front = same_bytes _ _ i.0 in
    rw (← same) (ap (λ (f : List ℕ). f ++ drop (length front) text) (sym begins) ∙ take-append-drop (length front) text)

end_on : (end text rest : List ℕ) → strip_end end text ≡ Some rest → rest ++ end ≡ text
unfolding strip_end
end_on end text rest h =
    let i = if_some (bytes_eq (drop (length text - length end) text) end) (Some (take (length text - length end) text)) rest h in
    let same : take (length text - length end) text ≡ rest = cc (i.1) in
    let ends : drop (length text - length end) text ≡ end = same_bytes _ _ i.0 in
    rw (← same) (ap (λ (e : List ℕ). take (length text - length end) text ++ e) (sym ends) ∙ take-append-drop (length text - length end) text)

-- what stands between a front and an end that are put on
pub middle_off : (front end name : List ℕ) → middle front end (front ++ (name ++ end)) ≡ Some name
unfolding middle
middle_off front end name = ap (option_and_then (strip_end end)) (front_off front (name ++ end)) ∙ end_off end name

pub middle_on : (front end text name : List ℕ) → middle front end text ≡ Some name → front ++ (name ++ end) ≡ text
unfolding middle
middle_on front end text name h = option_and_then_some (strip_end end) (strip_front front text) name h (λ rest e f.
    ap (λ (r : List ℕ). front ++ r) (end_on end rest name f) ∙ front_on front text rest e)

pub middle_none : (front end text : List ℕ) → strip_front front text ≡ None → middle front end text ≡ None
unfolding middle
middle_none front end text h = ap (option_and_then (strip_end end)) h

pub or_else_some : {A P : Type 0} (a b : Option A) (x : A) → or_else a b ≡ Some x → (a ≡ Some x → P) → (b ≡ Some x → P) → P
or_else_some (Some y) b x h f g = f h
or_else_some None b x h f g = g h

pub option_map_some : {A B P : Type 0} (f : A → B) (o : Option A) (y : B) → option_map f o ≡ Some y → ((x : A) → o ≡ Some x → f x ≡ y → P) → P
option_map_some f None y h k = absurd cc
option_map_some f (Some x) y h k = k x refl (cc)
