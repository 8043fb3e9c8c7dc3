-- A list that is refused by the number of bytes that are left has an item that can't be read.
use Rattle.std.specs.Prelude.{◌≡◌, ℕ, zero, suc, ◌+◌, ◌*◌, ◌≤◌, ◌++◌, nat_le, Bool, true, false, List, [], ◌∷◌, length, Option, Some, None, if◌then◌else◌, refl}
use Rattle.std.proofs.Common.{ap, sym, ◌∙◌, subst, arith}
use Rattle.std.proofs.lemmas.List.{length-append}
use Rattle.std.proofs.lemmas.Bool.Decides.{nat_tests}
use Rattle.slate_layout_parts.specs.Reading.{◌>>=◌, u32_in, items_in, room_in, list_in, pair_in, made_in}
use Rattle.slate_layout_parts.specs.Reads.{AreBytes, Reads}
use Rattle.slate_layout_parts.specs.Shortcut.{counted_items_in}
use Rattle.slate_layout_parts.specs.laws.Parts.{steps, bind_at, same_found}
use Rattle.slate_layout_parts.specs.laws.Atoms.{u32_reads}

-- at least so many bytes stand before the rest
pub record IsShorter (least : ℕ) (bytes rest : List ℕ) : Type 0 where
  pub left : least + length rest ≤ length bytes
  pub rest_small : AreBytes rest

-- what is read takes at least so many bytes
pub record Takes {X : Type 0} (read : List ℕ → Option (X × List ℕ)) (least : ℕ) : Type 0 where
  pub takes : (bytes : List ℕ) (x : X) (rest : List ℕ) → AreBytes bytes → read bytes ≡ Some (x, rest) → IsShorter least bytes rest

shorter : (least : ℕ) (front rest bytes : List ℕ) → front ++ rest ≡ bytes → least ≤ length front → least + length rest ≤ length bytes
shorter least front rest bytes is long = let joined = length-append front rest in subst (λ (l : List ℕ). least + length rest ≤ length l) is (omega (arith, joined, long))

-- a part takes at least its least length
pub reads_take : {X : Type 0} (read : List ℕ → Option (X × List ℕ)) (write : X → List ℕ) (Fits : X → Type 0) (least : ℕ) → Reads read write Fits least → Takes read least
reads_take {X} read write Fits least h = record {
  takes = λ bytes x rest small e.
      let one = h.only bytes x rest small e in
      record { left = shorter least (write x) rest bytes one.front_is.is (h.long x one.fits); rest_small = one.front_is.rest_small };
}

-- so does what is made of it
pub made_take : {X Y : Type 0} (make : X → Option Y) (read : List ℕ → Option (X × List ℕ)) (least : ℕ) → Takes read least → Takes (made_in make read) least
made_take {X} {Y} make read least h = record {
  takes = λ bytes y rest small e.
      let s = steps (read bytes) (λ x. make x.0 >>= λ y. Some (y, x.1)) (y, rest) e in
      let t = steps (make s.value.0) (λ y. Some (y, s.value.1)) (y, rest) s.at_next in
      let same = same_found _ _ _ _ t.at_next in
      subst (λ (l : List ℕ). IsShorter least bytes l) same.1 (h.takes bytes s.value.0 s.value.1 small s.at_first);
}

both_left : (a b c m n : ℕ) → a + m ≤ n → b + c ≤ m → a + c ≤ n
both_left a b c m n h g = omega (arith, h, g)

-- two values, one after the other, take what the first takes
pub pair_take : {X Y : Type 0} (read : List ℕ → Option (X × List ℕ)) (least : ℕ) → Takes read least → (next : List ℕ → Option (Y × List ℕ)) (also : ℕ) → Takes next also → Takes (pair_in read next) least
pair_take {X} {Y} read least h next also g = record {
  takes = λ bytes p rest small e.
      let s = steps (read bytes) (λ x. next x.1 >>= λ y. Some ((x.0, y.0), y.1)) (p, rest) e in
      let t = steps (next s.value.1) (λ y. Some ((s.value.0, y.0), y.1)) (p, rest) s.at_next in
      let one = h.takes bytes s.value.0 s.value.1 small s.at_first in
      let two = g.takes s.value.1 t.value.0 t.value.1 one.rest_small t.at_first in
      let same = same_found _ _ _ _ t.at_next in
      subst (λ (l : List ℕ). IsShorter least bytes l) same.1 (record { left = both_left least also (length t.value.1) (length s.value.1) (length bytes) one.left two.left; rest_small = two.rest_small });
}

-- ---- lists

one_more : (n least rest mid all : ℕ) → least + mid ≤ all → n * least + rest ≤ mid → suc n * least + rest ≤ all
one_more n least rest mid all h g = let times : suc n * least ≡ least + n * least = omega arith in omega (arith, times, h, g)

too_long : (need all rest : ℕ) → nat_le need all ≡ false → need + rest ≤ all → ⊥
too_long need all rest h g = grind (arith, nat_tests)

module _ {X : Type 0} (read : List ℕ → Option (X × List ℕ)) (least : ℕ) (h : Takes read least) where
  items_take : (n : ℕ) (bytes : List ℕ) (xs : List X) (rest : List ℕ) → AreBytes bytes → items_in read n bytes ≡ Some (xs, rest) → IsShorter (n * least) bytes rest
  items_take zero bytes xs rest small e =
      let same = same_found _ _ _ _ e in
      subst (λ (l : List ℕ). IsShorter (0 * least) bytes l) same.1 (record { left = omega arith; rest_small = small })
  items_take (suc n) bytes xs rest small e =
      let s = steps (read bytes) (λ item. items_in read n item.1 >>= λ items. Some (item.0 ∷ items.0, items.1)) (xs, rest) e in
      let t = steps (items_in read n s.value.1) (λ items. Some (s.value.0 ∷ items.0, items.1)) (xs, rest) s.at_next in
      let one = h.takes bytes s.value.0 s.value.1 small s.at_first in
      let more = items_take n s.value.1 t.value.0 t.value.1 one.rest_small t.at_first in
      let same = same_found _ _ _ _ t.at_next in
      subst (λ (l : List ℕ). IsShorter (suc n * least) bytes l) same.1 (record { left = one_more n least (length t.value.1) (length s.value.1) (length bytes) one.left more.left; rest_small = more.rest_small })

  refused : (n : ℕ) (bytes : List ℕ) (o : Option (List X × List ℕ)) → AreBytes bytes → nat_le (n * least) (length bytes) ≡ false → items_in read n bytes ≡ o → None ≡ o
  refused n bytes None small short e = refl
  refused n bytes (Some p) small short e = absurd (too_long (n * least) (length bytes) (length p.1) short (items_take n bytes p.0 p.1 small e).left)

  room_by : (t : Bool) (n : ℕ) (bytes : List ℕ) → AreBytes bytes → nat_le (n * least) (length bytes) ≡ t → (if t then items_in read n bytes else None) ≡ items_in read n bytes
  room_by true n bytes small e = refl
  room_by false n bytes small e = refused n bytes (items_in read n bytes) small e refl

  -- where too few bytes are left for so many items, one of them can't be read
  pub room_is : (n : ℕ) (bytes : List ℕ) → AreBytes bytes → room_in read least n bytes ≡ items_in read n bytes
  room_is n bytes small = room_by (nat_le (n * least) (length bytes)) n bytes small refl

  counted_by : (o : Option (ℕ × List ℕ)) (bytes : List ℕ) → AreBytes bytes → u32_in bytes ≡ o → (o >>= λ n. room_in read least n.0 n.1) ≡ (o >>= λ n. items_in read n.0 n.1)
  counted_by None bytes small e = refl
  counted_by (Some p) bytes small e = room_is p.0 p.1 (u32_reads.only bytes p.0 p.1 small e).front_is.rest_small

  -- the look at the bytes that are left loses no list
  pub list_is : (bytes : List ℕ) → AreBytes bytes → list_in read least bytes ≡ counted_items_in read bytes
  list_is bytes small = counted_by (u32_in bytes) bytes small refl

  list_takes : (bytes : List ℕ) (xs : List X) (rest : List ℕ) → AreBytes bytes → counted_items_in read bytes ≡ Some (xs, rest) → IsShorter 4 bytes rest
  list_takes bytes xs rest small e =
      let s = steps (u32_in bytes) (λ n. items_in read n.0 n.1) (xs, rest) e in
      let one = (reads_take _ _ _ 4 u32_reads).takes bytes s.value.0 s.value.1 small s.at_first in
      let more = items_take s.value.0 s.value.1 xs rest one.rest_small s.at_next in
      record { left = both_left 4 (s.value.0 * least) (length rest) (length s.value.1) (length bytes) one.left more.left; rest_small = more.rest_small }

  -- a list takes the bytes of its count
  pub list_take : Takes (list_in read least) 4
  list_take = record { takes = λ bytes xs rest small e. list_takes bytes xs rest small (sym (list_is bytes small) ∙ e) }

-- the look loses no list of parts
pub parts_is : {X : Type 0} (read : List ℕ → Option (X × List ℕ)) (write : X → List ℕ) (Fits : X → Type 0) (least : ℕ) → Reads read write Fits least → (bytes : List ℕ) → AreBytes bytes → list_in read least bytes ≡ counted_items_in read bytes
parts_is {X} read write Fits least h = list_is read least (reads_take read write Fits least h)
