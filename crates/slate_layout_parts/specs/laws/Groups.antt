-- Options, lists and pairs give back what was written, and find only that, where what they are made of does.
use Rattle.std.specs.Prelude.{◌≡◌, ℕ, zero, suc, ◌+◌, ◌*◌, ◌<◌, ◌≤◌, ◌^◌, ◌++◌, nat_le, Bool, true, false, List, [], ◌∷◌, length, Option, Some, None, if◌then◌else◌, refl}
use Rattle.std.specs.List.{flat_map}
use Rattle.std.proofs.Common.{ap, ◌∙◌, sym, subst, arith}
use Rattle.std.proofs.lemmas.List.{append_assoc, length-append}
use Rattle.std.proofs.lemmas.Bool.Decides.{nat_tests}
use Rattle.slate_layout_parts.specs.Bytes.{u32_bytes, flag_bytes, option_bytes, list_bytes, pair_bytes}
use Rattle.slate_layout_parts.specs.Reading.{◌>>=◌, flag_in, u32_in, value_in, option_in, items_in, room_in, list_in, pair_in, made_in}
use Rattle.slate_layout_parts.specs.Reads.{AreBytes, IsFront, IsRead, Reads, OptionFits, EachFits, ListFits, PairFits, MadeFits}
use Rattle.slate_layout_parts.specs.laws.Parts.{steps, bind_at, join_fronts, flag_only, u32_back, u32_only, u32_small, same_found}

four_long : (n : ℕ) (l : List ℕ) → 4 ≤ length (u32_bytes n ++ l)
unfolding u32_bytes
four_long n l = omega arith

-- ---- options

module _ {X : Type 0} (read : List ℕ → Option (X × List ℕ)) (write : X → List ℕ) (Fits : X → Type 0) (least : ℕ) (h : Reads read write Fits least) where
  option_back : (o : Option X) (rest : List ℕ) → OptionFits Fits o → option_in read (option_bytes write o ++ rest) ≡ Some (o, rest)
  option_back None rest fits = refl
  option_back (Some x) rest fits = bind_at (λ (value : X × List ℕ). Some (Some value.0, value.1)) (h.back x rest fits)

  value_only : (flag : Bool) (bytes mid : List ℕ) (o : Option X) (rest : List ℕ) → IsFront (flag_bytes flag) bytes mid
      → value_in read flag mid ≡ Some (o, rest) → IsRead (option_bytes write) (OptionFits Fits) o bytes rest
  value_only false bytes mid o rest front e =
      let same = same_found _ _ _ _ e in
      subst (λ (p : Option X). IsRead (option_bytes write) (OptionFits Fits) p bytes rest) same.0
      (record { fits = tt; front_is = subst (λ (l : List ℕ). IsFront (flag_bytes false) bytes l) same.1 front })
  value_only true bytes mid o rest front e =
      let s = steps (read mid) (λ value. Some (Some value.0, value.1)) (o, rest) e in
      let one = h.only mid s.value.0 s.value.1 front.rest_small s.at_first in
      let same = same_found _ _ _ _ s.at_next in
      subst (λ (p : Option X). IsRead (option_bytes write) (OptionFits Fits) p bytes rest) same.0
      (record {
        fits = one.fits;
        front_is = subst (λ (l : List ℕ). IsFront (flag_bytes true ++ write s.value.0) bytes l) same.1
            (join_fronts front one.front_is);
      })

  option_only : (bytes : List ℕ) (o : Option X) (rest : List ℕ) → AreBytes bytes → option_in read bytes ≡ Some (o, rest) → IsRead (option_bytes write) (OptionFits Fits) o bytes rest
  option_only bytes o rest small e =
      let s = steps (flag_in bytes) (λ flag. value_in read flag.0 flag.1) (o, rest) e in
      value_only s.value.0 bytes s.value.1 o rest (flag_only bytes s.value.0 s.value.1 small s.at_first) s.at_next

  option_long : (o : Option X) → OptionFits Fits o → 1 ≤ length (option_bytes write o)
  option_long None fits = omega arith
  option_long (Some x) fits = omega arith

  -- a value that may be missing
  pub option_reads : Reads (option_in read) (option_bytes write) (OptionFits Fits) 1
  option_reads = record { back = option_back; only = option_only; long = option_long }

-- ---- lists

-- so many values that were read, whose bytes stand in front of the rest
record AreItems {X : Type 0} (write : X → List ℕ) (Fits : X → Type 0) (count : ℕ) (xs : List X) (bytes rest : List ℕ) : Type 0 where
  each : EachFits Fits xs
  counted : length xs ≡ count
  front_is : IsFront (flat_map write xs) bytes rest

module _ {X : Type 0} (read : List ℕ → Option (X × List ℕ)) (write : X → List ℕ) (Fits : X → Type 0) (least : ℕ) (h : Reads read write Fits least) where
  items_back : (xs : List X) (rest : List ℕ) → EachFits Fits xs → items_in read (length xs) (flat_map write xs ++ rest) ≡ Some (xs, rest)
  items_back [] rest fits = refl
  items_back (x ∷ xs) rest fits =
      ap (λ (l : List ℕ). items_in read (suc (length xs)) l) (append_assoc (write x) (flat_map write xs) rest)
      ∙ bind_at (λ (item : X × List ℕ). items_in read (length xs) item.1 >>= λ items. Some (item.0 ∷ items.0, items.1)) (h.back x (flat_map write xs ++ rest) fits.0)
      ∙ bind_at (λ (items : List X × List ℕ). Some (x ∷ items.0, items.1)) (items_back xs rest fits.1)

  items_only : (count : ℕ) (bytes : List ℕ) (xs : List X) (rest : List ℕ) → AreBytes bytes → items_in read count bytes ≡ Some (xs, rest) → AreItems write Fits count xs bytes rest
  items_only zero bytes xs rest small e =
      let same = same_found _ _ _ _ e in
      subst (λ (ys : List X). AreItems write Fits 0 ys bytes rest) same.0
      (record { each = tt; counted = refl; front_is = record { is = sym same.1; rest_small = subst (λ (l : List ℕ). AreBytes l) same.1 small } })
  items_only (suc count) bytes xs rest small e =
      let s = steps (read bytes) (λ item. items_in read count item.1 >>= λ items. Some (item.0 ∷ items.0, items.1)) (xs, rest) e in
      let t = steps (items_in read count s.value.1) (λ items. Some (s.value.0 ∷ items.0, items.1)) (xs, rest) s.at_next in
      let one = h.only bytes s.value.0 s.value.1 small s.at_first in
      let more = items_only count s.value.1 t.value.0 t.value.1 one.front_is.rest_small t.at_first in
      let same = same_found _ _ _ _ t.at_next in
      subst (λ (ys : List X). AreItems write Fits (suc count) ys bytes rest) same.0 (record {
        each = (one.fits, more.each);
        counted = ap suc more.counted;
        front_is = subst (λ (l : List ℕ). IsFront (write s.value.0 ++ flat_map write t.value.0) bytes l) same.1 (join_fronts one.front_is more.front_is);
      })

  items_long : (xs : List X) → EachFits Fits xs → length xs * least ≤ length (flat_map write xs)
  items_long [] fits = omega arith
  items_long (x ∷ xs) fits = let one = h.long x fits.0 in let more = items_long xs fits.1 in let joined =
      length-append (write x) (flat_map write xs) in let times : suc (length xs) * least ≡ least + length xs * least =
      omega arith in omega (arith, times)

  has_room : (m n : ℕ) → m ≤ n → nat_le m n ≡ true
  has_room m n l = grind (arith, nat_tests)

  list_back : (xs : List X) (rest : List ℕ) → ListFits Fits xs → list_in read least (list_bytes write xs ++ rest) ≡ Some (xs, rest)
  list_back xs rest fits =
      let all = items_long xs fits.each in
      let joined = length-append (flat_map write xs) rest in
      ap (λ (l : List ℕ). list_in read least l) (append_assoc (u32_bytes (length xs)) (flat_map write xs) rest)
      ∙ bind_at (λ (n : ℕ × List ℕ). room_in read least n.0 n.1) (u32_back (length xs) (flat_map write xs ++ rest) fits.few)
      ∙ ap (λ (t : Bool). if t then items_in read (length xs) (flat_map write xs ++ rest) else None) (has_room (length xs * least) (length (flat_map write xs ++ rest)) (omega arith))
      ∙ items_back xs rest fits.each

  room_only : (t : Bool) (count : ℕ) (mid : List ℕ) (xs : List X) (rest : List ℕ) → (if t then items_in read count mid else None) ≡ Some (xs, rest) → items_in read count mid ≡ Some (xs, rest)
  room_only true count mid xs rest e = e
  room_only false count mid xs rest e = absurd cc

  list_only : (bytes : List ℕ) (xs : List X) (rest : List ℕ) → AreBytes bytes → list_in read least bytes ≡ Some (xs, rest) → IsRead (list_bytes write) (ListFits Fits) xs bytes rest
  list_only bytes xs rest small e =
      let s = steps (u32_in bytes) (λ n. room_in read least n.0 n.1) (xs, rest) e in
      let n = u32_only bytes s.value.0 s.value.1 small s.at_first in
      let below = u32_small bytes s.value.0 s.value.1 small s.at_first in
      let items = items_only s.value.0 s.value.1 xs rest n.rest_small (room_only (nat_le (s.value.0 * least) (length s.value.1)) s.value.0 s.value.1 xs rest s.at_next) in
      record {
        fits = record { each = items.each; few = subst (λ (k : ℕ). k < 2 ^ 32) (sym items.counted) below };
        front_is = join_fronts (subst (λ (k : ℕ). IsFront (u32_bytes k) bytes s.value.1) (sym items.counted) n) items.front_is;
      }

  list_long : (xs : List X) → ListFits Fits xs → 4 ≤ length (list_bytes write xs)
  list_long xs fits = four_long (length xs) (flat_map write xs)

  -- a list of values
  pub list_reads : Reads (list_in read least) (list_bytes write) (ListFits Fits) 4
  list_reads = record { back = list_back; only = list_only; long = list_long }

-- ---- one after the other

module _ {X Y : Type 0} (read : List ℕ → Option (X × List ℕ)) (write : X → List ℕ) (Fits : X → Type 0) (least : ℕ) (h : Reads read write Fits least)
    (next : List ℕ → Option (Y × List ℕ)) (add : Y → List ℕ) (Next : Y → Type 0) (more : ℕ) (g : Reads next add Next more) where
  both_back : (p : X × Y) (rest : List ℕ) → PairFits Fits Next p → pair_in read next (pair_bytes write add p ++ rest) ≡ Some (p, rest)
  both_back p rest fits =
      ap (λ (l : List ℕ). pair_in read next l) (append_assoc (write p.0) (add p.1) rest)
      ∙ bind_at (λ (x : X × List ℕ). next x.1 >>= λ y. Some ((x.0, y.0), y.1)) (h.back p.0 (add p.1 ++ rest) fits.0)
      ∙ bind_at (λ (y : Y × List ℕ). Some ((p.0, y.0), y.1)) (g.back p.1 rest fits.1)

  both_only : (bytes : List ℕ) (p : X × Y) (rest : List ℕ) → AreBytes bytes → pair_in read next bytes ≡ Some (p, rest) → IsRead (pair_bytes write add) (PairFits Fits Next) p bytes rest
  both_only bytes p rest small e =
      let s = steps (read bytes) (λ x. next x.1 >>= λ y. Some ((x.0, y.0), y.1)) (p, rest) e in
      let t = steps (next s.value.1) (λ y. Some ((s.value.0, y.0), y.1)) (p, rest) s.at_next in
      let one = h.only bytes s.value.0 s.value.1 small s.at_first in
      let two = g.only s.value.1 t.value.0 t.value.1 one.front_is.rest_small t.at_first in
      let same = same_found _ _ _ _ t.at_next in
      subst (λ (q : X × Y). IsRead (pair_bytes write add) (PairFits Fits Next) q bytes rest) same.0 (record {
        fits = (one.fits, two.fits);
        front_is = subst (λ (l : List ℕ). IsFront (write s.value.0 ++ add t.value.0) bytes l) same.1 (join_fronts one.front_is two.front_is);
      })

  both_long : (p : X × Y) → PairFits Fits Next p → least ≤ length (pair_bytes write add p)
  both_long p fits = let one = h.long p.0 fits.0 in let joined = length-append (write p.0) (add p.1) in omega arith

  -- two values, one after the other
  pub pair_reads : Reads (pair_in read next) (pair_bytes write add) (PairFits Fits Next) least
  pair_reads = record { back = both_back; only = both_only; long = both_long }

-- ---- values made of others

module _ {X Y : Type 0} (read : List ℕ → Option (X × List ℕ)) (write : X → List ℕ) (Fits : X → Type 0) (least : ℕ) (h : Reads read write Fits least)
    (make : X → Option Y) (parts : Y → X) (apart : (x : X) (y : Y) → Fits x → make x ≡ Some y → parts y ≡ x) where
  made_back : (y : Y) (rest : List ℕ) → MadeFits make parts Fits y → made_in make read (write (parts y) ++ rest) ≡ Some (y, rest)
  made_back y rest fits =
      bind_at (λ (x : X × List ℕ). make x.0 >>= λ y. Some (y, x.1)) (h.back (parts y) rest fits.fits)
      ∙ bind_at (λ (z : Y). Some (z, rest)) fits.is_made

  made_only : (bytes : List ℕ) (y : Y) (rest : List ℕ) → AreBytes bytes → made_in make read bytes ≡ Some (y, rest) → IsRead (λ z. write (parts z)) (MadeFits make parts Fits) y bytes rest
  made_only bytes y rest small e =
      let s = steps (read bytes) (λ x. make x.0 >>= λ y. Some (y, x.1)) (y, rest) e in
      let t = steps (make s.value.0) (λ z. Some (z, s.value.1)) (y, rest) s.at_next in
      let one = h.only bytes s.value.0 s.value.1 small s.at_first in
      let same = same_found _ _ _ _ t.at_next in
      let of : parts t.value ≡ s.value.0 = apart s.value.0 t.value one.fits t.at_first in
      subst (λ (z : Y). IsRead (λ v. write (parts v)) (MadeFits make parts Fits) z bytes rest) same.0 (record {
        fits = record { fits = subst (λ (x : X). Fits x) (sym of) one.fits; is_made = subst (λ (x : X). make x ≡ Some t.value) (sym of) t.at_first };
        front_is = subst (λ (l : List ℕ). IsFront (write (parts t.value)) bytes l) same.1 (subst (λ (x : X). IsFront (write x) bytes s.value.1) (sym of) one.front_is);
      })

  made_long : (y : Y) → MadeFits make parts Fits y → least ≤ length (write (parts y))
  made_long y fits = h.long (parts y) fits.fits

  -- a value made of what was read
  pub made_reads : Reads (made_in make read) (λ y. write (parts y)) (MadeFits make parts Fits) least
  made_reads = record { back = made_back; only = made_only; long = made_long }
