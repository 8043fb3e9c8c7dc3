-- Ranges give back what was written, and find only that.
use Rattle.std.specs.Prelude.{◌≡◌, ℕ, ◌≤◌, ◌++◌, ◌==◌, Bool, true, false, List, [], ◌∷◌, length, Some, None, if◌then◌else◌, refl}
use Rattle.std.specs.declared.ops.Bound.{Bound}
use Rattle.std.specs.declared.ops.Bound.TheVariants.{Included, Excluded, Unbounded}
use Rattle.std.proofs.Common.{ap, sym, subst, arith}
use Rattle.std.proofs.lemmas.Bool.Decides.{nat_tests}
use Rattle.slate_ids.specs.Keys.{is_ordered}
use Rattle.slate_ids.specs.KeyRange.{KeyRange}
use Rattle.slate_layout_parts.specs.Bytes.{counted_bytes, pair_bytes}
use Rattle.slate_layout_parts.specs.Reading.{counted_in, pair_in}
use Rattle.slate_layout_parts.specs.Reads.{AreBytes, IsFront, Reads, IsRead, PairFits}
use Rattle.slate_layout_parts.specs.laws.Parts.{AreBytes-rest, steps, bind_at, same_found}
use Rattle.slate_layout_parts.specs.laws.Groups.{pair_reads, made_reads}
use Rattle.slate_layout_parts.specs.laws.Atoms.{counted_reads}
use Rattle.slate_layout_parts.specs.Texts.{IsShort}
use Rattle.slate_layout_parts.specs.RangeParts.{bound_bytes, bounded_in, bound_in, BoundFits, range_of, sides_of, range_bytes, range_in, RangeFits}

bound_back : (b : Bound (List ℕ)) (rest : List ℕ) → BoundFits b → bound_in (bound_bytes b ++ rest) ≡ Some (b, rest)
bound_back Unbounded rest fits = refl
bound_back (Included key) rest fits = bind_at (λ (k : List ℕ × List ℕ). Some (Included k.0, k.1)) (counted_reads.back key rest fits)
bound_back (Excluded key) rest fits = bind_at (λ (k : List ℕ × List ℕ). Some (Excluded k.0, k.1)) (counted_reads.back key rest fits)

-- a key was read, and stands in front with its length
record IsKey (key bytes rest : List ℕ) (b : Bound (List ℕ)) (make : List ℕ → Bound (List ℕ)) : Type 0 where
  short : IsShort key
  is : make key ≡ b
  front_is : IsFront (counted_bytes key) bytes rest

keyed : (make : List ℕ → Bound (List ℕ)) (bytes : List ℕ) (b : Bound (List ℕ)) (rest : List ℕ) → AreBytes bytes → bounded_in make bytes ≡ Some (b, rest) → (key : List ℕ) × IsKey key bytes rest b make
keyed make bytes b rest small e =
    let s = steps (counted_in bytes) (λ key. Some (make key.0, key.1)) (b, rest) e in
    let one = counted_reads.only bytes s.value.0 s.value.1 small s.at_first in
    let same = same_found _ _ _ _ s.at_next in
    (s.value.0, record { short = one.fits; is = same.0; front_is = subst (λ (l : List ℕ). IsFront (counted_bytes s.value.0) bytes l) same.1 one.front_is })

kind_front : (k kind : ℕ) (front bytes rest : List ℕ) → k ≡ kind → IsFront front bytes rest → IsFront (k ∷ front) (kind ∷ bytes) rest
kind_front k kind front bytes rest e h = record { is = cc (h.is, e); rest_small = h.rest_small }

kind_only : (kind : ℕ) (bytes : List ℕ) (b : Bound (List ℕ)) (rest : List ℕ) (t u v : Bool) → AreBytes bytes → kind == 0 ≡ t → kind == 1 ≡ u
    → kind == 2 ≡ v → (if t then Some (Unbounded, bytes) else if u then bounded_in Included bytes else if v then bounded_in Excluded bytes
    else None) ≡ Some (b, rest) → IsRead bound_bytes BoundFits b (kind ∷ bytes) rest
kind_only kind bytes b rest true u v small e f g h =
    let same = same_found _ _ _ _ h in
    let is : 0 ≡ kind = grind (arith, nat_tests) in
    subst (λ (c : Bound (List ℕ)). IsRead bound_bytes BoundFits c (kind ∷ bytes) rest) same.0
    (record {
      fits = tt;
      front_is = kind_front 0 kind [] bytes rest is
          (record { is = sym same.1; rest_small = subst (λ (l : List ℕ). AreBytes l) same.1 small });
    })
kind_only kind bytes b rest false true v small e f g h =
    let k = keyed Included bytes b rest small h in
    let is : 1 ≡ kind = grind (arith, nat_tests) in
    subst (λ (c : Bound (List ℕ)). IsRead bound_bytes BoundFits c (kind ∷ bytes) rest) k.1.is (record { fits = k.1.short; front_is = kind_front 1 kind (counted_bytes k.0) bytes rest is k.1.front_is })
kind_only kind bytes b rest false false true small e f g h =
    let k = keyed Excluded bytes b rest small h in
    let is : 2 ≡ kind = grind (arith, nat_tests) in
    subst (λ (c : Bound (List ℕ)). IsRead bound_bytes BoundFits c (kind ∷ bytes) rest) k.1.is (record { fits = k.1.short; front_is = kind_front 2 kind (counted_bytes k.0) bytes rest is k.1.front_is })
kind_only kind bytes b rest false false false small e f g h = absurd cc

bound_only : (bytes : List ℕ) (b : Bound (List ℕ)) (rest : List ℕ) → AreBytes bytes → bound_in bytes ≡ Some (b, rest) → IsRead bound_bytes BoundFits b bytes rest
bound_only [] b rest small e = absurd cc
bound_only (kind ∷ bytes) b rest small e = kind_only kind bytes b rest (kind == 0) (kind == 1) (kind == 2) (AreBytes-rest kind bytes small) refl refl refl e

bound_long : (b : Bound (List ℕ)) → BoundFits b → 1 ≤ length (bound_bytes b)
bound_long Unbounded fits = omega arith
bound_long (Included key) fits = omega arith
bound_long (Excluded key) fits = omega arith

pub bound_reads : Reads bound_in bound_bytes BoundFits 1
bound_reads = record { back = bound_back; only = bound_only; long = bound_long }

ranged : (b : Bool) (sides : Bound (List ℕ) × Bound (List ℕ)) (r : KeyRange)
    → (if b then Some (let s : KeyRange = record { start = sides.0; end = sides.1 } in s) else None) ≡ Some r → sides_of r ≡ sides
ranged true sides r e = let same : (let s : KeyRange = record { start = sides.0; end = sides.1 } in s) ≡ r = cc in sym (ap sides_of same)
ranged false sides r e = absurd cc

pub range_reads : Reads range_in range_bytes RangeFits 1
range_reads = made_reads (pair_in bound_in bound_in) (pair_bytes bound_bytes bound_bytes) (PairFits BoundFits BoundFits) 1
    (pair_reads bound_in bound_bytes BoundFits 1 bound_reads bound_in bound_bytes BoundFits 1 bound_reads) range_of sides_of
    (λ x y fits e. ranged (is_ordered x.0 x.1) x y e)
