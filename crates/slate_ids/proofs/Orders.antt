-- How texts order that begin with parts of one length, and numbers of one width.
use Rattle.std.proofs.Common.{◌≡◌, ℕ, zero, suc, ◌+◌, ◌<◌, ◌^◌, ◌/◌, ◌%◌, List, [], ◌∷◌, ◌++◌, length, get_or, refl, sym, ap, ◌∙◌, arith}
use Rattle.std.proofs.lemmas.Bool.Decides.{nat_tests}
use Rattle.std.proofs.lemmas.Cmp.{ranked}
use Rattle.std.specs.Ordering.{MatchOrdering, nat_cmp, ordering_then}
use Rattle.std.specs.Cmp.Lexicographic.{slice_cmp}
use Rattle.std.specs.declared.cmp.Ordering.{Ordering}
use Rattle.std.specs.declared.cmp.Ordering.TheVariants.{Less, Equal, Greater}
use Rattle.slate_ids.specs.Numerals.{numeral}
use Rattle.slate_ids.specs.PathText.{front_of, suffix_of, kind_text, db_of, path_text, path_cmp}
use Rattle.slate_ids.specs.Twenty.{twenty}
use Rattle.slate_ids.specs.declared.folder.Folder.TheVariants.{Manifests, Records, Wals}
use Rattle.slate_ids.specs.declared.path_kind.PathKind.TheVariants as kind
use Rattle.slate_ids.specs.declared.object_path.ObjectPath.{ObjectPath}
use Rattle.slate_ids.specs.declared.object_path.ObjectPath.TheVariants.{Manifest, Record, ManifestBoundary, RecordBoundary, Table, Wal, Marker, Other}
use Rattle.slate_ids.proofs.Digits.{tens, twenty-numeral, digit}
use Rattle.slate_ids.proofs.Numerals.{length-numeral}

less : (x y : ℕ) → x < y → nat_cmp x y ≡ Less
less x y h = grind (arith, nat_tests)

more : (x y : ℕ) → y < x → nat_cmp x y ≡ Greater
more x y h = grind (arith, nat_tests)

equal : (x y : ℕ) → x ≡ y → nat_cmp x y ≡ Equal
equal x y h = grind (arith, nat_tests)

then_assoc : (a b c : Ordering) → ordering_then a (ordering_then b c) ≡ ordering_then (ordering_then a b) c
then_assoc Less b c = refl
then_assoc Equal b c = refl
then_assoc Greater b c = refl

then_equal : (a : Ordering) → ordering_then a Equal ≡ a
then_equal Less = refl
then_equal Equal = refl
then_equal Greater = refl

-- parts of one length decide, and else what follows them
pub by_parts : (a b xs ys : List ℕ) → length a ≡ length b → slice_cmp nat_cmp (a ++ xs) (b ++ ys) ≡ ordering_then (slice_cmp nat_cmp a b) (slice_cmp nat_cmp xs ys)
by_parts [] [] xs ys h = refl
by_parts [] (y ∷ b) xs ys h = absurd (omega (arith, h))
by_parts (x ∷ a) [] xs ys h = absurd (omega (arith, h))
by_parts (x ∷ a) (y ∷ b) xs ys h =
    let shorter : length a ≡ length b = omega (arith, h) in
    ap (ordering_then (nat_cmp x y)) (by_parts a b xs ys shorter) ∙ then_assoc (nat_cmp x y) (slice_cmp nat_cmp a b) (slice_cmp nat_cmp xs ys)

-- numbers order by all digits but the last, and then by the last
last_digits : (n m : ℕ) → ordering_then (nat_cmp (n / 10) (m / 10)) (nat_cmp (48 + n % 10) (48 + m % 10)) ≡ nat_cmp n m
last_digits n m = by (nat_cmp (n / 10) (m / 10)) (ranked (n / 10) (m / 10) (nat_cmp (n / 10) (m / 10)) refl)
  where
    last : (o : Ordering) → n / 10 ≡ m / 10 → nat_cmp (n % 10) (m % 10) ≡ o → MatchOrdering o (n % 10 < m % 10) (n % 10 ≡ m % 10) (m % 10 < n % 10) → nat_cmp (48 + n % 10) (48 + m % 10) ≡ nat_cmp n m
    last Less q e h = less (48 + n % 10) (48 + m % 10) (omega (arith, h)) ∙ sym (less n m (omega (arith, q, h)))
    last Equal q e h = equal (48 + n % 10) (48 + m % 10) (omega (arith, h)) ∙ sym (equal n m (omega (arith, q, h)))
    last Greater q e h = more (48 + n % 10) (48 + m % 10) (omega (arith, h)) ∙ sym (more n m (omega (arith, q, h)))

    by : (o : Ordering) → MatchOrdering o (n / 10 < m / 10) (n / 10 ≡ m / 10) (m / 10 < n / 10) → ordering_then o (nat_cmp (48 + n % 10) (48 + m % 10)) ≡ nat_cmp n m
    by Less h = sym (less n m (omega (arith, h)))
    by Equal h = last (nat_cmp (n % 10) (m % 10)) h refl (ranked (n % 10) (m % 10) (nat_cmp (n % 10) (m % 10)) refl)
    by Greater h = sym (more n m (omega (arith, h)))

-- numerals of one width order as their numbers
numerals_order : (k n m : ℕ) → n < 10 ^ k → m < 10 ^ k → slice_cmp nat_cmp (numeral tens k n) (numeral tens k m) ≡ nat_cmp n m
unfolding numeral
numerals_order zero n m h l = sym (equal n m (omega (arith, h, l)))
numerals_order (suc k) n m h l =
    let same : length (numeral tens k (n / 10)) ≡ length (numeral tens k (m / 10)) = length-numeral tens k (n / 10) ∙ sym (length-numeral tens k (m / 10)) in
    let fewer : n / 10 < 10 ^ k = omega (arith, h) in
    let fewer_too : m / 10 < 10 ^ k = omega (arith, l) in
    let one : n % 10 < 10 = omega arith in
    let one_too : m % 10 < 10 = omega arith in
    by_parts (numeral tens k (n / 10)) (numeral tens k (m / 10)) (get_or tens (n % 10) 0 ∷ []) (get_or tens (m % 10) 0 ∷ []) same
    ∙ rw (numerals_order k (n / 10) (m / 10) fewer fewer_too, digit (n % 10) one, digit (m % 10) one_too) (ap (ordering_then (nat_cmp (n / 10) (m / 10))) (then_equal (nat_cmp (48 + n % 10) (48 + m % 10))) ∙ last_digits n m)

-- numbers order as their twenty digits
pub twenty_order : (n m : ℕ) → n < 2 ^ 64 → m < 2 ^ 64 → slice_cmp nat_cmp (twenty n) (twenty m) ≡ nat_cmp n m
twenty_order n m h l =
    let small : n < 10 ^ 20 = omega (arith, h) in
    let small_too : m < 10 ^ 20 = omega (arith, l) in
    ap (λ (a : List ℕ). slice_cmp nat_cmp a (twenty m)) (twenty-numeral n h) ∙ ap (λ (b : List ℕ). slice_cmp nat_cmp (numeral tens 20 n) b) (twenty-numeral m l) ∙ numerals_order 20 n m small small_too

itself : (a : List ℕ) → slice_cmp nat_cmp a a ≡ Equal
itself [] = refl
itself (x ∷ a) = ap (λ o. ordering_then o (slice_cmp nat_cmp a a)) (equal x x refl) ∙ itself a

-- what follows the database in the text of a path
abbrev tail : ObjectPath → List ℕ
tail (Manifest db n) = 47 ∷ kind_text (kind.Manifest n)
tail (Record db n) = 47 ∷ kind_text (kind.Record n)
tail (ManifestBoundary db) = 47 ∷ kind_text kind.ManifestBoundary
tail (RecordBoundary db) = 47 ∷ kind_text kind.RecordBoundary
tail (Table db id) = 47 ∷ kind_text (kind.Table id)
tail (Wal db n) = 47 ∷ kind_text (kind.Wal n)
tail (Marker db) = 47 ∷ kind_text kind.Marker
tail (Other db rest) = 47 ∷ rest

behind_db : (p : ObjectPath) → path_text p ≡ db_of p ++ tail p
behind_db (Manifest db n) = refl
behind_db (Record db n) = refl
behind_db (ManifestBoundary db) = refl
behind_db (RecordBoundary db) = refl
behind_db (Table db id) = refl
behind_db (Wal db n) = refl
behind_db (Marker db) = refl
behind_db (Other db rest) = refl

-- databases whose names are as long decide, and else what follows them
pub paths_by_db : (p q : ObjectPath) → length (db_of p) ≡ length (db_of q) → path_cmp p q ≡ ordering_then (slice_cmp nat_cmp (db_of p) (db_of q)) (slice_cmp nat_cmp (tail p) (tail q))
paths_by_db p q h = ap (λ (a : List ℕ). slice_cmp nat_cmp a (path_text q)) (behind_db p) ∙ ap (λ (b : List ℕ). slice_cmp nat_cmp (db_of p ++ tail p) b) (behind_db q) ∙ by_parts (db_of p) (db_of q) (tail p) (tail q) h

-- numbers decide between what stands alike before and after them
numbers_between : (front end : List ℕ) (n m : ℕ) → n < 2 ^ 64 → m < 2 ^ 64 → slice_cmp nat_cmp (front ++ (twenty n ++ end)) (front ++ (twenty m ++ end)) ≡ nat_cmp n m
numbers_between front end n m h l =
    let same : length (twenty n) ≡ length (twenty m) = ap length (twenty-numeral n h) ∙ length-numeral tens 20 n ∙ sym (ap length (twenty-numeral m l) ∙ length-numeral tens 20 m) in
    by_parts front front (twenty n ++ end) (twenty m ++ end) refl
    ∙ ap (λ o. ordering_then o (slice_cmp nat_cmp (twenty n ++ end) (twenty m ++ end))) (itself front)
    ∙ by_parts (twenty n) (twenty m) end end same
    ∙ ap (ordering_then (slice_cmp nat_cmp (twenty n) (twenty m))) (itself end)
    ∙ then_equal (slice_cmp nat_cmp (twenty n) (twenty m))
    ∙ twenty_order n m h l

-- versions of one log order by their numbers
pub manifests_order : (a b : List ℕ) (n m : ℕ) → length a ≡ length b → slice_cmp nat_cmp a b ≡ Equal → n < 2 ^ 64 → m < 2 ^ 64 → path_cmp (Manifest a n) (Manifest b m) ≡ nat_cmp n m
manifests_order a b n m s e h l = paths_by_db (Manifest a n) (Manifest b m) s ∙ ap (λ o. ordering_then o (slice_cmp nat_cmp (tail (Manifest a n)) (tail (Manifest b m)))) e ∙ numbers_between (47 ∷ front_of Manifests) (suffix_of Manifests) n m h l

pub records_order : (a b : List ℕ) (n m : ℕ) → length a ≡ length b → slice_cmp nat_cmp a b ≡ Equal → n < 2 ^ 64 → m < 2 ^ 64 → path_cmp (Record a n) (Record b m) ≡ nat_cmp n m
records_order a b n m s e h l = paths_by_db (Record a n) (Record b m) s ∙ ap (λ o. ordering_then o (slice_cmp nat_cmp (tail (Record a n)) (tail (Record b m)))) e ∙ numbers_between (47 ∷ front_of Records) (suffix_of Records) n m h l

-- the same of paths that are records
pub are_records_order : (p q : ObjectPath) (a b : List ℕ) (n m : ℕ) → p ≡ Record a n → q ≡ Record b m → length (db_of p) ≡ length (db_of q) → slice_cmp nat_cmp (db_of p) (db_of q) ≡ Equal → n < 2 ^ 64 → m < 2 ^ 64 → path_cmp p q ≡ nat_cmp n m
are_records_order p q a b n m is is_too s e h l =
    let long : length a ≡ length b = sym (ap (λ (r : ObjectPath). length (db_of r)) is) ∙ s ∙ ap (λ (r : ObjectPath). length (db_of r)) is_too in
    let same : slice_cmp nat_cmp a b ≡ Equal = sym (ap (λ (r : ObjectPath). slice_cmp nat_cmp (db_of r) (db_of q)) is ∙ ap (λ (r : ObjectPath). slice_cmp nat_cmp a (db_of r)) is_too) ∙ e in
    rw (is, is_too) (records_order a b n m long same h l)

pub wals_order : (a b : List ℕ) (n m : ℕ) → length a ≡ length b → slice_cmp nat_cmp a b ≡ Equal → n < 2 ^ 64 → m < 2 ^ 64 → path_cmp (Wal a n) (Wal b m) ≡ nat_cmp n m
wals_order a b n m s e h l = paths_by_db (Wal a n) (Wal b m) s ∙ ap (λ o. ordering_then o (slice_cmp nat_cmp (tail (Wal a n)) (tail (Wal b m)))) e ∙ numbers_between (47 ∷ front_of Wals) (suffix_of Wals) n m h l
