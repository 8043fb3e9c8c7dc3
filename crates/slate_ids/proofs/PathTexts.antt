-- Paths are read back from their texts.
use Rattle.std.proofs.Common.{◌≡◌, ℕ, suc, ◌+◌, ◌<◌, ◌==◌, ◌&&◌, nat_lt, nat_le, not, Result, Ok, Err, IfOk, IfSome, Bool, true, false, List, [], ◌∷◌, ◌++◌, length, get_or, Option, Some, None, is_some, refl, sym, ap, subst, ◌∙◌, arith, if◌then◌else◌}
use Rattle.std.proofs.lemmas.List.{drop_all}
use Rattle.std.proofs.lemmas.List.Sums.{split_at_first, passes_at_first}
use Rattle.std.proofs.Math.Seq.{take-append_seam, drop-append-add}
use Rattle.std.proofs.lemmas.List.{length-drop}
use Rattle.std.proofs.lemmas.Bool.{eqb-true}
use Rattle.std.proofs.lemmas.Bool.Decides.{nat_tests}
use Rattle.std.specs.List.{before_first, after_first, position_or_len, list_all}
use Rattle.slate_ids.specs.Ids.{is_db_path, is_path_char}
use Rattle.slate_ids.specs.PathKind.{kind_of, is_rest}
use Rattle.slate_ids.specs.PathText.{kind_text, path_text}
use Rattle.slate_ids.specs.PathOf.{path_with, path_or, parts_path, path_of}
use Rattle.slate_ids.specs.declared.path_kind.PathKind.{PathKind}
use Rattle.slate_ids.specs.declared.path_kind.PathKind.TheVariants.{Manifest, Record, ManifestBoundary, RecordBoundary, Table, Wal, Marker}
use Rattle.slate_ids.specs.declared.object_path.ObjectPath.{ObjectPath}
use Rattle.slate_ids.specs.declared.object_path.ObjectPath.TheVariants.{Other}
use Rattle.slate_ids.proofs.PathKinds.{KindFits, kind_read, kind_shown}
use Rattle.slate_ids.proofs.UlidTexts.{if_some}

-- the text of a path with a kind
kind_behind : (db : List ℕ) (k : PathKind) → path_text (path_with db k) ≡ db ++ 47 ∷ kind_text k
kind_behind db (Manifest n) = refl
kind_behind db (Record n) = refl
kind_behind db ManifestBoundary = refl
kind_behind db RecordBoundary = refl
kind_behind db (Table id) = refl
kind_behind db (Wal n) = refl
kind_behind db Marker = refl

other_char : (c : ℕ) (b : Bool) → is_path_char c && b ≡ true → (c == 47) ≡ false
other_char c b h = grind (arith, nat_tests)

more_chars : (c : ℕ) (b : Bool) → is_path_char c && b ≡ true → b ≡ true
more_chars c b h = grind (arith, nat_tests)

-- a database's name has no slash
slash_place : (db rest : List ℕ) → list_all is_path_char db ≡ true → position_or_len (λ c. c == 47) (db ++ 47 ∷ rest) ≡ length db
slash_place [] rest h = refl
slash_place (c ∷ db) rest h =
    let next = slash_place db rest (more_chars c (list_all is_path_char db) h) in
    let size : 1 + length db ≡ suc (length db) = omega arith in
    rw (other_char c (list_all is_path_char db) h, next, size)

chars_of : (a b : Bool) → a && b ≡ true → b ≡ true
chars_of a b h = grind (arith, nat_tests)

name_chars : (db : List ℕ) → is_db_path db ≡ true → list_all is_path_char db ≡ true
name_chars db h = chars_of (nat_lt 0 (length db) && nat_le (length db) 64) (list_all is_path_char db) (grind (arith, nat_tests))

before : (db rest : List ℕ) → is_db_path db ≡ true → before_first (λ c. c == 47) (db ++ 47 ∷ rest) ≡ db
before db rest h = rw (slash_place db rest (name_chars db h)) (take-append_seam db (47 ∷ rest))

after : (db rest : List ℕ) → is_db_path db ≡ true → after_first (λ c. c == 47) (db ++ 47 ∷ rest) ≡ rest
after db rest h = rw (slash_place db rest (name_chars db h)) (drop-append-add db (47 ∷ rest) 1)

parts_read : (db rest : List ℕ) (o : Option PathKind) → is_db_path db ≡ true → 0 < length rest → kind_of rest ≡ o → parts_path db rest ≡ Some (path_or db rest o)
unfolding parts_path
parts_read db rest o h l e = let t : nat_lt 0 (length rest) ≡ true = grind (arith, nat_tests) in rw (h, t, e)

-- the path of a database, a slash and something
path_read : (db rest : List ℕ) (o : Option PathKind) → is_db_path db ≡ true → 0 < length rest → kind_of rest ≡ o → path_of (db ++ 47 ∷ rest) ≡ Some (path_or db rest o)
unfolding path_of
path_read db rest o h l e = ap (λ (d : List ℕ). parts_path d (after_first (λ c. c == 47) (db ++ 47 ∷ rest))) (before db rest h) ∙ ap (parts_path db) (after db rest h) ∙ parts_read db rest o h l e

text_there : (k : PathKind) → 0 < length (kind_text k)
text_there (Manifest n) = omega arith
text_there (Record n) = omega arith
text_there ManifestBoundary = omega arith
text_there RecordBoundary = omega arith
text_there (Table id) = omega arith
text_there (Wal n) = omega arith
text_there Marker = omega arith

-- a path of a kind with a name is read back from its text
pub named_read : (db : List ℕ) (k : PathKind) → is_db_path db ≡ true → KindFits k → path_of (path_text (path_with db k)) ≡ Some (path_with db k)
named_read db k h f = ap path_of (kind_behind db k) ∙ path_read db (kind_text k) (Some k) h (text_there k) (kind_read k f)

no_kind : (b : Bool) (o : Option PathKind) → b && not (is_some o) ≡ true → o ≡ None
no_kind true (Some k) h = absurd cc
no_kind true None h = refl
no_kind false o h = absurd cc

is_there : (b : Bool) (rest : List ℕ) → nat_lt 0 (length rest) && b ≡ true → 0 < length rest
is_there b rest h = grind (arith, nat_tests)

-- any other path is read back from its text
pub other_read : (db rest : List ℕ) → is_db_path db ≡ true → is_rest rest ≡ true → path_of (path_text (Other db rest)) ≡ Some (Other db rest)
unfolding is_rest
other_read db rest h r = path_read db rest None h (is_there (not (is_some (kind_of rest))) rest r) (no_kind (nat_lt 0 (length rest)) (kind_of rest) r)

or_shown : (db rest : List ℕ) (o : Option PathKind) → kind_of rest ≡ o → path_text (path_or db rest o) ≡ db ++ 47 ∷ rest
or_shown db rest (Some k) e = kind_behind db k ∙ ap (λ (r : List ℕ). db ++ 47 ∷ r) (kind_shown rest k e)
or_shown db rest None e = refl

parts_shown : (db rest : List ℕ) (p : ObjectPath) → parts_path db rest ≡ Some p → (0 < length rest) × (path_text p ≡ db ++ 47 ∷ rest)
unfolding parts_path
parts_shown db rest p h =
    let i = if_some (is_db_path db && nat_lt 0 (length rest)) (Some (path_or db rest (kind_of rest))) p h in
    let same : path_or db rest (kind_of rest) ≡ p = cc (i.1) in
    let there : 0 < length rest = let t = i.0 in grind (arith, nat_tests) in
    (there, rw (← same) (or_shown db rest (kind_of rest) refl))

slash_split : (text : List ℕ) → 0 < length (after_first (λ c. c == 47) text) → before_first (λ c. c == 47) text ++ 47 ∷ after_first (λ c. c == 47) text ≡ text
slash_split text h =
    let at = position_or_len (λ c. c == 47) text in
    let less : at < length text = omega (arith, length-drop (at + 1) text) in
    let here : get_or text at 0 ≡ 47 = eqb-true _ _ (passes_at_first (λ c. c == 47) text 0 less) in
    ap (λ (c : ℕ). before_first (λ c. c == 47) text ++ c ∷ after_first (λ c. c == 47) text) (sym here) ∙ sym (split_at_first (λ c. c == 47) text 0 less)

-- a path that was read has the text
pub path_shown : (text : List ℕ) (p : ObjectPath) → path_of text ≡ Some p → path_text p ≡ text
unfolding path_of
path_shown text p h =
    let s = parts_shown _ _ p h in
    s.1 ∙ slash_split text s.0

nothing_follows : (b : Bool) (o : Option ObjectPath) → (if b && false then o else None) ≡ None
nothing_follows true o = refl
nothing_follows false o = refl

-- a text without a slash is no path
pub no_slash : (text : List ℕ) → position_or_len (λ c. c == 47) text ≡ length text → path_of text ≡ None
unfolding path_of parts_path
no_slash text h =
    let none : after_first (λ c. c == 47) text ≡ [] = drop_all (position_or_len (λ c. c == 47) text + 1) text (omega arith) in
    ap (parts_path (before_first (λ c. c == 47) text)) none ∙ nothing_follows (is_db_path (before_first (λ c. c == 47) text)) (Some (path_or (before_first (λ c. c == 47) text) [] (kind_of [])))

-- the parts of a text at its first slash
pub parts_same : (text db rest : List ℕ) → db ≡ before_first (λ c. c == 47) text → rest ≡ after_first (λ c. c == 47) text → parts_path db rest ≡ path_of text
unfolding path_of
parts_same text db rest e f = ap (λ (d : List ℕ). parts_path d rest) e ∙ ap (parts_path (before_first (λ c. c == 47) text)) f

pub read_same : {E : Type 0} (r : Result (Option ObjectPath) E) (a b : Option ObjectPath) → a ≡ b → IfOk r (λ p. p ≡ a) → IfOk r (λ p. p ≡ b)
read_same r a b e h = subst (λ (v : Option ObjectPath). IfOk r (λ p. p ≡ v)) e h

pub read_shown : {E : Type 0} (r : Result (Option ObjectPath) E) (text : List ℕ) → IfOk r (λ p. p ≡ path_of text) → IfOk r (λ p. IfSome p (λ q. path_text q ≡ text))
read_shown (Ok (Some q)) text h = path_shown text q (sym h)
read_shown (Ok None) text h = tt
read_shown (Err e) text h = tt
