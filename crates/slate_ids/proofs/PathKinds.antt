-- The kinds are read back from their texts.
use Rattle.std.proofs.Common.{◌≡◌, ℕ, ◌^◌, ◌<◌, Bool, true, false, List, Some, None, option_and_then, option_map, refl, sym, ap, ◌∙◌, arith, if◌then◌else◌}
use Rattle.std.proofs.lemmas.Option.{option_and_then_some}
use Rattle.std.specs.Str.{bytes_eq}
use Rattle.slate_ids.specs.UlidText.{ulid_text, ulid_of}
use Rattle.slate_ids.specs.Twenty.{twenty}
use Rattle.slate_ids.specs.PathKind.{strip_front, middle, twenty_of, number_in_folder, table_of, single_of, or_else, kind_of}
use Rattle.slate_ids.specs.PathText.{front_of, suffix_of, in_folder, kind_text}
use Rattle.slate_ids.specs.declared.folder.Folder.{Folder}
use Rattle.slate_ids.specs.declared.folder.Folder.TheVariants.{Manifests, Records, Tables, Wals}
use Rattle.slate_ids.specs.declared.path_kind.PathKind.{PathKind}
use Rattle.slate_ids.specs.declared.path_kind.PathKind.TheVariants.{Manifest, Record, ManifestBoundary, RecordBoundary, Table, Wal, Marker}
use Rattle.slate_ids.proofs.Strips.{same_bytes, middle_off, middle_on, middle_none, or_else_some, option_map_some}
use Rattle.slate_ids.proofs.TwentyDigits.{twenty_read, twenty_shown}
use Rattle.slate_ids.proofs.UlidTexts.{ulid_shown}

number_in_folder_read : (folder : Folder) (n : ℕ) → n < 2 ^ 64 → number_in_folder folder (in_folder folder (twenty n)) ≡ Some n
unfolding number_in_folder
number_in_folder_read folder n l = ap (option_and_then twenty_of) (middle_off (front_of folder) (suffix_of folder) (twenty n)) ∙ twenty_read n l

number_in_folder_shown : (folder : Folder) (text : List ℕ) (n : ℕ) → number_in_folder folder text ≡ Some n → in_folder folder (twenty n) ≡ text
unfolding number_in_folder
number_in_folder_shown folder text n h = option_and_then_some twenty_of (middle (front_of folder) (suffix_of folder) text) n h (λ name e f.
    ap (in_folder folder) (twenty_shown name n f) ∙ middle_on (front_of folder) (suffix_of folder) text name e)

number_in_folder_none : (folder : Folder) (text : List ℕ) → strip_front (front_of folder) text ≡ None → number_in_folder folder text ≡ None
unfolding number_in_folder
number_in_folder_none folder text h = ap (option_and_then twenty_of) (middle_none (front_of folder) (suffix_of folder) text h)

table_read : (id : ℕ × ℕ) → ulid_of (ulid_text id) ≡ Some id → table_of (in_folder Tables (ulid_text id)) ≡ Some id
unfolding table_of
table_read id h = ap (option_and_then ulid_of) (middle_off (front_of Tables) (suffix_of Tables) (ulid_text id)) ∙ h

table_shown : (text : List ℕ) (id : ℕ × ℕ) → table_of text ≡ Some id → in_folder Tables (ulid_text id) ≡ text
unfolding table_of
table_shown text id h = option_and_then_some ulid_of (middle (front_of Tables) (suffix_of Tables) text) id h (λ name e f.
    ap (in_folder Tables) (ulid_shown name id f) ∙ middle_on (front_of Tables) (suffix_of Tables) text name e)

table_none : (text : List ℕ) → strip_front (front_of Tables) text ≡ None → table_of text ≡ None
unfolding table_of
table_none text h = ap (option_and_then ulid_of) (middle_none (front_of Tables) (suffix_of Tables) text h)

single_case : (a b c : Bool) (text : List ℕ) (k : PathKind) → (a ≡ true → text ≡ kind_text ManifestBoundary) → (b ≡ true → text ≡ kind_text RecordBoundary) → (c ≡ true → text ≡ kind_text Marker) → (if a then Some ManifestBoundary else (if b then Some RecordBoundary else (if c then Some Marker else None))) ≡ Some k → kind_text k ≡ text
single_case true b c text k f g h e = let same : ManifestBoundary ≡ k = cc in rw (← same) (sym (f refl))
single_case false true c text k f g h e = let same : RecordBoundary ≡ k = cc in rw (← same) (sym (g refl))
single_case false false true text k f g h e = let same : Marker ≡ k = cc in rw (← same) (sym (h refl))
single_case false false false text k f g h e = absurd cc

single_shown : (text : List ℕ) (k : PathKind) → single_of text ≡ Some k → kind_text k ≡ text
unfolding single_of
single_shown text k h = single_case (bytes_eq text (kind_text ManifestBoundary)) (bytes_eq text (kind_text RecordBoundary)) (bytes_eq text (kind_text Marker)) text k (same_bytes _ _) (same_bytes _ _) (same_bytes _ _) h

-- the parts of a kind are those of a path
abbrev pub KindFits : PathKind → Type 0
KindFits (Manifest n) = n < 2 ^ 64
KindFits (Record n) = n < 2 ^ 64
KindFits ManifestBoundary = Unit {0}
KindFits RecordBoundary = Unit {0}
KindFits (Table id) = ulid_of (ulid_text id) ≡ Some id
KindFits (Wal n) = n < 2 ^ 64
KindFits Marker = Unit {0}

no_manifest : (text : List ℕ) → strip_front (front_of Manifests) text ≡ None → kind_of text ≡ or_else (option_map Record (number_in_folder Records text)) (or_else (option_map Wal (number_in_folder Wals text)) (or_else (option_map Table (table_of text)) (single_of text)))
unfolding kind_of
no_manifest text h = rw (number_in_folder_none Manifests text h)

no_record : (text : List ℕ) → strip_front (front_of Manifests) text ≡ None → strip_front (front_of Records) text ≡ None → kind_of text ≡ or_else (option_map Wal (number_in_folder Wals text)) (or_else (option_map Table (table_of text)) (single_of text))
no_record text h i = no_manifest text h ∙ rw (number_in_folder_none Records text i)

no_wal : (text : List ℕ) → strip_front (front_of Manifests) text ≡ None → strip_front (front_of Records) text ≡ None → strip_front (front_of Wals) text ≡ None → kind_of text ≡ or_else (option_map Table (table_of text)) (single_of text)
no_wal text h i j = no_record text h i ∙ rw (number_in_folder_none Wals text j)

no_table : (text : List ℕ) → strip_front (front_of Manifests) text ≡ None → strip_front (front_of Records) text ≡ None → strip_front (front_of Wals) text ≡ None → strip_front (front_of Tables) text ≡ None → kind_of text ≡ single_of text
no_table text h i j k = no_wal text h i j ∙ rw (table_none text k)

-- a kind is read back from its text
pub kind_read : (k : PathKind) → KindFits k → kind_of (kind_text k) ≡ Some k
unfolding kind_of single_of strip_front
kind_read (Manifest n) h = rw (number_in_folder_read Manifests n h)
kind_read (Record n) h = no_manifest (kind_text (Record n)) refl ∙ rw (number_in_folder_read Records n h)
kind_read ManifestBoundary h = no_table (kind_text ManifestBoundary) refl refl refl refl
kind_read RecordBoundary h = no_table (kind_text RecordBoundary) refl refl refl refl
kind_read (Table id) h = no_wal (kind_text (Table id)) refl refl refl ∙ rw (table_read id h)
kind_read (Wal n) h = no_record (kind_text (Wal n)) refl refl ∙ rw (number_in_folder_read Wals n h)
kind_read Marker h = no_table (kind_text Marker) refl refl refl refl

-- a kind that was read has the text
pub kind_shown : (text : List ℕ) (k : PathKind) → kind_of text ≡ Some k → kind_text k ≡ text
unfolding kind_of
kind_shown text k h =
    or_else_some _ _ k h (λ a. option_map_some Manifest _ k a (λ n e f. rw (← f) (number_in_folder_shown Manifests text n e))) (λ b.
    or_else_some _ _ k b (λ a. option_map_some Record _ k a (λ n e f. rw (← f) (number_in_folder_shown Records text n e))) (λ b.
    or_else_some _ _ k b (λ a. option_map_some Wal _ k a (λ n e f. rw (← f) (number_in_folder_shown Wals text n e))) (λ b.
    or_else_some _ _ k b (λ a. option_map_some Table _ k a (λ id e f. rw (← f) (table_shown text id e))) (λ b.
    single_shown text k b))))
