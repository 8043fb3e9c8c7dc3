-- The kind that a text is of, by what stands after a database and `/`.
use Rattle.std.specs.Prelude.{ℕ, ◌-◌, ◌^◌, ◌&&◌, ◌==◌, nat_lt, Bool, not, List, length, take, drop, Option, Some, None, option_and_then, option_map, is_some, if◌then◌else◌}
use Rattle.std.specs.Str.{bytes_eq}
use Rattle.slate_ids.specs.Decimals.{number_below}
use Rattle.slate_ids.specs.PathText.{front_of, suffix_of, kind_text}
use Rattle.slate_ids.specs.UlidText.{ulid_of}
use Rattle.slate_ids.specs.declared.folder.Folder.{Folder}
use Rattle.slate_ids.specs.declared.folder.Folder.TheVariants.{Manifests, Records, Tables, Wals}
use Rattle.slate_ids.specs.declared.path_kind.PathKind.{PathKind}
use Rattle.slate_ids.specs.declared.path_kind.PathKind.TheVariants.{Manifest, Record, ManifestBoundary, RecordBoundary, Table, Wal, Marker}

-- a text without its front, where it begins so
unfoldable pub strip_front : List ℕ → List ℕ → Option (List ℕ)
strip_front front text = if bytes_eq (take (length front) text) front then Some (drop (length front) text) else None

-- a text without its end, where it ends so
unfoldable pub strip_end : List ℕ → List ℕ → Option (List ℕ)
strip_end end text = if bytes_eq (drop (length text - length end) text) end then Some (take (length text - length end) text) else None

-- what stands between a front and an end
unfoldable pub middle : List ℕ → List ℕ → List ℕ → Option (List ℕ)
middle front end text = option_and_then (strip_end end) (strip_front front text)

-- the number of twenty digits, below 2^64
unfoldable pub twenty_of : List ℕ → Option ℕ
twenty_of text = if length text == 20 then number_below (2 ^ 64) text else None

-- the number that names an object of a folder
unfoldable pub number_in_folder : Folder → List ℕ → Option ℕ
number_in_folder folder text = option_and_then twenty_of (middle (front_of folder) (suffix_of folder) text)

-- the id that names a table
unfoldable pub table_of : List ℕ → Option (ℕ × ℕ)
table_of text = option_and_then ulid_of (middle (front_of Tables) (suffix_of Tables) text)

-- the kinds of one object each
unfoldable pub single_of : List ℕ → Option PathKind
single_of text = if bytes_eq text (kind_text ManifestBoundary) then Some ManifestBoundary
    else (if bytes_eq text (kind_text RecordBoundary) then Some RecordBoundary else (if bytes_eq text (kind_text Marker) then Some Marker else None))

-- the first of two that is there
abbrev pub or_else : {A : Type 0} → Option A → Option A → Option A
or_else (Some x) o = Some x
or_else None o = o

-- the kind whose form a text has
unfoldable pub kind_of : List ℕ → Option PathKind
kind_of text =
    or_else (option_map Manifest (number_in_folder Manifests text))
    (or_else (option_map Record (number_in_folder Records text))
    (or_else (option_map Wal (number_in_folder Wals text))
    (or_else (option_map Table (table_of text)) (single_of text))))

-- a text that is there and has the form of no kind
unfoldable pub is_rest : List ℕ → Bool
is_rest text = nat_lt 0 (length text) && not (is_some (kind_of text))
