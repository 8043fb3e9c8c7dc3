-- Whether a database may be opened with what its caller configured.
use Rattle.std.specs.Prelude.{ℕ, ◌==◌, Bool, true, false, not, List, length, Option, Some, None, bytes_eq, if◌then◌else◌}
use Rattle.std.specs.List.{find}
use Rattle.slate_ids.specs.declared.error.SlateDBError.{SlateDBError}
use Rattle.slate_ids.specs.declared.error.SlateDBError.TheVariants.{SegmentExtractorMismatch, SegmentPrefixNotRecognized}
use Rattle.slate_model.specs.Segments.{Prefixed}
use Rattle.slate_model.specs.Cores.{Core}

-- an extractor of prefixes: its name, and the length that it finds of the prefix of a key
pub record Extractor : Type 0 where
  pub name : List ℕ
  pub prefix_len : List ℕ → Option ℕ

-- whether a length was found, and is this one
abbrev pub is_length : Option ℕ → ℕ → Bool
is_length (Some n) m = n == m
is_length None m = false

-- whether an extractor finds all of a segment's prefix in it
abbrev pub recognizes : Extractor → Prefixed → Bool
recognizes e s = is_length (e.prefix_len s.prefix) (length s.prefix)

-- the refusal of the first segment whose prefix the extractor doesn't find
abbrev pub not_recognized : List ℕ → Option Prefixed → Option SlateDBError
not_recognized name None = None
not_recognized name (Some s) = Some (SegmentPrefixNotRecognized s.prefix name)

-- the refusal of an extractor of the persisted name
abbrev pub prefix_refusal : Extractor → List Prefixed → Option SlateDBError
prefix_refusal e segments = not_recognized e.name (find (λ s. not (recognizes e s)) segments)

-- the refusal of a configured extractor, or of none: its name is the persisted one, and it finds each segment's prefix
abbrev pub extractor_refusal : Option (List ℕ) → Option Extractor → List Prefixed → Option SlateDBError
extractor_refusal None None segments = None
extractor_refusal (Some persisted) None segments = Some (SegmentExtractorMismatch (Some persisted) None)
extractor_refusal None (Some e) segments = Some (SegmentExtractorMismatch None (Some e.name))
extractor_refusal (Some persisted) (Some e) segments = if bytes_eq persisted e.name then prefix_refusal e segments else Some (SegmentExtractorMismatch (Some persisted) (Some e.name))

-- the refusal of a configured extractor, or of none, by what a manifest says
abbrev pub refusal_by : Option Extractor → Core → Option SlateDBError
refusal_by configured core = extractor_refusal core.segment_extractor_name configured core.segments

-- whether the store of the write-ahead log is the persisted one, or none is persisted
abbrev pub same_wal_store : Option (List ℕ) → Option (List ℕ) → Bool
same_wal_store None configured = true
same_wal_store (Some persisted) None = false
same_wal_store (Some persisted) (Some configured) = bytes_eq persisted configured
