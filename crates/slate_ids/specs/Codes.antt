-- The numbers of the refusals.
use Rattle.std.specs.Prelude.{ℕ}
use Rattle.slate_ids.specs.declared.error.SlateDBError.{SlateDBError}
use Rattle.slate_ids.specs.declared.error.SlateDBError.TheVariants.{TransactionalObjectVersionExists, Fenced, LatestTransactionalObjectVersionMissing, ManifestMissing, CheckpointMissing, InvalidClockTick, UpdateRefused, InvalidDBState, InvalidDeletion, EmptyManifest, InvalidCompaction, InvalidVersion, Corrupt, Unencodable, SegmentWithoutWriter, InvalidSegmentPrefix, SegmentExtractorMismatch, SegmentPrefixNotRecognized, WalStoreReconfigurationError, StoreFault, Contended, Exhausted, OutOfMemory}

-- the number of a refusal
abbrev pub code_of : SlateDBError → ℕ
code_of (TransactionalObjectVersionExists number boundary) = 1
code_of (Fenced own read) = 2
code_of LatestTransactionalObjectVersionMissing = 3
code_of (ManifestMissing n) = 4
code_of (CheckpointMissing id) = 5
code_of (InvalidClockTick last next) = 6
code_of (UpdateRefused rule) = 7
code_of (InvalidDBState cause) = 8
code_of (InvalidDeletion n) = 9
code_of EmptyManifest = 10
code_of InvalidCompaction = 11
code_of (InvalidVersion format actual) = 12
code_of (Corrupt format) = 13
code_of (Unencodable field) = 14
code_of (SegmentWithoutWriter prefix) = 15
code_of (InvalidSegmentPrefix prefix conflict) = 16
code_of (SegmentExtractorMismatch persisted configured) = 17
code_of (SegmentPrefixNotRecognized prefix extractor) = 18
code_of WalStoreReconfigurationError = 19
code_of StoreFault = 20
code_of Contended = 21
code_of (Exhausted n) = 22
code_of OutOfMemory = 23
