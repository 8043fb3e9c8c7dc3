-- The lines of a report, as bytes.
use Rattle.std.specs.Prelude.{ℕ, ◌+◌, List, [], ◌∷◌, ◌++◌, length, Option, Some, None, codes, decimal}
use Rattle.std.specs.Fmt.{signed_decimal}
use Rattle.uuid.specs.Text.{hyphenated_text, lower}
use Rattle.slate_ids.specs.Codes.{code_of}
use Rattle.slate_ids.specs.PathText.{path_text}
use Rattle.slate_ids.specs.declared.error.SlateDBError.{SlateDBError}
use Rattle.slate_ids.specs.declared.error.SlateDBError.TheVariants as refusal
use Rattle.slate_ids.specs.declared.error.UpdateRule.{UpdateRule}
use Rattle.slate_ids.specs.declared.error.UpdateRule.TheVariants as rule
use Rattle.slate_ids.specs.declared.object_path.ObjectPath.{ObjectPath}
use Rattle.slate_store.specs.declared.list_dir.ListDir.{ListDir}
use Rattle.slate_store.specs.declared.list_dir.ListDir.TheVariants as dir
use Rattle.slate_store.specs.declared.store_call.StoreCall.{StoreCall}
use Rattle.slate_store.specs.declared.store_call.StoreCall.TheVariants as call
use Rattle.slate_store.specs.declared.store_answer.StoreAnswer.{StoreAnswer}
use Rattle.slate_store.specs.declared.store_answer.StoreAnswer.TheVariants as answer
use Rattle.slate_script_events.specs.declared.reply.Reply.{Reply}
use Rattle.slate_script_events.specs.declared.reply.Reply.TheVariants as reply
use Rattle.slate_script_events.specs.declared.script.ScriptPlace.{ScriptPlace}
use Rattle.slate_script_events.specs.declared.script.ScriptPlace.TheVariants as place
use Rattle.slate_script_events.specs.declared.cluster_cause.ClusterCause.{ClusterCause}
use Rattle.slate_script_events.specs.declared.cluster_cause.ClusterCause.TheVariants as cause
use Rattle.slate_script_events.specs.declared.entry.Entry.{Entry}
use Rattle.slate_script_events.specs.declared.entry.Entry.TheVariants.{Opened, Started, Called, Stopped, Idle}

-- a number after a blank
abbrev pub spaced : ℕ → List ℕ
spaced n = 32 ∷ decimal n

-- a folder
abbrev pub dir_text : ListDir → List ℕ
dir_text (dir.Manifests db) = db ++ codes "/manifest/"
dir_text (dir.Records db) = db ++ codes "/compactions/"
dir_text (dir.Tables db) = db ++ codes "/compacted/"
dir_text (dir.Wals db) = db ++ codes "/wal/"
dir_text (dir.All db) = db ++ codes "/"

-- a store call, with the lengths of what it writes
abbrev pub call_text : StoreCall → List ℕ
call_text (call.List d) = codes "list " ++ dir_text d
call_text (call.Get p) = codes "get " ++ path_text p
call_text (call.PutNew p bytes) = codes "put_new " ++ path_text p ++ spaced (length bytes)
call_text (call.Replace p tag bytes) = codes "replace " ++ path_text p ++ spaced tag ++ spaced (length bytes)
call_text (call.Put p bytes) = codes "put " ++ path_text p ++ spaced (length bytes)
call_text (call.Delete p) = codes "delete " ++ path_text p

-- an answer, with the count or the length of what was read
abbrev pub answer_text : StoreAnswer → List ℕ
answer_text (answer.Found objects) = codes "found" ++ spaced (length objects)
answer_text (answer.Got (Some object)) = codes "object" ++ spaced (length object.bytes)
answer_text (answer.Got None) = codes "none"
answer_text (answer.Created (Some tag)) = codes "created" ++ spaced tag
answer_text (answer.Created None) = codes "exists"
answer_text (answer.Replaced (Some tag)) = codes "replaced" ++ spaced tag
answer_text (answer.Replaced None) = codes "changed"
answer_text (answer.Written tag) = codes "put" ++ spaced tag
answer_text answer.Deleted = codes "deleted"
answer_text answer.Fault = codes "fault"

-- the rule that an update breaks
abbrev pub rule_text : UpdateRule → List ℕ
rule_text rule.U1 = codes "U1"
rule_text rule.U2 = codes "U2"
rule_text rule.U3 = codes "U3"
rule_text rule.U5 = codes "U5"
rule_text rule.U8 = codes "U8"
rule_text rule.U9 = codes "U9"

-- the name of a refusal
abbrev pub name_text : SlateDBError → List ℕ
name_text (refusal.TransactionalObjectVersionExists number boundary) = codes "TransactionalObjectVersionExists"
name_text (refusal.Fenced own read) = codes "Fenced"
name_text refusal.LatestTransactionalObjectVersionMissing = codes "LatestTransactionalObjectVersionMissing"
name_text (refusal.ManifestMissing n) = codes "ManifestMissing"
name_text (refusal.CheckpointMissing id) = codes "CheckpointMissing"
name_text (refusal.InvalidClockTick last next) = codes "InvalidClockTick"
name_text (refusal.UpdateRefused rule) = codes "UpdateRefused"
name_text (refusal.InvalidDBState cause) = codes "InvalidDBState"
name_text (refusal.InvalidDeletion n) = codes "InvalidDeletion"
name_text refusal.EmptyManifest = codes "EmptyManifest"
name_text refusal.InvalidCompaction = codes "InvalidCompaction"
name_text (refusal.InvalidVersion format actual) = codes "InvalidVersion"
name_text (refusal.Corrupt format) = codes "Corrupt"
name_text (refusal.Unencodable field) = codes "Unencodable"
name_text (refusal.SegmentWithoutWriter prefix) = codes "SegmentWithoutWriter"
name_text (refusal.InvalidSegmentPrefix prefix conflict) = codes "InvalidSegmentPrefix"
name_text (refusal.SegmentExtractorMismatch persisted configured) = codes "SegmentExtractorMismatch"
name_text (refusal.SegmentPrefixNotRecognized prefix extractor) = codes "SegmentPrefixNotRecognized"
name_text refusal.WalStoreReconfigurationError = codes "WalStoreReconfigurationError"
name_text refusal.StoreFault = codes "StoreFault"
name_text refusal.Contended = codes "Contended"
name_text (refusal.Exhausted n) = codes "Exhausted"
name_text refusal.OutOfMemory = codes "OutOfMemory"

-- what tells a refusal from others of its name
abbrev pub detail_text : SlateDBError → List ℕ
detail_text (refusal.TransactionalObjectVersionExists number boundary) = spaced number
detail_text (refusal.Fenced own read) = spaced own ++ spaced read
detail_text (refusal.ManifestMissing n) = spaced n
detail_text (refusal.CheckpointMissing id) = codes " " ++ hyphenated_text lower id
detail_text (refusal.InvalidClockTick last next) = codes " " ++ signed_decimal last ++ codes " " ++ signed_decimal next
detail_text (refusal.UpdateRefused rule) = codes " " ++ rule_text rule
detail_text (refusal.InvalidDeletion n) = spaced n
detail_text (refusal.Exhausted n) = spaced n
detail_text _ = []

-- the number, the name and the detail of a refusal
abbrev pub refusal_text : SlateDBError → List ℕ
refusal_text e = decimal (code_of e) ++ codes " " ++ name_text e ++ detail_text e

-- a reply
abbrev pub reply_text : Reply → List ℕ
reply_text reply.Done = codes "done"
reply_text (reply.Epoch n) = codes "epoch" ++ spaced n
reply_text (reply.Checkpoint id version) = codes "checkpoint " ++ hyphenated_text lower id ++ spaced version
reply_text (reply.Pass picked deleted failed) = codes "pass" ++ spaced picked ++ spaced deleted ++ spaced failed
reply_text (reply.Refused e) = codes "refused " ++ refusal_text e

-- the reply that ends a call, where one does
abbrev pub reply_part : Option Reply → List ℕ
reply_part None = []
reply_part (Some r) = codes " reply " ++ reply_text r

-- the line of the event at place i
unfoldable pub entry_text : ℕ → Entry → List ℕ
entry_text i (Opened p) = decimal i ++ codes " open" ++ spaced p ++ 10 ∷ []
entry_text i (Started p r) = decimal i ++ codes " start" ++ spaced p ++ reply_part r ++ 10 ∷ []
entry_text i (Called p c moment mark a r) = decimal i ++ codes " call" ++ spaced p ++ codes " " ++ call_text c ++ codes " -> " ++ answer_text a ++ reply_part r ++ 10 ∷ []
entry_text i (Stopped p) = decimal i ++ codes " stop" ++ spaced p ++ 10 ∷ []
entry_text i (Idle p) = decimal i ++ codes " idle" ++ spaced p ++ 10 ∷ []

-- the lines of the events, of which the first is at place i
abbrev pub entries_text : ℕ → List Entry → List ℕ
entries_text i [] = []
entries_text i (e ∷ es) = entry_text i e ++ entries_text (i + 1) es

-- the line of an object that is left
abbrev pub left_line : ObjectPath → List ℕ
left_line p = codes "left " ++ path_text p ++ 10 ∷ []

-- the greatest committed numbers of a database's two logs
abbrev pub commits_line : List ℕ → ℕ → ℕ → List ℕ
commits_line db manifest compactions = codes "commits " ++ db ++ codes " manifest" ++ spaced manifest ++ codes " compactions" ++ spaced compactions ++ 10 ∷ []

-- how many deletes removed an object
abbrev pub deleted_line : ℕ → List ℕ
deleted_line deleted = codes "deleted" ++ spaced deleted ++ 10 ∷ []

-- how a run ended, with the place of its first bad event
abbrev pub end_line : Option ℕ → List ℕ
end_line None = codes "ok" ++ 10 ∷ []
end_line (Some place) = codes "bad event" ++ spaced place ++ 10 ∷ []

-- ---- what is no run

-- where bytes are no script
abbrev pub place_text : ScriptPlace → List ℕ
place_text place.Json = codes "json"
place_text place.Top = codes "top"
place_text (place.Database i) = codes "database" ++ spaced i
place_text (place.Event i) = codes "event" ++ spaced i

-- why databases are no beginning of a run
abbrev pub cause_text : ClusterCause → List ℕ
cause_text cause.Path = codes "path"
cause_text cause.Ids = codes "ids"
cause_text cause.Value = codes "value"
cause_text cause.Segments = codes "segments"
cause_text cause.Epoch = codes "epoch"
cause_text cause.Outputs = codes "outputs"
cause_text cause.Checkpoints = codes "checkpoints"
cause_text cause.Tables = codes "tables"
cause_text cause.Floor = codes "floor"

-- the line of an input that is no script
abbrev pub bad_script_line : ScriptPlace → List ℕ
bad_script_line p = codes "bad script " ++ place_text p ++ 10 ∷ []

-- the line of a script whose databases are refused
abbrev pub bad_cluster_line : ClusterCause → List ℕ
bad_cluster_line c = codes "bad cluster " ++ cause_text c ++ 10 ∷ []
