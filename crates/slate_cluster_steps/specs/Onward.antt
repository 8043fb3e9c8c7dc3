-- How a call goes on, as the code has it.
use Rattle.std.specs.Prelude.{◌≡◌, Bool, true, false, Result, Ok, Err}
use Rattle.slate_state_compactor.specs.declared.local_state.LocalState.{LocalState}
use Rattle.slate_script_events.specs.declared.call.Call.{Call}
use Rattle.slate_script_events.specs.declared.call.Call.TheVariants.{Upload, Finish as FinishCall, Fail}
use Rattle.slate_script_events.specs.declared.reply.Reply.{Reply}
use Rattle.slate_script_events.specs.declared.reply.Reply.TheVariants as reply
use Rattle.slate_state_calls.specs.Compactors.{with_local}
use Rattle.slate_state_calls.specs.declared.compactor.Compactor.{Compactor}
use Rattle.slate_ids.specs.Answers.{is_memory}
use Rattle.slate_ids.specs.declared.error.SlateDBError.{SlateDBError}
use Rattle.slate_cluster_protocol.specs.Calls.{Next}
use Rattle.slate_cluster_protocol.specs.Calls as calls
use Rattle.slate_cluster_steps.specs.declared.begins.Onward.{Onward}
use Rattle.slate_cluster_steps.specs.declared.begins.Onward.TheVariants.{Go, Finish}

-- the same in the protocol's words
abbrev pub next_of : Onward → Next
next_of (Go work) = calls.Go work
next_of (Finish reply) = calls.Finish reply

-- whether a call is neither an upload nor the end of a compaction
abbrev pub is_other_call : Call → Bool
is_other_call (Upload table first last) = false
is_other_call (FinishCall id) = false
is_other_call (Fail id) = false
is_other_call _ = true

-- whether a call is the end of a compaction
abbrev pub is_end : Call → Bool
is_end (FinishCall id) = true
is_end (Fail id) = true
is_end _ = false

-- the reply of an end, by its answer; memory didn't run out
abbrev pub Replies : Result (Unit {0}) SlateDBError → Reply → Type 0
Replies (Ok x) r = r ≡ reply.Done
Replies (Err e) r = (r ≡ reply.Refused e) × (is_memory e ≡ false)

-- a compaction ends in what a compactor holds, by what its end makes of the local state: with a refusal all is as it was
abbrev pub Ends : Result LocalState SlateDBError → Compactor → Compactor → Reply → Type 0
Ends (Ok local) old new r = (r ≡ reply.Done) × (new ≡ with_local local old)
Ends (Err e) old new r = (r ≡ reply.Refused e) × (new ≡ old)
