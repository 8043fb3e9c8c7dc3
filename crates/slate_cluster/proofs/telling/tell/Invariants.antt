use Rattle.std.proofs.Common.{List, string_bytes}
use Rattle.slate_script_events.specs.declared.db_spec.DbSpec.{DbSpec}
use Rattle.slate_cluster.proofs.ToldLines.{Telling}
use Rattle.slate_cluster.proofs.telling.tell.Given as goal

-- the events so far were done, and each has its line
abbrev pub invariant-loop-i : goal.invariant-loop-i
invariant-loop-i l = (specs : List DbSpec) → Telling l.events l.i specs l.fn.state l.state (string_bytes l.fn.text) (string_bytes l.text)
