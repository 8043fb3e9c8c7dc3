use Rattle.std.proofs.Common.{◌≡◌, ◌++◌, drop, string_bytes}
use Rattle.slate_script_lines.specs.Lines.{entries_text}
use Rattle.slate_script_lines.proofs.report_lines.push_entries.Given as goal

abbrev pub invariant-loop-i : goal.invariant-loop-i
invariant-loop-i l = string_bytes l.out ++ entries_text l.i (drop l.i l.entries) ≡ string_bytes l.fn.out ++ entries_text 0 l.entries
