use Rattle.std.proofs.Common.{◌≡◌, ◌++◌, drop, string_bytes}
use Rattle.std.specs.List.{flat_map}
use Rattle.slate_script_lines.specs.Lines.{left_line}
use Rattle.slate_script_lines.proofs.report_lines.push_left.Given as goal

abbrev pub invariant-loop-path : goal.invariant-loop-path
invariant-loop-path l = string_bytes l.out ++ flat_map left_line (drop l.path-index l.paths) ≡ string_bytes l.fn.out ++ flat_map left_line l.paths
