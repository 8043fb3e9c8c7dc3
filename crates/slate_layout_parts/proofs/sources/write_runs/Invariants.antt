use Rattle.std.proofs.Common.{◌≡◌, ◌++◌, drop, true}
use Rattle.std.specs.List.{flat_map, list_all}
use Rattle.slate_layout_parts.specs.Bytes.{u32_bytes}
use Rattle.slate_layout_parts.specs.Typed.{is_u32}
use Rattle.slate_layout_parts.specs.RecordParts.{runs_in}
use Rattle.slate_layout_parts.proofs.sources.write_runs.Given as goal

-- the bytes so far, and those that are left; all are of their type where those that are left are
abbrev pub invariant-loop-source : goal.invariant-loop-source
invariant-loop-source l = (l.out.items ++ flat_map u32_bytes (runs_in (drop l.source-index l.sources)) ≡ l.fn.out.items ++ flat_map u32_bytes (runs_in l.sources)) × (list_all is_u32 (runs_in (drop l.source-index l.sources)) ≡ true → list_all is_u32 (runs_in l.sources) ≡ true)
