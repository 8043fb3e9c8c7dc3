use Rattle.std.proofs.Common.{◌≡◌, ◌++◌, drop, true}
use Rattle.std.specs.List.{flat_map, list_all}
use Rattle.slate_layout_parts.specs.Texts.{id_bytes}
use Rattle.slate_ids.specs.Ulids.{is_id}
use Rattle.slate_layout_parts.specs.RecordParts.{views_in}
use Rattle.slate_layout_parts.proofs.sources.write_views.Given as goal

-- the bytes so far, and those that are left; all are of their type where those that are left are
abbrev pub invariant-loop-source : goal.invariant-loop-source
invariant-loop-source l = (l.out.items ++ flat_map id_bytes (views_in (drop l.source-index l.sources)) ≡ l.fn.out.items ++ flat_map id_bytes (views_in l.sources)) × (list_all is_id (views_in (drop l.source-index l.sources)) ≡ true → list_all is_id (views_in l.sources) ≡ true)
