-- The look at the bytes that are left loses no list of version 1.
use Rattle.std.specs.Prelude.{◌≡◌, ℕ, List}
use Rattle.slate_layout_parts.specs.Reading.{u32_in, option_in, list_in, pair_in}
use Rattle.slate_layout_parts.specs.Reads.{AreBytes}
use Rattle.slate_layout_parts.specs.Shortcut.{counted_items_in}
use Rattle.slate_layout_parts.specs.RangeParts.{range_in}
use Rattle.slate_layout_parts.specs.InfoParts.{handle_in}
use Rattle.slate_layout_parts.specs.ViewParts.{run_of}
use Rattle.slate_layout_parts.specs.laws.Groups.{option_reads, pair_reads}
use Rattle.slate_layout_parts.specs.laws.Atoms.{u32_reads}
use Rattle.slate_layout_parts.specs.laws.Ranges.{range_reads}
use Rattle.slate_layout_parts.specs.laws.Infos.{handle_reads}
use Rattle.slate_layout_parts.proofs.LeastLengths.{Takes, reads_take, made_take, pair_take, list_is, list_take}
use Rattle.slate_layout_manifests.specs.OldManifests.{old_view_of, old_view_in, old_views_in, old_run_in}

view_takes : Takes old_view_in 8
view_takes = made_take old_view_of (pair_in handle_in (option_in range_in)) 8 (reads_take _ _ _ 8 (pair_reads _ _ _ 8 handle_reads _ _ _ 1 (option_reads _ _ _ 1 range_reads)))

pub views_whole : (bytes : List ℕ) → AreBytes bytes → old_views_in bytes ≡ counted_items_in old_view_in bytes
views_whole bytes small = list_is old_view_in 8 view_takes bytes small

run_takes : Takes old_run_in 4
run_takes = made_take run_of (pair_in u32_in old_views_in) 4 (pair_take u32_in 4 (reads_take _ _ _ 4 u32_reads) old_views_in 4 (list_take old_view_in 8 view_takes))

pub runs_whole : (bytes : List ℕ) → AreBytes bytes → list_in old_run_in 4 bytes ≡ counted_items_in old_run_in bytes
runs_whole bytes small = list_is old_run_in 4 run_takes bytes small
