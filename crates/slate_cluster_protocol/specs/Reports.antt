-- The report of a run, as bytes.
use Rattle.std.specs.Prelude.{ℕ, List, ◌++◌, map}
use Rattle.std.specs.List.{flat_map}
use Rattle.slate_ids.specs.declared.object_path.ObjectPath.{ObjectPath}
use Rattle.slate_store.specs.declared.object.StoredObject.{StoredObject}
use Rattle.slate_script_lines.specs.Lines.{entries_text, commits_line, deleted_line, left_line, end_line}
use Rattle.slate_cluster_protocol.specs.World.{World}
use Rattle.slate_cluster_protocol.specs.Runs.{Ran}
use Rattle.slate_cluster_protocol.specs.declared.tally.Tally.{Tally}

-- the greatest committed numbers of a database
abbrev pub tally_line : List ℕ × Tally → List ℕ
tally_line t = commits_line t.0 t.1.manifest t.1.compactions

-- the path of an object
abbrev pub path_at : ObjectPath × StoredObject → ObjectPath
path_at o = o.0

-- what stands at the end: committed numbers, deletes, objects
abbrev pub state_text : World → List ℕ
state_text w = flat_map tally_line w.tallies ++ deleted_line w.deleted ++ flat_map left_line (map path_at w.store.objects)

-- the whole text: a line an event, what stands, and how it ended
unfoldable pub report_text : Ran → List ℕ
report_text ran = entries_text 0 ran.course.trail ++ state_text ran.course.world ++ end_line ran.bad
