-- Checkpoints that a database begins with.
use Rattle.std.specs.Prelude.{pos, [], ◌∷◌, Option, Some, codes}
use Rattle.serde_json.specs.Data.{Data}
use Rattle.serde_json.specs.Find.{as_str}
use Rattle.slate_model.specs.declared.checkpoint.Checkpoint.{Checkpoint}
use Rattle.slate_script_json.specs.Fields.{◌>>=◌, only, required, optional, i64_in, checkpoint_id_in}

-- a checkpoint that a database begins with: it names version 1 and was made at moment 0
unfoldable pub checkpoint_in : Data → Option Checkpoint
checkpoint_in d = do
  _ ← only (codes "id" ∷ codes "expire" ∷ codes "name" ∷ []) d
  id ← required checkpoint_id_in (codes "id") d
  expire ← optional i64_in (codes "expire") d
  name ← optional as_str (codes "name") d
  Some (record { id = id; manifest_id = 1; expire_time = expire; create_time = pos 0; name = name })
