-- Manifests, and their versions.
use Rattle.std.specs.Prelude.{ℕ, []}
use Rattle.slate_model.specs.Cores.{Core}
use Rattle.slate_model.specs.declared.manifest.Manifest.{Manifest}

-- the manifest of a new database: epochs 0, no external databases
abbrev pub initial_manifest : Core → Manifest
initial_manifest core = record { external_dbs = []; core = core; writer_epoch = 0; compactor_epoch = 0 }

-- a version: its number, and what it says
pub record Version : Type 0 where
  pub id : ℕ
  pub manifest : Manifest
