-- What a compactor holds of a database that it opened.
use Rattle.std.specs.Prelude.{ℕ}
use Rattle.slate_state_compactor.specs.Local.{opened}
use Rattle.slate_state_compactor.specs.declared.local_state.LocalState.{LocalState}
use Rattle.slate_state_calls.specs.declared.compactor.Compactor.{Compactor}
use Rattle.slate_model.specs.declared.manifest.Manifest.{Manifest}
use Rattle.slate_model_records.specs.Records.{Record}

-- it holds this version of the record
abbrev pub with_record : ℕ × Record → Compactor → Compactor
with_record v c = record c { record_id = v.0; compactions = v.1 }

-- it holds this version of the manifest
abbrev pub with_manifest : ℕ × Manifest → Compactor → Compactor
with_manifest v c = record c { manifest_id = v.0; manifest = v.1 }

-- it has this local state
abbrev pub with_local : LocalState → Compactor → Compactor
with_local local c = record c { local = local }

-- the compactor that an open makes of the manifest with its epoch and of the record that it committed last
abbrev pub opened_with : ℕ × Manifest → ℕ × Record → Compactor
opened_with m r = record {
  epoch = m.1.compactor_epoch;
  record_id = r.0;
  compactions = r.1;
  manifest_id = m.0;
  manifest = m.1;
  local = opened m.1.core r.1;
}
