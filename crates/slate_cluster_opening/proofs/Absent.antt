-- Whether a table is among the objects of an opening.
use Rattle.std.proofs.Common.{◌≡◌, ℕ, Bool, List, sym, ap, ◌∙◌}
use Rattle.std.specs.Prelude.{not}
use Rattle.slate_ids.specs.declared.object_path.ObjectPath.{ObjectPath}
use Rattle.slate_ids.specs.declared.object_path.ObjectPath.TheVariants as paths
use Rattle.slate_model_tables.specs.declared.ss_table_id.SsTableId.{SsTableId}
use Rattle.slate_model_tables.specs.declared.ss_table_id.SsTableId.TheVariants.{Compacted}
use Rattle.slate_model.specs.declared.external_db.ExternalDb.{ExternalDb}
use Rattle.slate_script_events.specs.declared.db_spec.DbSpec.{DbSpec}
use Rattle.slate_cluster_protocol.specs.Specs.{First, home_of, is_there, is_absent}

pub absent_told : (objects : List (ObjectPath × First)) (spec : DbSpec) (id : SsTableId) (ulid : ℕ × ℕ) (entries : List ExternalDb) (place : List ℕ) (there : Bool)
    → id ≡ Compacted ulid → entries ≡ spec.manifest.external_dbs → place ≡ home_of spec.path id entries → there ≡ is_there (paths.Table place ulid) objects → not there ≡ is_absent objects spec id
absent_told objects spec id ulid entries place there at own placed told =
    ap not told
    ∙ (ap (λ (p : List ℕ). not (is_there (paths.Table p ulid) objects)) (placed ∙ ap (home_of spec.path id) own)
    ∙ (ap (λ (x : SsTableId). not (is_there (paths.Table (home_of spec.path x spec.manifest.external_dbs) ulid) objects)) at
    ∙ sym (ap (is_absent objects spec) at)))
