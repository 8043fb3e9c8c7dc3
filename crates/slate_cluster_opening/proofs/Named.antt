-- Databases have names, and the ids of their tables are ids.
use Rattle.std.proofs.Common.{◌≡◌, ℕ, Bool, true, false, ◌&&◌, List, [], ◌∷◌, ◌++◌, map, refl, sym, ap, ◌∙◌}
use Rattle.std.specs.List.{flat_map, list_all}
use Rattle.slate_ids.specs.Ids.{is_db_path}
use Rattle.slate_ids.specs.Ulids.{is_id}
use Rattle.slate_script_events.specs.declared.db_spec.DbSpec.{DbSpec}
use Rattle.slate_cluster_protocol.specs.Specs.{is_named_spec, table_ids}

both : (a b : Bool) → (a && b) ≡ true → (a ≡ true) × (b ≡ true)
both true b h = (refl, h)
both false b h = absurd cc

and_so : (a b : Bool) → a ≡ true → b ≡ true → (a && b) ≡ true
and_so a b h k = ap (λ (x : Bool). x && b) h ∙ k

-- all of two lists are ids exactly where all of each are
front_fits : (a b : List (ℕ × ℕ)) → list_all is_id (a ++ b) ≡ true → (list_all is_id a ≡ true) × (list_all is_id b ≡ true)
front_fits [] b h = (refl, h)
front_fits (x ∷ a) b h =
    let first = both (is_id x) (list_all is_id (a ++ b)) h in
    let rest = front_fits a b first.1 in
    (and_so (is_id x) (list_all is_id a) first.0 rest.0, rest.1)

mapped : {T : Type 0} (ts : List ((ℕ × ℕ) × T)) → list_all is_id (map (λ t. t.0) ts) ≡ list_all (λ t. is_id t.0) ts
mapped [] = refl
mapped (t ∷ ts) = ap (λ (b : Bool). is_id t.0 && b) (mapped ts)

pub all_named : (specs : List DbSpec) → list_all (λ spec. is_db_path spec.path) specs ≡ true → list_all is_id (flat_map table_ids specs) ≡ true → list_all is_named_spec specs ≡ true
all_named [] names ids = refl
all_named (spec ∷ specs) names ids =
    let name = both (is_db_path spec.path) (list_all (λ s. is_db_path s.path) specs) names in
    let fit = front_fits (table_ids spec) (flat_map table_ids specs) ids in
    and_so (is_named_spec spec) (list_all is_named_spec specs)
    (and_so (is_db_path spec.path) (list_all (λ t. is_id t.0) spec.tables) name.0 (sym (mapped spec.tables) ∙ fit.0))
    (all_named specs name.1 fit.1)
