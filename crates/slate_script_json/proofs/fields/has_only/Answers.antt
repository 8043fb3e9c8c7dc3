use Rattle.std.proofs.Common.{◌≡◌, ℕ, List, [], ◌∷◌, ◌||◌, map, Bor, String, Global, bytes_eq, string_bytes, refl, ap, ◌∙◌}
use Rattle.std.specs.List.{list_any, list_all}
use Rattle.serde_json.specs.View.{members_view}
use Rattle.serde_json.specs.declared.value.Value.{Value}
use Rattle.slate_script_json.specs.Fields.{is_among, only_among}
use Rattle.slate_script_json.proofs.fields.has_only.Goals as goal

abbrev now_of : Bor (List ℕ) → List ℕ
now_of n = n.now

any_of_map : (k : List ℕ) (ns : List (Bor (List ℕ))) → list_any (λ n. bytes_eq k (now_of n)) ns ≡ is_among (map now_of ns) k
any_of_map k [] = refl
any_of_map k (n ∷ ns) = ap (λ b. bytes_eq k (now_of n) || b) (any_of_map k ns)

only_of_view : (ns : List (Bor (List ℕ))) (es : List (String Global × Value)) → list_all (λ e. list_any (λ n. bytes_eq (string_bytes e.0) (now_of n)) ns) es ≡ only_among (map now_of ns) (members_view es)
only_of_view ns [] = refl
only_of_view ns (e ∷ es) = rw (any_of_map (string_bytes e.0) ns, only_of_view ns es)

pub returns : goal.returns
returns c = c.are_among.ensures ∙ only_of_view c.args.names.now c.args.members.now.entries
