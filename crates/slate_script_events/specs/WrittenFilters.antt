-- Filters of passes, as scripts say them.
use Rattle.std.specs.Prelude.{ℕ, Bool, List, [], filter, bytes_eq}
use Rattle.std.specs.List.{list_any}
use Rattle.slate_ids.specs.PathText.{path_text}
use Rattle.slate_store.specs.declared.object.ObjectMetadata.{ObjectMetadata}
use Rattle.slate_script_events.specs.declared.filter_word.FilterWord.{FilterWord}
use Rattle.slate_script_events.specs.declared.filter_word.FilterWord.TheVariants.{All, Nothing, Paths}

-- whether an object lies at one of these paths
abbrev pub lies_at : List (List ℕ) → ObjectMetadata → Bool
lies_at paths m = list_any (bytes_eq (path_text m.location)) paths

-- the candidates that a filter returns, in their order
abbrev pub returned_by : FilterWord → List ObjectMetadata → List ObjectMetadata
returned_by All candidates = candidates
returned_by Nothing candidates = []
returned_by (Paths paths) candidates = filter (lies_at paths) candidates
