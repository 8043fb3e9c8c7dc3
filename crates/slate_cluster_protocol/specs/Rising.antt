-- What never falls along a chain, and which numbers its manifests name.
use Rattle.std.specs.Prelude.{◌≢◌, ◌≤◌, List, [], ◌∷◌}
use Rattle.slate_model.specs.declared.manifest.Manifest.{Manifest}
use Rattle.slate_model_records.specs.Records.{Record}
use Rattle.slate_state_record_updates.specs.RecordRules.{KeepsLeast}
use Rattle.slate_state_updates.specs.RuleLaws.{NamesKnown}
use Rattle.slate_cluster_protocol.specs.Chains.{Link}
use Rattle.slate_cluster_protocol.specs.Logs.{Author}

-- in a version nothing has fallen since any of these older ones
abbrev pub AboveAll : {V : Type 0} → (V → V → Type 0) → V → List (Link V Author) → Type 0
AboveAll Rises v [] = Unit {0}
AboveAll Rises v (old ∷ c) = Rises old.value v × AboveAll Rises v c

-- in none of the versions of a chain anything is below an older one's
abbrev pub NeverFalls : {V : Type 0} → (V → V → Type 0) → List (Link V Author) → Type 0
NeverFalls Rises [] = Unit {0}
NeverFalls Rises (new ∷ c) = AboveAll Rises new.value c × NeverFalls Rises c

-- of records: the epoch doesn't fall; and where there are compactions, some stay, and the least milliseconds of their ids don't fall
pub record RecordRises (old new : Record) : Type 0 where
  pub epoch : old.compactor_epoch ≤ new.compactor_epoch
  pub least : old.entries ≢ [] → KeepsLeast old.entries new.entries

-- each manifest of a chain names no version but its own and those that the one before names
abbrev pub NameKnown : List (Link Manifest Author) → Type 0
NameKnown [] = Unit {0}
NameKnown (first ∷ []) = Unit {0}
NameKnown (new ∷ old ∷ c) = NamesKnown old.number old.value new.value × NameKnown (old ∷ c)
