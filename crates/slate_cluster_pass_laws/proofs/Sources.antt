-- The greatest manifest of a database is what is read back of one that has bytes: at each moment of a run.
use Rattle.std.proofs.Common.{◌≡◌, ℕ, ◌<◌, List, [], ◌∷◌, None, Ok, sym, subst, arith}
use Rattle.slate_layout_encodable.specs.Normal.{normal_manifest}
use Rattle.slate_layout.specs.Codec.{encoded}
use Rattle.slate_txn_log.specs.declared.log_kind.LogKind.TheVariants as logs
use Rattle.slate_model.specs.declared.manifest.Manifest.{Manifest}
use Rattle.slate_script_events.specs.declared.db_spec.DbSpec.{DbSpec}
use Rattle.slate_cluster_protocol.specs.Chains.{Link, Changed, IsChain, IsFirst, top}
use Rattle.slate_cluster_protocol.specs.Chains.Changed.{Stays, Gets}
use Rattle.slate_cluster_protocol.specs.Chains.IsFirst.{Opens, Begins}
use Rattle.slate_cluster_protocol.specs.Lawful.{IsAccepted}
use Rattle.slate_cluster_protocol.specs.Logs.{Author, Chain, manifests, opening_chains}
use Rattle.slate_cluster_protocol.specs.Specs.{opening_world}
use Rattle.slate_cluster_protocol.specs.World.{HasDb}
use Rattle.slate_state_updates.specs.Prefixes.{prefix_refusal}
use Rattle.slate_state_updates.proofs.Lawful.{keeps}
use Rattle.slate_state_updates.proofs.PrefixesApart.{none_nested}
use Rattle.slate_cluster_laws.proofs.Opening.{has_first}

-- the manifest of which a version is read back, whose prefixes don't nest
pub record HasSource (l : Link Manifest Author) : Type 0 where
  pub source : Manifest
  pub encodes : encoded source ≡ Ok l.bytes
  pub normal : l.value ≡ normal_manifest source
  pub apart : prefix_refusal l.value.core.segments ≡ None

-- there is a version, and the greatest has one
abbrev pub TopHasSource : Chain logs.Manifest → Type 0
TopHasSource [] = ⊥
TopHasSource (l ∷ c) = HasSource l

-- numbers begin at 1
pub some_number : (c : Chain logs.Manifest) → IsChain manifests c → TopHasSource c → 0 < top c
some_number [] h k = absurd k
some_number (l ∷ []) h k = by_first h
  where
    by_first : IsFirst manifests l → 0 < l.number
    by_first (Opens number by bytes own) = omega arith
    by_first (Begins author made number by makes encodes value) = omega arith
some_number (l ∷ old ∷ c) h k = let number = h.0.number in omega arith

-- a chain that stays, or gets a version, keeps it
pub source_stays : (P : Author → Type 0) (c c' : Chain logs.Manifest) → Changed P c c' → IsChain manifests c' → TopHasSource c → TopHasSource c'
source_stays P c c' (Stays same) h k = subst TopHasSource (sym same) k
source_stays P c c' (Gets l author by p is) h k = subst TopHasSource (sym is) (by_old c (subst (IsChain manifests) is h) k)
  where
    by_old : (b : Chain logs.Manifest) → IsChain manifests (l ∷ b) → TopHasSource b → HasSource l
    by_old [] h k = absurd k
    by_old (old ∷ b) h k = record { source = h.0.made; encodes = h.0.bytes; normal = h.0.value; apart = (keeps old.number old.value l.value (manifests.right h.0.author) h.0.lawful).prefixes }

-- a database begins so
pub source_begins : (specs : List DbSpec) (accepted : IsAccepted specs) (d : List ℕ) → HasDb (opening_world specs) d → TopHasSource (opening_chains specs logs.Manifest d)
source_begins specs accepted d has =
    let f = has_first specs accepted d has in
    subst TopHasSource (sym f.is) (record { source = f.spec.manifest; encodes = f.encodes; normal = sym f.normal; apart = none_nested f.spec.manifest.core.segments f.apart })
