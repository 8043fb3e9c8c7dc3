-- A party in its own place.
use Rattle.std.proofs.Common.{◌≡◌, ℕ, List, Some}
use Rattle.std.specs.Map.{lookup, set_value}
use Rattle.std.specs.BTreeMap.{is_at}
use Rattle.std.specs.Ordering.{nat_cmp}
use Rattle.std.proofs.lemmas.Map.Steps.{set_value_same}
use Rattle.slate_cluster_protocol.specs.declared.party.Party.{Party}

-- a party that is put where it was leaves all as it was
pub same_party : (n : ℕ) (parties : List (ℕ × Party)) (party : Party) → lookup (is_at (nat_cmp n)) parties ≡ Some party → set_value (is_at (nat_cmp n)) parties party ≡ parties
same_party n parties party here = set_value_same (is_at (nat_cmp n)) parties party here
