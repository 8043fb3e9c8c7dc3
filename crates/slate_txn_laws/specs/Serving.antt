-- A store that serves a call well.
use Rattle.std.specs.Prelude.{◌≡◌, Some}
use Rattle.slate_store.specs.StoreCalls.{Told, Rose}
use Rattle.slate_store.specs.Store.{Store}

-- the store tells its contents, and its count of faults did not rise in the call
pub record Serves (old new : Told) (s : Store) : Type 0 where
  pub contents : old.contents ≡ Some s
  pub calm : Rose old.faults new.faults → ⊥
