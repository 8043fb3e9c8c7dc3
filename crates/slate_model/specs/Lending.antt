-- What segments and manifests end as, once a tree that they lent is given back.
use Rattle.std.specs.Prelude.{ℕ, List, Result}
use Rattle.std.specs.Borrow.{Fml, MutBor, Lends, LendsIfOk}
use Rattle.slate_model.specs.declared.lsm_tree_state.LsmTreeState.{LsmTreeState}
use Rattle.slate_model.specs.contracts.lsm_tree_state.LsmTreeState as tree
use Rattle.slate_model.specs.contracts.segment.Segment as segment
use Rattle.slate_model.specs.contracts.segments.Segments as segments
use Rattle.slate_model.specs.contracts.manifest_core.ManifestCore as core
use Rattle.slate_model.specs.Segments.{Prefixed}
use Rattle.slate_model.specs.Cores.{Core}
use Rattle.slate_model.specs.Insertion.{placed, with_tree, with_tree_at}

-- a segment ends with the tree that was given back
abbrev pub LendsTree : MutBor Prefixed → MutBor LsmTreeState → Fml
LendsTree s r = Lends segment.the_row tree.the_row s r (λ w. record { prefix = s.now.prefix; tree = w })

-- the segments end with the tree that was given back at its place
abbrev pub LendsTreeAt : ℕ → MutBor (List Prefixed) → MutBor LsmTreeState → Fml
LendsTreeAt i s r = Lends segments.the_row tree.the_row s r (with_tree_at i s.now)

-- the segments end with the tree that was given back at the prefix, and unchanged where it was refused
abbrev pub LendsPlaced : {E : Type 0} → List ℕ → MutBor (List Prefixed) → Result (MutBor LsmTreeState) E → Fml
LendsPlaced prefix s r = LendsIfOk segments.the_row tree.the_row s r (λ w. placed prefix w s.now) s.now

-- the core ends with the tree that was given back at the prefix, and unchanged where it was refused
abbrev pub LendsWithTree : {E : Type 0} → List ℕ → MutBor Core → Result (MutBor LsmTreeState) E → Fml
LendsWithTree prefix c r = LendsIfOk core.the_row tree.the_row c r (with_tree prefix c.now) c.now
