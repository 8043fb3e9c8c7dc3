-- What a pass makes of a manifest that has expired checkpoints.
use Rattle.std.proofs.Common.{◌≡◌, ℤ, Bool, true, filter, Some, None, Ok, sym, ap, ◌∙◌}
use Rattle.std.specs.Prelude.{not, if◌then◌else◌}
use Rattle.std.specs.List.{list_any}
use Rattle.slate_state_updates.specs.Checkpoints.{is_expired, with_checkpoints, unexpired}
use Rattle.slate_model.specs.declared.manifest.Manifest.{Manifest}

pub without_expired : (now : ℤ) (m : Manifest) (has : Bool) (new : Manifest) → has ≡ list_any (is_expired now) m.core.checkpoints → has ≡ true
    → new ≡ with_checkpoints (filter (λ c. not (is_expired now c)) m.core.checkpoints) m → unexpired now m ≡ Ok (Some new)
without_expired now m has new is shown made =
    ap (λ (b : Bool). if b then Ok (Some (with_checkpoints (filter (λ c. not (is_expired now c)) m.core.checkpoints) m)) else Ok None) (sym is ∙ shown)
    ∙ ap (λ (x : Manifest). Ok (Some x)) (sym made)
