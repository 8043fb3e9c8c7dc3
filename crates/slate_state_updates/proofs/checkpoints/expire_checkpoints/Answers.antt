use Rattle.std.proofs.Common.{inl, w64}
use Rattle.std.proofs.lemmas.Int.{to_z-of_z}
use Rattle.slate_state_updates.proofs.Expired.{without_expired}
use Rattle.slate_state_updates.proofs.checkpoints.expire_checkpoints.Goals as goal

pub returns : goal.returns
returns c =
    let has = rw (to_z-of_z w64 c.args.now c.ranges.now) at c.is_to_expire.ensures in
    let made = rw (to_z-of_z w64 c.args.now c.ranges.now) at c.in_ok-unexpired.ensures in
    inl (without_expired c.args.now c.args.manifest.now c.is_to_expire.result c.in_ok-unexpired.field-0 has c.if-not-is_to_expire.false made)
