use Rattle.std.proofs.Common.{◌≡◌, sym, ◌∙◌, ap}
use Rattle.std.specs.Prelude.{not, Bool}
use Rattle.slate_ids.specs.declared.object_path.ObjectPath.{ObjectPath}
use Rattle.slate_gc_picks.specs.WalFiles.{is_unreferenced}
use Rattle.slate_gc_picks.proofs.wal_gc.is_unreferenced.Goals as goal

pub returns-in-Wal : goal.returns-in-Wal
returns-in-Wal c = λ ranges covers.
    ap (λ (b : Bool). not b) (c.has_number.ensures ranges covers) ∙ sym (ap (λ (p : ObjectPath). is_unreferenced ranges p) c.in-Wal.is)
