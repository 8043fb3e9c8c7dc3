use Rattle.slate_gc_complete.proofs.Passes as passes
use Rattle.slate_gc_complete.proofs.reports.collectors_pick_listed.Goals as goal

pub returns : goal.returns
returns g c = λ returns picks filter wal fair. passes.collector_picks returns picks filter wal fair
