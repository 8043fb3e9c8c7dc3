use Rattle.std.proofs.Common.{w64}
use Rattle.std.proofs.lemmas.Int.{to_z-of_z}
use Rattle.slate_state_logs.specs.laws.ManifestsPlain.{encoding_fine}
use Rattle.slate_state_logs.specs.laws.RecordsPlain.{decoding_fine as records_fine}
use Rattle.slate_state_logs.specs.laws.ManifestsPlain.{decoding_fine}
use Rattle.slate_gc.proofs.gc_pass.GcPass.next.Goals as goal

pub returns-clause-steps : goal.returns-clause-steps
returns-clause-steps g c = rw (to_z-of_z w64 c.args.moment c.ranges.moment) at c.next.ensures.steps

pub returns-clause-fault : goal.returns-clause-fault
returns-clause-fault g c = c.next.ensures.fault decoding_fine encoding_fine records_fine
