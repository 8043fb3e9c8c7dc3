-- The database and the epoch stay along a call.
use Rattle.std.proofs.Common.{◌∙◌}
use Rattle.slate_state_writer.specs.Writer.{KeepsOwn, Writer}

-- over two steps, too
pub keeps_on : {from mid to : Writer} → KeepsOwn from mid → KeepsOwn mid to → KeepsOwn from to
keeps_on before after = record { db = after.db ∙ before.db; epoch = after.epoch ∙ before.epoch }
