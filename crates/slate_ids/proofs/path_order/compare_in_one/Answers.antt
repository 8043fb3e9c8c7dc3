use Rattle.std.proofs.Common.{sym, ◌∙◌}
use Rattle.slate_ids.proofs.Orders.{are_records_order}
use Rattle.slate_ids.proofs.path_order.compare_in_one.Goals as goal

pub returns-in-Record-Record : goal.returns-in-Record-Record
returns-in-Record-Record c =
    let compared = c.compare_numbers-in-Record-Record.ensures in
    compared.order ∙ sym (are_records_order _ _ _ _ _ _ c.in-Record-Record.is-0 c.in-Record-Record.is-1 c.requires.long c.requires.same compared.fits compared.fits_too)
