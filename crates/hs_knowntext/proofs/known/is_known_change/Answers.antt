use Rattle.std.proofs.Common.{sym, ◌∙◌}
use Rattle.std.proofs.lemmas.Bool.{not-true}
use Rattle.hs_knowntext.proofs.Told.{is_known}
use Rattle.hs_knowntext.proofs.known.is_known_change.Goals as goal

pub returns-then-fits_table : goal.returns-then-fits_table
returns-then-fits_table c = λ short.
    is_known c.args.catalog.now c.in-Some.number c.in-Some-found_again.table.now c.args.change.now c.in-Some-found_again.ensures (sym c.in-Some.ensures) (c.fits_table.ensures c.if-fits_table.true)
    (sym c.is_long.ensures ∙ not-true c.is_long.result short)
