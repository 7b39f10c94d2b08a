-- All numbers rise where those that are left do.
use Rattle.std.proofs.Common.{drop}
use Rattle.hs_script.specs.Rows.{Rise}
use Rattle.hs_script.proofs.row_reading.rise.Given as goal

abbrev pub invariant-loop-stored : goal.invariant-loop-stored
invariant-loop-stored l =
    (Rise 0 l.most l.rows → Rise l.before l.most (drop l.stored-index l.rows)) × (Rise l.before l.most (drop l.stored-index l.rows) → Rise 0 l.most l.rows)
