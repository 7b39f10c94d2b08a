use Rattle.std.proofs.Common.{drop}
use Rattle.hs_outlines.specs.Given.{IsGiven}
use Rattle.hs_outlines.proofs.Giving.{Tells}
use Rattle.hs_outlines.proofs.naming.name_all.Given as goal

abbrev pub invariant-loop-w : goal.invariant-loop-w
invariant-loop-w l = record {
  given : IsGiven l.catalog l.table l.given;
  tells : Tells l.catalog l.table l.given.names.items l.key (drop l.w-index l.written) l.faults l.written l.fn.first l.fn.faults;
}
