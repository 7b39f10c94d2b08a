use Rattle.std.proofs.Common.{List, IfOk, subst}
use Rattle.hs_base.specs.declared.numbers.TableNo.{TableNo}
use Rattle.hs_copied.specs.Copies.{Stand}
use Rattle.hs_exec.proofs.reads.read_named.Goals as goal

pub returns-clause-copies : goal.returns-clause-copies
returns-clause-copies g c = λ tells.
    subst (λ (l : List TableNo). IfOk c.copies_of.result (Stand (g.R.Rows.tables c.args.rows.now) l)) c.in_ok-named.ensures.tables (c.copies_of.ensures.rows tells)
