use Rattle.std.proofs.Common.{sym, ap}
use Rattle.hs_rel.specs.Outcome.{stop_of}
use Rattle.hs_exec.specs.declared.answer.Answer.TheVariants as a
use Rattle.hs_exec.proofs.Given.{carried, carried_on}
use Rattle.hs_exec.proofs.executing.rows_told.Goals as goal

pub returns-in-Ok : goal.returns-in-Ok
returns-in-Ok c = record {
  answer = λ means told. carried means a.Rows c.args.given told c.in-Ok.rows c.in-Ok.is;
  stop = ap stop_of (sym c.in-Ok.is);
}

pub returns-in-Err : goal.returns-in-Err
returns-in-Err c = record {
  answer = λ means told. carried_on means a.Rows c.args.given told c.in-Err.stop c.in-Err.is;
  stop = ap stop_of (sym c.in-Err.is);
}
