use Rattle.std.proofs.Common.{◌+◌, arith}
use Rattle.hs_turns.proofs.Bounded.{committed_numbered}
use Rattle.hs_turns.proofs.NumberedRows.{between, own-final, old-final}
use Rattle.hs_turns.proofs.Renumbered.{insert_number, rising}
use Rattle.hs_turns.proofs.database_laws.numbers_of_inserted_rows_are_new.Goals as goal

pub returns : goal.returns
returns c = record {
  above = λ count number changes h. let b = between (count + 1) number changes h in omega (arith, b.0);
  most = λ count number changes h. let b = between (count + 1) number changes h in omega (arith, b.1);
  its = insert_number;
  rising = rising;
  own = own-final;
  old = old-final;
  unused = λ db changes table number is h. let b = between (db.count + 1) number changes h in is.above table number (omega (arith, b.0));
  numbered = committed_numbered;
}
