use Rattle.std.proofs.Common.{◌≡◌, ◌++◌}
use Rattle.hs_claims.specs.Blockers.{has}
use Rattle.hs_turns.specs.Lines.{listed}
use Rattle.hs_lines.specs.Names.{name_in}
use Rattle.hs_lines.specs.Told.{is_none}
use Rattle.hs_lines.proofs.Listing.{among}
use Rattle.hs_lines.proofs.printing.push_names.Given as goal

abbrev pub invariant-loop-s : goal.invariant-loop-s
invariant-loop-s l = record {
  text : l.out.items ≡ l.fn.out.items ++ listed (among (name_in l.names) (has l.sessions) l.s);
  first : l.is_first ≡ is_none (among (name_in l.names) (has l.sessions) l.s);
}
