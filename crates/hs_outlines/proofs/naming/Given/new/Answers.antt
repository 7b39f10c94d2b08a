use Rattle.std.proofs.Common.{sym, ap, ◌∙◌}
use Rattle.hs_elements.specs.Faults.{is_among}
use Rattle.hs_outlines.specs.Named.{is_taken}
use Rattle.hs_outlines.proofs.naming.Given.new.Goals as goal

pub returns-clause-given : goal.returns-clause-given
returns-clause-given c = λ things table. record {
  held = λ name. c.new-2.ensures name ∙ sym (ap (λ l. is_among l name) c.new.ensures.items);
  tried = c.new-3.ensures (is_taken things c.new.result.items) table;
}
