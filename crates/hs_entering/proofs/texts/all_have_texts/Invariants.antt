-- The conditions so far have texts.
use Rattle.std.proofs.Common.{take}
use Rattle.hs_tabletext.specs.Constraints.{ArePrintable}
use Rattle.hs_entering.proofs.texts.all_have_texts.Given as goal

abbrev pub invariant-loop-constraint : goal.invariant-loop-constraint
invariant-loop-constraint g l = ArePrintable (g.C.Conditions.wording l.conditions) l.columns (take l.constraint-index l.constraints)
