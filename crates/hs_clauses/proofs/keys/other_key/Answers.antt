use Rattle.std.proofs.Common.{subst}
use Rattle.hs_plan.specs.declared.query.SortKey.{SortKey}
use Rattle.hs_meaning.specs.Parts.{Meaning}
use Rattle.hs_meaning.specs.Finding.{Finds}
use Rattle.hs_clauses.proofs.Forms.{sorted_is}
use Rattle.hs_clauses.proofs.keys.other_key.Goals as goal

pub returns : goal.returns
returns c = λ things s. subst (λ (m : Meaning SortKey). Finds m c.args.faults.now c.sorted.new.faults c.sorted.result) (sorted_is things s c.args.key.now c.args.meaning c.requires) c.sorted.ensures
