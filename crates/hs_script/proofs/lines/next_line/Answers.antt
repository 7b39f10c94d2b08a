use Rattle.std.proofs.Common.{List, ℕ, ◌++◌, ap, ◌∙◌}
use Rattle.hs_committext.proofs.LineLemmas.{no_line}
use Rattle.hs_script.proofs.lines.next_line.Goals as goal

pub returns-in-Some : goal.returns-in-Some
returns-in-Some c = (c.first_line.ensures.before, c.first_line.ensures.parts ∙ ap (λ (r : List ℕ). c.first_line.result.0.now ++ r) c.in-Some.ensures)

pub returns-in-None : goal.returns-in-None
returns-in-None c = no_line c.args.text.now c.first_line.result.0.now c.first_line.result.1.now c.first_line.ensures c.in-None.ensures
