use Rattle.std.proofs.Common.{ℕ, List, Some, None, ap, ◌∙◌}
use Rattle.hs_sessions.specs.Book.{number_from}
use Rattle.hs_sessions.proofs.Numbered.{found}
use Rattle.hs_lines.proofs.names.Names.number.Goals as goal

pub returns-in-Some-clause-number : goal.returns-in-Some-clause-number
returns-in-Some-clause-number c =
    found c.self.inside.names.keys c.args.self.now c.as_str.result.now (Some c.in-Some.at) c.self.view_is c.in-Some.ensures.index
    ∙ ap (λ (n : List ℕ). number_from 1 n c.args.self.now) c.as_str.ensures

pub returns-in-None-clause-number : goal.returns-in-None-clause-number
returns-in-None-clause-number c =
    found c.self.inside.names.keys c.args.self.now c.as_str.result.now None c.self.view_is c.in-None.ensures.index
    ∙ ap (λ (n : List ℕ). number_from 1 n c.args.self.now) c.as_str.ensures
