use Rattle.std.proofs.Common.{ℕ, List, ◌∙◌, ap}
use Rattle.std.specs.Int.{w64, from_be_bytes}
use Rattle.hs_gate.specs.Groups.{number_of}
use Rattle.hs_damages.proofs.header.number.Goals as goal

pub returns-in-Some : goal.returns-in-Some
unfolding number_of
returns-in-Some c = c.from_be_bytes.ensures ∙ ap (λ (l : List ℕ). from_be_bytes w64 l) c.in-Some.ensures.cases.same
