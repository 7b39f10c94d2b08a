use Rattle.std.proofs.Common.{ℕ, List, [], ◌∷◌, ◌++◌, ◌∙◌, ap}
use Rattle.hs_gate.specs.Groups.{eight_bytes}
use Rattle.hs_gate.proofs.start.header_of.Goals as goal

pub returns : goal.returns
unfolding eight_bytes
returns c = ap (λ (l : List ℕ). l ++ 0 ∷ []) (c.copy_from_slice.ensures.after ∙ c.to_be_bytes.ensures)
