use Rattle.std.proofs.Common.{ℕ, List, ◌∷◌, ◌∙◌, ap, append-nil}
use Rattle.hs_gate.specs.Groups.{eight_bytes}
use Rattle.hs_anew.proofs.staging.head_of.Goals as goal

pub returns : goal.returns
unfolding eight_bytes
returns c = ap (λ (l : List ℕ). 1 ∷ l) (append-nil c.copy_from_slice.new.self ∙ c.copy_from_slice.ensures.after ∙ c.to_be_bytes.ensures)
