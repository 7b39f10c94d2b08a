use Rattle.std.proofs.Common.{ℕ, List, [], ◌∷◌, ◌++◌, ◌∙◌, ap}
use Rattle.hs_gate.proofs.writing.put_together.Goals as goal

pub returns : goal.returns
returns c =
    c.in_ok-try_extend_from_slice-3.ensures.ok
    ∙ ap (λ (l : List ℕ). l ++ 0 ∷ []) (c.in_ok-try_extend_from_slice-2.ensures.ok
    ∙ ap (λ (l : List ℕ). l ++ c.args.second.now) (c.in_ok-try_extend_from_slice.ensures.ok
    ∙ ap (λ (l : List ℕ). l ++ c.args.first.now) c.requires))
