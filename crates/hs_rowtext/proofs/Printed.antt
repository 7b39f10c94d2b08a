-- Parts that are added one behind another.
use Rattle.std.proofs.Common.{◌≡◌, ℕ, List, ◌++◌, ap, ◌∙◌, append_assoc}

pub printed : (out first second new x y z : List ℕ) → first ≡ out ++ x → second ≡ first ++ y → new ≡ second ++ z → new ≡ out ++ (x ++ (y ++ z))
printed out first second new x y z a b c =
    c ∙ ap (λ (bs : List ℕ). bs ++ z) (b ∙ ap (λ (bs : List ℕ). bs ++ y) a) ∙ append_assoc (out ++ x) y z ∙ append_assoc out x (y ++ z)
