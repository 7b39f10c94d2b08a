-- Parts that are added one behind another.
use Rattle.std.proofs.Common.{◌≡◌, ℕ, List, ◌++◌, ap, ◌∙◌, append_assoc}

pub printed2 : (out a n x y : List ℕ) → a ≡ out ++ x → n ≡ a ++ y → n ≡ out ++ (x ++ y)
printed2 out a n x y e f = f ∙ ap (λ (zs : List ℕ). zs ++ y) e ∙ append_assoc out x y

pub printed3 : (out a b n x y z : List ℕ) → a ≡ out ++ x → b ≡ a ++ y → n ≡ b ++ z → n ≡ out ++ (x ++ (y ++ z))
printed3 out a b n x y z e f g = printed2 out a n x (y ++ z) e (printed2 a b n y z f g)

pub printed4 : (out a b c n w x y z : List ℕ) → a ≡ out ++ w → b ≡ a ++ x → c ≡ b ++ y → n ≡ c ++ z → n ≡ out ++ (w ++ (x ++ (y ++ z)))
printed4 out a b c n w x y z e f g h = printed2 out a n w (x ++ (y ++ z)) e (printed3 a b c n x y z f g h)

pub printed5 : (out a b c d n v w x y z : List ℕ) → a ≡ out ++ v → b ≡ a ++ w → c ≡ b ++ x → d ≡ c ++ y → n ≡ d ++ z → n ≡ out ++ (v ++ (w ++ (x ++ (y ++ z))))
printed5 out a b c d n v w x y z e f g h i = printed2 out a n v (w ++ (x ++ (y ++ z))) e (printed4 a b c d n w x y z f g h i)
