-- Things that are made of one other thing, as they are read.
use Rattle.std.proofs.Common.{◌≡◌, ap, ◌∙◌}

-- what the thing is made of
pub record Made {X D : Type 0} (make : X → D) (Is : X → Type 0) (d : D) : Type 0 where
  pub of : X
  pub is : d ≡ make of
  pub at : Is of

pub made_found : {X D : Type 0} (make : X → D) (P : X → Type 0) (Q : D → Type 0) → ((x : X) → P x → Q (make x)) → ((d : D) → Q d → Made make P d) → (x : X) → P x × ((y : X) → P y → y ≡ x) → Q (make x) × ((e : D) → Q e → e ≡ make x)
made_found make P Q to from x known = (
  to x known.0,
  λ e h.
      let its = from e h in
      its.is ∙ ap make (known.1 its.of its.at),
)

pub made_none : {X D : Type 0} (make : X → D) (P : X → Type 0) (Q : D → Type 0) → ((d : D) → Q d → Made make P d) → ((x : X) → ¬ (P x)) → (e : D) → ¬ (Q e)
made_none make P Q from none e h =
    let its = from e h in
    none its.of its.at
