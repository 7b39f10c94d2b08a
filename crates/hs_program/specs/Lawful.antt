-- What is asked of a database that is run.
use Rattle.std.specs.Prelude.{◌≡◌, ℕ, ◌+◌, List, ◌++◌, length, None}
use Rattle.hs_entries.specs.declared.item.Item.{Item}
use Rattle.hs_run.specs.Items.{AreTold}
use Rattle.hs_run.specs.Pieces.{made_by}
use Rattle.hs_run.specs.Running.{IsTrue, pieces}
use Rattle.hs_program.specs.Meaning.{Meaning, Opened, nothing_logged}
use Rattle.hs_program.specs.Opening.{AreRedone, IsReached}

-- a run may begin with this: some texts made it, and it violates no constraint
pub record IsSound (m : Meaning) (opened : Opened) : Type 0 where
  pub reached : IsReached m opened
  pub valid : m.violated opened ≡ None

-- the texts that a run makes over these items
abbrev pub texts_over : Meaning → Opened → ℕ → List Item → List (List ℕ)
texts_over m opened size items = made_by (pieces (m.future opened size) items)

-- Each text is a commit. Before any commit no constraint is violated. Over what a run may begin with, whatever size the log has,
-- nothing is told of a commit that isn't made. Over items such as an input has, the first ones of the texts that are made, however many,
-- make again what there is behind the first commits, and this violates no constraint.
pub record IsLawful (m : Meaning) : Type 0 where
  pub counts : (opened next : Opened) (text : List ℕ) → m.Redone opened text next → next.commits ≡ opened.commits + 1
  pub starts : m.violated (nothing_logged m) ≡ None
  pub begins : (opened : Opened) (size : ℕ) → (m.future opened size).commits ≡ opened.commits
  pub is_true : (opened : Opened) (size : ℕ) → IsSound m opened → IsTrue (m.future opened size)
  pub remade : (opened : Opened) (size : ℕ) → IsSound m opened → (items : List Item) → AreTold items → (front rest : List (List ℕ)) → texts_over m opened size items ≡ front ++ rest
      → AreRedone m opened front (m.behind opened size items (length front)) × (m.violated (m.behind opened size items (length front)) ≡ None)

-- This stands for what some texts made.
pub record IsStanding {E : Type 0} (m : Meaning) (stands_for : E → Opened → Type 0) (engine : E) : Type 0 where
  pub opened : Opened
  pub stands : stands_for engine opened
  pub reached : IsReached m opened

-- This stands for what a run may begin with.
pub record IsReady {E : Type 0} (m : Meaning) (stands_for : E → Opened → Type 0) (engine : E) : Type 0 where
  pub opened : Opened
  pub stands : stands_for engine opened
  pub sound : IsSound m opened
