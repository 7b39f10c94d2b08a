-- Actions of foreign keys as they are read.
use Rattle.std.proofs.Common.{◌≡◌, ◌≢◌, ℕ, eqb, get_or, if◌then◌else◌, List, [], ◌++◌, refl, sym, ap, ◌∙◌, append-nil}
use Rattle.std.specs.Prelude.{codes}
use Rattle.hs_ast.specs.declared.definition.ReferentialAction.{ReferentialAction}
use Rattle.hs_ast.specs.declared.definition.ReferentialAction.TheVariants as a
use Rattle.hs_valuetext.proofs.NumberLemmas.{same_front}
use Rattle.hs_valuetext.proofs.TextLemmas.{Alone}
use Rattle.hs_keytext.specs.ForeignKeys.{action_text, IsActionBehind, actions_text, AreActions}

-- the fifth byte tells them apart
action_of : ℕ → ReferentialAction
action_of b =
    if eqb b 67 then a.NoAction
    else if eqb b 82 then a.Restrict
    else if eqb b 65 then a.Cascade
    else if eqb b 78 then a.SetNull
    else a.SetDefault

action_at : List ℕ → ReferentialAction
action_at text = action_of (get_or text 4 0)

action_back : (x : ReferentialAction) (rest : List ℕ) → action_at (action_text x ++ rest) ≡ x
unfolding action_at action_of
action_back a.NoAction rest = refl
action_back a.Restrict rest = refl
action_back a.Cascade rest = refl
action_back a.SetNull rest = refl
action_back a.SetDefault rest = refl

pub action_found : (text : List ℕ) (x : ReferentialAction) (rest : List ℕ) → text ≡ action_text x ++ rest → Alone (IsActionBehind [] text) x rest
action_found text x rest e = (
  record { written = e },
  λ y others h.
      let is : y ≡ x = sym (action_back y others) ∙ ap action_at (sym h.written ∙ e) ∙ action_back x rest in
      (is, same_front (action_text x) others rest (ap (λ (z : ReferentialAction). action_text z ++ others) (sym is) ∙ sym h.written ∙ e)),
)

pub action_missing : (text : List ℕ) → ((rest : List ℕ) → text ≢ codes "NO ACTION" ++ rest) → ((rest : List ℕ) → text ≢ codes "RESTRICT" ++ rest) → ((rest : List ℕ) → text ≢ codes "CASCADE" ++ rest) → ((rest : List ℕ) → text ≢ codes "SET NULL" ++ rest) → ((rest : List ℕ) → text ≢ codes "SET DEFAULT" ++ rest) → (y : ReferentialAction) (rest : List ℕ) → ¬ (IsActionBehind [] text y rest)
action_missing text nothing restrict cascade null default a.NoAction rest h = nothing rest h.written
action_missing text nothing restrict cascade null default a.Restrict rest h = restrict rest h.written
action_missing text nothing restrict cascade null default a.Cascade rest h = cascade rest h.written
action_missing text nothing restrict cascade null default a.SetNull rest h = null rest h.written
action_missing text nothing restrict cascade null default a.SetDefault rest h = default rest h.written

-- ---- behind a text

pub action_behind : (front text inner : List ℕ) → text ≡ front ++ inner → (y : ReferentialAction) (rest : List ℕ) → IsActionBehind [] inner y rest → IsActionBehind front text y rest
action_behind front text inner e y rest h = record { written = e ∙ ap (λ (xs : List ℕ). front ++ xs) h.written }

pub behind_action : (front text inner : List ℕ) → text ≡ front ++ inner → (y : ReferentialAction) (rest : List ℕ) → IsActionBehind front text y rest → IsActionBehind [] inner y rest
behind_action front text inner e y rest h = record { written = same_front front inner (action_text y ++ rest) (sym e ∙ h.written) }

pub action_unbegun : (front text : List ℕ) → ((r : List ℕ) → text ≢ front ++ r) → (y : ReferentialAction) (rest : List ℕ) → ¬ (IsActionBehind front text y rest)
action_unbegun front text other y rest h = other (action_text y ++ rest) h.written

-- ---- both actions

first_action : (text : List ℕ) (p : ReferentialAction × ReferentialAction) → AreActions text p → IsActionBehind (codes " ON DELETE ") text p.0 (codes " ON UPDATE " ++ action_text p.1)
first_action text p h = record { written = h.written }

last_action : (middle : List ℕ) (y : ReferentialAction) → middle ≡ codes " ON UPDATE " ++ action_text y → IsActionBehind (codes " ON UPDATE ") middle y []
last_action middle y e = record { written = e ∙ ap (λ (xs : List ℕ). codes " ON UPDATE " ++ xs) (sym (append-nil (action_text y))) }

pub actions_found : (text middle rest : List ℕ) (x y : ReferentialAction) → Alone (IsActionBehind (codes " ON DELETE ") text) x middle → Alone (IsActionBehind (codes " ON UPDATE ") middle) y rest → rest ≡ [] → AreActions text (x, y) × ((p : ReferentialAction × ReferentialAction) → AreActions text p → p ≡ (x, y))
actions_found text middle rest x y first second none = (
  record { written = first.0.written ∙ ap (λ (xs : List ℕ). codes " ON DELETE " ++ (action_text x ++ xs)) (second.0.written ∙ ap (λ (xs : List ℕ). codes " ON UPDATE " ++ xs) (ap (λ (xs : List ℕ). action_text y ++ xs) none ∙ append-nil (action_text y))) },
  λ p h.
      let one = first.1 p.0 (codes " ON UPDATE " ++ action_text p.1) (first_action text p h) in
      let two = second.1 p.1 [] (last_action middle p.1 (sym one.1)) in
      λ i. (one.0 i, two.0 i),
)

pub actions_more : (text middle rest : List ℕ) (x y : ReferentialAction) → Alone (IsActionBehind (codes " ON DELETE ") text) x middle → Alone (IsActionBehind (codes " ON UPDATE ") middle) y rest → rest ≢ [] → (p : ReferentialAction × ReferentialAction) → ¬ (AreActions text p)
actions_more text middle rest x y first second some p h =
    let one = first.1 p.0 (codes " ON UPDATE " ++ action_text p.1) (first_action text p h) in
    let two = second.1 p.1 [] (last_action middle p.1 (sym one.1)) in
    some (sym two.1)

pub actions_half : (text middle : List ℕ) (x : ReferentialAction) → Alone (IsActionBehind (codes " ON DELETE ") text) x middle → ((y : ReferentialAction) (r : List ℕ) → ¬ (IsActionBehind (codes " ON UPDATE ") middle y r)) → (p : ReferentialAction × ReferentialAction) → ¬ (AreActions text p)
actions_half text middle x first none p h =
    let one = first.1 p.0 (codes " ON UPDATE " ++ action_text p.1) (first_action text p h) in
    none p.1 [] (last_action middle p.1 (sym one.1))

pub actions_none : (text : List ℕ) → ((x : ReferentialAction) (r : List ℕ) → ¬ (IsActionBehind (codes " ON DELETE ") text x r)) → (p : ReferentialAction × ReferentialAction) → ¬ (AreActions text p)
actions_none text none p h = none p.0 (codes " ON UPDATE " ++ action_text p.1) (first_action text p h)
