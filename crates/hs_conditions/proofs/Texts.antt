-- The conditions of texts.
use Rattle.std.proofs.Common.{◌≡◌, ℕ, Bool, true, false, List, Option, Some, None, refl, sym, ap, subst, ◌∙◌}
use Rattle.std.specs.Prelude.{◌↔◌, IsTrue}
use Rattle.hs_conditiontext.specs.Conditions.{condition_text}
use Rattle.hs_plan.specs.declared.definition.Column.{Column}
use Rattle.hs_plan.specs.declared.expression.Expr.{Expr}
use Rattle.hs_tabletext.specs.Conditions.{IsConditionText}
use Rattle.hs_sameness.specs.Plain.{is_plain}
use Rattle.hs_sameness.specs.Same.{Tells}
use Rattle.hs_valuetext.specs.Finding.{Knows}
use Rattle.hs_conditions.specs.Reading.{condition_of}
use Rattle.hs_conditions.specs.Texts.{HasText, MayStand, checks}

some_same : (a b : Expr) → Some a ≡ Some b → a ≡ b
some_same a b e = cc

none_not : (a : Expr) → None ≡ Some a → ⊥
none_not a e = absurd (cc)

not_true : (b : Bool) → ¬ (b ≡ true) → false ≡ b
not_true true other = absurd (other refl)
not_true false other = refl

-- an expression is the same as itself exactly where it is plain
pub plain_told : (e : Expr) (b : Bool) → Tells is_plain e e b → b ≡ is_plain e
plain_told e true t = sym t.1
plain_told e false t = not_true (is_plain e) (t refl)

-- ---- of a text

its_reading : (columns : List Column) (text : List ℕ) (x : Expr) → IsConditionText checks columns text x → condition_of columns text ≡ Some x
its_reading columns text x h = subst (λ (t : List ℕ). condition_of columns t ≡ Some x) (sym h.written) h.lawful.read

one : (columns : List Column) (text : List ℕ) (e : Expr) → condition_of columns text ≡ Some e → (x : Expr) → IsConditionText checks columns text x → x ≡ e
one columns text e is x h = some_same x e (sym (its_reading columns text x h) ∙ is)

-- one that may not stand in a log
pub no_place : (columns : List Column) (text : List ℕ) → ¬ MayStand text → (x : Expr) → ¬ (IsConditionText checks columns text x)
no_place columns text never x h = never (subst MayStand (sym h.written) h.lawful.stands)

pub none : (columns : List Column) (text : List ℕ) → None ≡ condition_of columns text → (x : Expr) → ¬ (IsConditionText checks columns text x)
none columns text is x h = none_not x (is ∙ its_reading columns text x h)

found : (columns : List Column) (text : List ℕ) (e : Expr) → MayStand text → condition_of columns text ≡ Some e → is_plain e ≡ true → condition_text columns e ≡ text → IsConditionText checks columns text e
found columns text e stands is plain written = record {
  lawful = record {
    plain = plain;
    stands = subst MayStand (sym written) stands;
    read = subst (λ (t : List ℕ). condition_of columns t ≡ Some e) (sym written) is;
  };
  written = sym written;
}

-- it is the one condition of the text
pub known : (columns : List Column) (text : List ℕ) (e : Expr) → MayStand text → condition_of columns text ≡ Some e → is_plain e ≡ true → condition_text columns e ≡ text → Knows (λ (x : Expr). x) (IsConditionText checks columns text) (Some e)
known columns text e stands is plain written = (found columns text e stands is plain written, one columns text e is)

pub queried : (columns : List Column) (text : List ℕ) (e : Expr) → condition_of columns text ≡ Some e → ¬ (is_plain e ≡ true) → (x : Expr) → ¬ (IsConditionText checks columns text x)
queried columns text e is never x h = never (subst (λ (y : Expr). is_plain y ≡ true) (one columns text e is x h) h.lawful.plain)

pub otherwise_written : (columns : List Column) (text : List ℕ) (e : Expr) → condition_of columns text ≡ Some e → ¬ (condition_text columns e ≡ text) → (x : Expr) → ¬ (IsConditionText checks columns text x)
otherwise_written columns text e is other x h = other (sym (h.written ∙ ap (condition_text columns) (one columns text e is x h)))

-- ---- of a condition, which is written so

pub told : (columns : List Column) (e : Expr) (text : List ℕ) (other : Expr) (same : Bool) → text ≡ condition_text columns e → MayStand text → condition_of columns text ≡ Some other → Tells is_plain e other same → IsTrue same ↔ HasText columns e
told columns e text other true so stands is tells = (
  (λ _. record {
    plain = tells.1;
    stands = subst MayStand so stands;
    read = subst (λ (t : List ℕ). condition_of columns t ≡ Some e) so (is ∙ ap (λ (x : Expr). Some x) (sym tells.0));
  }),
  (λ _. refl),
)
told columns e text other false so stands is tells = (
  (λ never. absurd (let e : false ≡ true = never in cc)),
  (λ has. absurd (tells (some_same e other (sym has.read ∙ (ap (condition_of columns) (sym so) ∙ is))) has.plain)),
)

pub untold : (columns : List Column) (e : Expr) (text : List ℕ) → text ≡ condition_text columns e → None ≡ condition_of columns text → ¬ (HasText columns e)
untold columns e text so is has = none_not e (is ∙ (ap (condition_of columns) so ∙ has.read))

pub unplaced : (columns : List Column) (e : Expr) (text : List ℕ) → text ≡ condition_text columns e → ¬ MayStand text → ¬ (HasText columns e)
unplaced columns e text so never has = never (subst MayStand (sym so) has.stands)
