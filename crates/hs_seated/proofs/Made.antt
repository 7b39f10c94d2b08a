-- Changes of a commit, one after another.
use Rattle.std.proofs.Common.{◌≡◌, ℕ, zero, suc, ◌+◌, ◌<◌, Bool, true, false, ◌||◌, List, [], ◌∷◌, get_or, length, take, refl, sym, ap, ◌∙◌, arith}
use Rattle.std.proofs.lemmas.List.{length-take-le}
use Rattle.std.proofs.lemmas.List.Sums.{fold_more}
use Rattle.std.specs.List.{list_any}
use Rattle.hs_turns.specs.Database.{Database, apply, make}
use Rattle.hs_turns.proofs.Applied.{apply-count}
use Rattle.hs_plan.specs.declared.change.Change.{Change}

pub none_at : {X : Type 0} (p : X → Bool) (xs : List X) (i : ℕ) (x : X) → list_any p xs ≡ false → i < length xs → x ≡ get_or xs i x → p x ≡ false
none_at p [] i x none low is = absurd (omega (arith, low))
none_at p (y ∷ ys) zero x none low is = by (p y) refl none
  where
    by : (b : Bool) → p y ≡ b → (b || list_any p ys) ≡ false → p x ≡ false
    by true here rest = absurd (cc)
    by false here rest = ap p is ∙ here
none_at p (y ∷ ys) (suc i) x none low is = by (λ rest. none_at p ys i x rest (omega (arith, low)) is) (p y) none
  where
    by : (list_any p ys ≡ false → p x ≡ false) → (b : Bool) → (b || list_any p ys) ≡ false → p x ≡ false
    by more true rest = absurd (cc)
    by more false rest = more rest

pub made_on : (db : Database) (changes : List Change) (i : ℕ) (c : Change) → i < length changes → c ≡ get_or changes i c → apply db (take (i + 1) changes) ≡ make (apply db (take i changes)) c
made_on db changes i c low is = fold_more make db changes i c low ∙ ap (make (apply db (take i changes))) (sym is)

pub count_at : (db : Database) (changes : List Change) (i : ℕ) → i < length changes → (apply db (take i changes)).count ≡ db.count + i
count_at db changes i low = apply-count db (take i changes) ∙ ap (λ n. db.count + n) (length-take-le i changes (omega (arith, low)))
