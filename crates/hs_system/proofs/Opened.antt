-- Texts that are made again, with how many there are and without.
use Rattle.std.proofs.Common.{◌≡◌, ℕ, ◌+◌, List, [], ◌∷◌, length, refl, sym, ap, ◌∙◌, subst, arith}
use Rattle.std.specs.Prelude.{Option, None, Some}
use Rattle.hs_base.specs.declared.numbers.SessionNo.{SessionNo}
use Rattle.hs_committext.specs.Commits.{number_of}
use Rattle.hs_program.specs.Meaning.{Opened}
use Rattle.hs_program.specs.Opening.{AreRedone}
use Rattle.hs_logged.specs.Redone.{IsRedone, State}
use Rattle.hs_system.specs.Openings.{Make, may}
use Rattle.hs_system.specs.System.{System}
use Rattle.hs_system.specs.Meaning.{Makes, meaning_of, opened_as, session_in, state_of}

there : (s : Option SessionNo) → session_in (number_of s) ≡ s
there None = refl
there (Some s) = refl

back : (n : Option ℕ) → number_of (session_in n) ≡ n
back None = refl
back (Some n) = refl

pub state_is : (at : State) (commits : ℕ) → state_of (opened_as at commits) ≡ at
state_is at commits = λ i. record { database = at.database; last = there at.last i }

pub opened_is : (opened : Opened) → opened_as (state_of opened) opened.commits ≡ opened
opened_is opened = λ i. record { database = opened.database; last = back opened.last i; commits = opened.commits }

module _ (y : System) where
  pub to_states : (texts : List (List ℕ)) (a b : Opened) → AreRedone (meaning_of y) a texts b → Make y (state_of a) texts (state_of b)
  to_states [] a b is = ap state_of is
  to_states (text ∷ texts) a b is = (state_of is.0, is.1.made, to_states texts is.0 b is.2)

  one_more : (at next : State) (text : List ℕ) (commits : ℕ) → IsRedone y.wording (may y) at text next → Makes y (opened_as at commits) text (opened_as next (commits + 1))
  one_more at next text commits is = record {
    made = subst (λ (s : State). IsRedone y.wording (may y) s text (state_of (opened_as next (commits + 1)))) (sym (state_is at commits)) (subst (λ (s : State). IsRedone y.wording (may y) at text s) (sym (state_is next (commits + 1))) is);
    counted = refl;
  }

  pub from_states : (texts : List (List ℕ)) (at last : State) (commits : ℕ) → Make y at texts last → AreRedone (meaning_of y) (opened_as at commits) texts (opened_as last (commits + length texts))
  from_states [] at last commits is =
      let none : commits + 0 ≡ commits = omega arith in
      ap (λ (n : ℕ). opened_as last n) none ∙ ap (λ (s : State). opened_as s commits) is
  from_states (text ∷ texts) at last commits is =
      let same : commits + 1 + length texts ≡ commits + length (text ∷ texts) = omega arith in (
        opened_as is.0 (commits + 1),
        one_more at is.0 text commits is.1,
        subst (λ (n : ℕ). AreRedone (meaning_of y) (opened_as is.0 (commits + 1)) texts (opened_as last n)) same (from_states texts is.0 last (commits + 1) is.2),
      )

  -- there are as many commits more as texts
  pub so_many : (texts : List (List ℕ)) (a b : Opened) → AreRedone (meaning_of y) a texts b → b.commits ≡ a.commits + length texts
  so_many [] a b is = let same : b.commits ≡ a.commits = ap (λ (o : Opened). o.commits) is in omega (arith, same)
  so_many (text ∷ texts) a b is = let rest = so_many texts is.0 b is.2 in omega (arith, rest, is.1.counted)
