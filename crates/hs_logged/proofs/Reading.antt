-- What a text makes, as a relation and as a function.
use Rattle.std.proofs.Common.{◌≡◌, ℕ, Bool, true, false, List, refl, sym, ap, ◌∙◌}
use Rattle.std.specs.Prelude.{Option, None, Some}
use Rattle.hs_base.specs.declared.numbers.SessionNo.{SessionNo}
use Rattle.hs_committext.specs.Commits.{IsCommitText}
use Rattle.hs_logged.specs.Entered.{Decides}
use Rattle.hs_plan.specs.declared.change.Change.{Change}
use Rattle.hs_logged.specs.Read.{Redoes}
use Rattle.hs_logged.specs.Reading.{Reader, Reads, Tells, Test, Tests, made_by, redone, redone_by}
use Rattle.hs_logged.specs.Redone.{IsRedone, State, Takes, after}
use Rattle.hs_tabletext.specs.Conditions.{Wording}
use Rattle.hs_valuetext.specs.Finding.{Knows}

module _ (wording : Wording) (takes : Takes) (reader : Reader) (test : Test) (reads : Reads wording reader) (tests : Tests takes test) where
  abbrev Found : State → List ℕ → Option (SessionNo × List Change) → Type 0
  Found at text = Knows (λ (p : SessionNo × List Change). p) (λ p. IsCommitText wording at.database.things at.last text p.0 p.1)

  -- ---- from the relation to the function

  may : (at : State) (changes : List Change) → takes at.database changes → test at.database changes ≡ true
  may at changes taken = by (test at.database changes) (tests at.database changes)
    where
      by : (b : Bool) → Decides (takes at.database changes) b → b ≡ true
      by true h = refl
      by false h = absurd (h taken)

  of_found : (at : State) (text : List ℕ) (found : Option (SessionNo × List Change)) → Found at text found → (next : State) → IsRedone wording takes at text next → redone_by test at found ≡ Some next
  of_found at text None none next is = absurd (none (is.session, is.changes) is.of)
  of_found at text (Some p) one next is =
      let same = one.1 (is.session, is.changes) is.of in
      ap (λ (b : Bool). made_by b at p.0 p.1) (ap (test at.database) (sym (ap (λ (q : SessionNo × List Change). q.1) same)) ∙ may at is.changes is.may)
      ∙ ap (λ (q : SessionNo × List Change). Some (after at q.0 q.1)) (sym same)
      ∙ ap (λ (s : State). Some s) (sym is.is)

  pub as_function : (at : State) (text : List ℕ) (next : State) → IsRedone wording takes at text next → redone reader test at text ≡ Some next
  as_function at text next is = of_found at text (reader at.database.things at.last text) (reads at.database.things at.last text) next is

  -- ---- and back

  of_made : (at : State) (text : List ℕ) (session : SessionNo) (changes : List Change) → IsCommitText wording at.database.things at.last text session changes
      → (b : Bool) → Decides (takes at.database changes) b → (next : State) → made_by b at session changes ≡ Some next → IsRedone wording takes at text next
  of_made at text session changes of true taken next is = record { session = session; changes = changes; of = of; may = taken; is = sym (some_same is) }
    where
      some_same : {a b : State} → Some a ≡ Some b → a ≡ b
      some_same h = cc
  of_made at text session changes of false taken next is = absurd (let no : None ≡ Some next = is in cc)

  of_some : (at : State) (text : List ℕ) (found : Option (SessionNo × List Change)) → Found at text found → (next : State) → redone_by test at found ≡ Some next → IsRedone wording takes at text next
  of_some at text None none next is = absurd (let no : None ≡ Some next = is in cc)
  of_some at text (Some p) one next is = of_made at text p.0 p.1 one.0 (test at.database p.1) (tests at.database p.1) next is

  pub as_relation : (at : State) (text : List ℕ) (next : State) → redone reader test at text ≡ Some next → IsRedone wording takes at text next
  as_relation at text next is = of_some at text (reader at.database.things at.last text) (reads at.database.things at.last text) next is

  -- ---- answers

  none_made : (at : State) (text : List ℕ) (o : Option State) → redone reader test at text ≡ o → ((next : State) → ¬ (IsRedone wording takes at text next)) → redone reader test at text ≡ None
  none_made at text None is none = is
  none_made at text (Some next) is none = absurd (none next (as_relation at text next is))

  pub told : (Stands : State → Type 0) (at : State) (text : List ℕ) (b : Bool) → Redoes wording takes Stands at text b → Tells reader test Stands at text b
  told Stands at text true h = (h.0, as_function at text h.0 h.1, h.3)
  told Stands at text false h = none_made at text (redone reader test at text) refl h

  pub none_there : (at : State) (text : List ℕ) → redone reader test at text ≡ None → (next : State) → ¬ (IsRedone wording takes at text next)
  none_there at text none next is = let some : Some next ≡ None = sym (as_function at text next is) ∙ none in cc

  pub none_here : (at : State) (text : List ℕ) → ((next : State) → ¬ (IsRedone wording takes at text next)) → redone reader test at text ≡ None
  none_here at text none = none_made at text (redone reader test at text) refl none
