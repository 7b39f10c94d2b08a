-- What answers the items of a run.
use Rattle.std.proofs.Common.{◌≡◌, ℕ, ◌+◌, Bool, true, cond, List, [], ◌∷◌, refl, sym, ap₂, ◌∙◌, arith}
use Rattle.std.specs.Prelude.{count_by}
use Rattle.std.proofs.lemmas.List.Sums.{sum_by-cons}
use Rattle.hs_entries.specs.declared.item.Item.{Item}
use Rattle.hs_schema.specs.Catalogue.{Things}
use Rattle.hs_turns.specs.Database.{Database}
use Rattle.hs_turns.specs.Dialect.{Dialect}
use Rattle.hs_turns.specs.Each.{Each}
use Rattle.hs_turns.specs.Laws.{is_item}
use Rattle.hs_turns.specs.Lines.{Line, replies_among, replies_to}
use Rattle.hs_turns.specs.Machine.{start}
use Rattle.hs_turns.specs.Turns.{after, lines, weight}
use Rattle.hs_turns.proofs.Answered.{nothing_owed, run_good}
use Rattle.hs_turns.proofs.Ends.{over}
use Rattle.hs_turns.proofs.Owed.{run_told}
use Rattle.hs_plainwords.specs.Answers.{answers_among, answers_to}
use Rattle.hs_plainwords.specs.Dialects.{IsPlainDialect}
use Rattle.hs_plainwords.specs.Plain.{IsPlainLine, are_called}
use Rattle.hs_plainwords.proofs.Turns.{all_plain}

pub as_many : (ls : List Line) (n : ℕ) → Each IsPlainLine ls → answers_among n ls ≡ replies_among n ls
as_many [] n all = refl
as_many (l ∷ ls) n all =
    sum_by-cons (λ x. cond (answers_to n x) 1 0) l ls
    ∙ ap₂ (λ (b : Bool) (k : ℕ). cond b 1 0 + k) (all.0.answers n) (as_many ls n all.1)
    ∙ sym (sum_by-cons (λ x. cond (replies_to n x) 1 0) l ls)

module _ (is_named : Things → Bool) (d : Dialect) (its : IsPlainDialect is_named d) (opening : Database) (made : ℕ) where
  replied : (items : List Item) (n : ℕ) → replies_among n (lines d opening made (weight (start opening items)) (start opening items)) ≡ count_by (is_item n) items
  replied items n =
      let m = start opening items in
      let k = weight m in
      omega (arith, run_told d opening made n k m, nothing_owed d opening made (after d opening made k m) (run_good d opening made items k) (over d opening made k m (omega arith)) n)

  pub all_answered : is_named opening.things ≡ true → (items : List Item) (n : ℕ) → are_called items ≡ true → answers_among n (lines d opening made (weight (start opening items)) (start opening items)) ≡ count_by (is_item n) items
  all_answered named items n called =
      let m = start opening items in as_many (lines d opening made (weight m) m) n (all_plain is_named d its opening made named items (weight m) called) ∙ replied items n
