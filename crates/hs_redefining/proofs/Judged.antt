-- Why a definition is refused, by what it makes of rows.
use Rattle.std.proofs.Common.{◌≡◌, ℕ, ◌+◌, Bool, true, false, [], Option, Some, None, refl, sym, ap, subst, ◌∙◌}
use Rattle.std.specs.List.{IsDistinct}
use Rattle.std.specs.Prelude.{Result, Err}
use Rattle.std.specs.Str.{bytes_eq}
use Rattle.hs_turns.specs.Database.{Database, defined}
use Rattle.hs_turns.specs.Definitions.{rows_after}
use Rattle.hs_language.specs.Definitions.{judged, makes_long, put_by, still_referenced, unless_referenced, unless_violated, violated_by}
use Rattle.hs_language.specs.Validity.{lets_pass}
use Rattle.hs_language.specs.Words.{violation_words}
use Rattle.hs_plan.specs.declared.definition.Definition.{Definition}
use Rattle.hs_schema.specs.Catalogue.{Text, Things, after, owned, IsBound, IsNext}
use Rattle.hs_schema.specs.Whole.{IsWhole, names}
use Rattle.hs_schema.proofs.After.{whole_after}
use Rattle.hs_sentences.specs.declared.violation.Violation.{Violation}
use Rattle.hs_sentences.specs.declared.violation.Violation.TheVariants as is
use Rattle.hs_sentences.specs.Violations.{first_violated}
use Rattle.hs_redefining.specs.Effects.{IsEffect, are_long, rows_by, told_by}
use Rattle.hs_redefining.specs.Judged.{answer_by, why_by, why_rows}
use Rattle.hs_redefining.specs.declared.effect.Effect.{Effect}
use Rattle.hs_redefining.proofs.Told.{told_whole}

-- ---- what rows say

module _ (db : Database) (things behind : Things) (definition : Definition) (number : ℕ) (e : Effect) (same : db.things ≡ things) (next : db.count + 1 ≡ number) (is_after : behind ≡ after things definition number)
    (effect : IsEffect things definition number e) where
  pub behind_is : behind ≡ (defined definition db).things
  behind_is = is_after ∙ (λ i. after (sym same i) definition (sym next i))

  pub long_is : are_long e behind db.rows ≡ makes_long db definition
  long_is = ap (λ (ts : Things). are_long e ts db.rows) behind_is ∙ effect.long db same next

  pub violated_is : IsWhole db.things → IsBound things definition → IsNext things definition number → told_by e behind (first_violated lets_pass behind (λ t. []) (rows_by e db.rows)) ≡ violated_by db definition
  violated_is whole bound low =
      sym (told_whole lets_pass behind e db.rows distinct)
      ∙ (λ i. first_violated lets_pass (is_after i) (effect.put db.rows i) (effect.rows db.rows i))
      ∙ (λ i. first_violated lets_pass (after (sym same i) definition (sym next i)) (put_by (sym same i) definition db.rows) (rows_after (sym same i) definition (sym next i) db.rows))
    where
      distinct : IsDistinct bytes_eq (names (owned behind))
      distinct =
          subst (λ (ts : Things). IsDistinct bytes_eq (names (owned ts))) (sym is_after)
          (whole_after things number (subst IsWhole same whole) definition bound low).constraint_names

-- ---- the answer

by_rows : (violation : Option Violation) (long : Bool) (definition : Definition) → answer_by definition (why_by violation long) ≡ unless_violated violation long definition
by_rows (Some v) long definition = refl
by_rows None true definition = refl
by_rows None false definition = refl

pub judged_by_rows : (db : Database) (things : Things) (definition : Definition) → db.things ≡ things → None ≡ still_referenced things definition → answer_by definition (why_rows db definition) ≡ judged db definition
judged_by_rows db things definition same none =
    by_rows (violated_by db definition) (makes_long db definition) definition
    ∙ ap (λ o. unless_referenced o db definition) (none ∙ ap (λ ts. still_referenced ts definition) (sym same))

pub judged_by_key : (db : Database) (things : Things) (definition : Definition) (name : Text) → db.things ≡ things → Some name ≡ still_referenced things definition → ◌≡◌ {A = Result Definition Text} (Err (violation_words (is.Child name))) (judged db definition)
judged_by_key db things definition name same some = ap (λ o. unless_referenced o db definition) (some ∙ ap (λ ts. still_referenced ts definition) (sym same))
