-- Names as they are printed, and refusals that name constraints, are plain.
use Rattle.std.proofs.Common.{◌≡◌, ℕ, true, false, [], ◌∷◌, ◌++◌, codes, refl, ap, ◌∙◌, arith}
use Rattle.std.specs.Prelude.{◌==◌, not}
use Rattle.std.specs.Fmt.{decimal}
use Rattle.std.proofs.lemmas.Bool.{and_from, and_parts, cond_both}
use Rattle.std.specs.List.{list_all}
use Rattle.hs_entries.specs.Parts.{lacks}
use Rattle.hs_machine.specs.Acknowledged.{is_digit}
use Rattle.hs_machine.proofs.Acknowledged.{all_lack, decimal_lacks, last_alone}
use Rattle.hs_nametext.specs.Names.{is_capital, is_in_word, is_plain, is_word, name_text}
use Rattle.hs_syntax.specs.Reserved.{is_reserved}
use Rattle.hs_schema.specs.Catalogue.{Text}
use Rattle.hs_sentences.specs.declared.violation.Violation.{Violation}
use Rattle.hs_sentences.specs.declared.violation.Violation.TheVariants as is
use Rattle.hs_values.specs.declared.fault.EvalFault.{EvalFault}
use Rattle.hs_values.specs.declared.fault.EvalFault.TheVariants as fault
use Rattle.hs_valuetext.specs.Quotes.{doubled, quoted}
use Rattle.hs_language.specs.Words.{count_words, fault_words, long_row_words, violation_words}
use Rattle.hs_plainwords.specs.Plain.{IsPlainReason, IsPlainText}
use Rattle.hs_plainwords.proofs.Bytes.{begins_digit}
use Rattle.hs_plainwords.proofs.Silent.{Silent, led, plain, unnumbered}
use Rattle.hs_plainsql.proofs.Bytes.{closed}
use Rattle.hs_plainsql.proofs.Catalogues.{name_in}
use Rattle.hs_plainsql.proofs.Values.{quoted_lacks}

-- ---- names

no_digit : (b : ℕ) → is_capital b ≡ true → is_digit b ≡ false
no_digit b capital = grind (arith, capital)

in_word : (b : ℕ) → is_capital b ≡ true → is_in_word b ≡ true
in_word b capital = grind (arith, capital)

word_silent : (name : Text) → is_word name ≡ true → Silent name
word_silent [] is = absurd cc
word_silent (b ∷ bytes) is =
    let parts = and_parts (is_capital b) (list_all is_in_word bytes) is in
    let all : list_all is_in_word (b ∷ bytes) ≡ true = and_from _ _ (in_word b parts.0) parts.1 in
    unnumbered (b ∷ bytes) (all_lack is_in_word 10 refl (b ∷ bytes) all) (ap begins_digit (last_alone (b ∷ bytes) (all_lack is_in_word 32 refl (b ∷ bytes) all)) ∙ no_digit b parts.0)

pub name_silent : (name : Text) → lacks 10 name ≡ true → Silent (name_text name)
name_silent name single =
    cond_both (is_plain name) name (quoted 34 name) Silent (λ is. word_silent name (and_parts (is_word name) (not (is_reserved name)) is).0)
    (λ _. closed (34 ∷ doubled 34 name) 34 (quoted_lacks 34 name refl single) refl refl)

-- ---- refusals

pub violation_plain : (violation : Violation) → lacks 10 (name_in violation) ≡ true → IsPlainReason (violation_words violation)
violation_plain (is.Null name) single = plain _ (led (codes "refused null") (name_text name) refl (name_silent name single))
violation_plain (is.Check name) single = plain _ (led (codes "refused check") (name_text name) refl (name_silent name single))
violation_plain (is.Unique name) single = plain _ (led (codes "refused unique") (name_text name) refl (name_silent name single))
violation_plain (is.Parent name) single = plain _ (led (codes "refused parent") (name_text name) refl (name_silent name single))
violation_plain (is.Child name) single = plain _ (led (codes "refused child") (name_text name) refl (name_silent name single))

pub fault_plain : (f : EvalFault) → IsPlainReason (fault_words f)
fault_plain fault.DivisionByZero = plain _ (unnumbered (codes "refused division by zero") refl refl)
fault_plain fault.Range = plain _ (unnumbered (codes "refused range") refl refl)
fault_plain fault.TooLong = plain _ (unnumbered (codes "refused too long value") refl refl)
fault_plain fault.BadDate = plain _ (unnumbered (codes "refused bad date") refl refl)
fault_plain fault.MoreThanOne = plain _ (unnumbered (codes "refused more than one row") refl refl)
fault_plain fault.NoMemory = plain _ (unnumbered (codes "refused memory") refl refl)

pub long_row_plain : IsPlainReason long_row_words
long_row_plain = plain _ (unnumbered (codes "refused limit row") refl refl)

pub savepoint_plain : (name : Text) → lacks 10 name ≡ true → IsPlainReason (codes "no savepoint " ++ name_text name)
savepoint_plain name single = plain _ (led (codes "refused no savepoint") (name_text name) refl (name_silent name single))

-- ---- replies

pub count_plain : (n : ℕ) → IsPlainText (count_words n)
count_plain n = cond_both (n == 1) (codes "ok 1 row") (codes "ok " ++ decimal n ++ codes " rows") IsPlainText (λ _. plain _ (unnumbered (codes "ok 1 row") refl refl))
    (λ _. plain _ (led (codes "ok " ++ decimal n) (codes "rows") (decimal_lacks 10 refl n) (unnumbered (codes "rows") refl refl)))
