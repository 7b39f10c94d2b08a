-- The rows of answers are plain.
use Rattle.std.proofs.Common.{◌≡◌, inl, inr, true, List, [], ◌∷◌, ◌++◌, map, codes, refl, sym, ap, ◌∙◌, subst, arith, append_assoc, append-nil}
use Rattle.hs_entries.specs.Parts.{lacks}
use Rattle.hs_machine.proofs.Acknowledged.{lacks-append}
use Rattle.hs_schema.specs.Catalogue.{Text}
use Rattle.hs_values.specs.declared.value.Value.{Value}
use Rattle.hs_valuetext.specs.Values.{value_text}
use Rattle.hs_rowtext.specs.Rows.{behind_comma as comma_text, others_text}
use Rattle.hs_turns.specs.Each.{Each}
use Rattle.hs_language.specs.Words.{row_words}
use Rattle.hs_plainwords.specs.Plain.{IsPlainRow}
use Rattle.hs_plainwords.proofs.Silent.{Silent, plain, unnumbered}
use Rattle.hs_plainsql.proofs.Bytes.{behind_comma, closed, second}
use Rattle.hs_plainsql.proofs.Values.{IsShown, shown}

-- a text that ends in a quote, behind another one
quoted_behind : (x text front : Text) → lacks 10 x ≡ true → lacks 10 text ≡ true → text ≡ front ++ 39 ∷ [] → Silent (x ++ text)
quoted_behind x text front before line is =
    let same : x ++ text ≡ (x ++ front) ++ 39 ∷ [] = ap (λ (l : Text). x ++ l) is ∙ sym (append_assoc x front (39 ∷ [])) in
    subst Silent (sym same) (closed (x ++ front) 39 (subst (λ (l : Text). lacks 10 l ≡ true) same (lacks-append 10 x text before line)) refl refl)

first : (text : Text) → IsShown text → Silent (codes "row " ++ text)
first text (inl word) = second (codes "row") text refl refl word.single word.space (λ e. absurd (omega arith))
first text (inr end) = quoted_behind (codes "row ") text end.front refl end.single end.is

next : (x text : Text) → lacks 10 x ≡ true → IsShown text → Silent (x ++ 44 ∷ text)
next x text before (inl word) = behind_comma x text (lacks-append 10 x (44 ∷ text) before word.single) word.space
next x text before (inr end) = quoted_behind x (44 ∷ text) (44 ∷ end.front) before end.single (ap (λ (l : Text). 44 ∷ l) end.is)

others : (x : Text) (row : List Value) → Silent x → Silent (x ++ others_text row)
others x [] s = subst Silent (sym (append-nil x)) s
others x (value ∷ row) s =
    subst Silent (append_assoc x (comma_text value) (others_text row)) (others (x ++ comma_text value) row (next x (value_text value) s.single (shown value)))

row_silent : (row : List Value) → Silent (row_words row)
row_silent [] = unnumbered (codes "row ") refl refl
row_silent (value ∷ row) = subst Silent (append_assoc (codes "row ") (value_text value) (others_text row)) (others (codes "row " ++ value_text value) row (first (value_text value) (shown value)))

pub rows_plain : (rows : List (List Value)) → Each IsPlainRow (map row_words rows)
rows_plain [] = tt
rows_plain (row ∷ rows) = (record { plain = plain (row_words row) (row_silent row); other = refl }, rows_plain rows)
