-- Lines of rows and their parts.
use Rattle.std.proofs.Common.{◌≡◌, ◌≢◌, ℕ, false, List, [], ◌∷◌, ◌++◌, Option, Some, None, Result, Ok, Err, refl, sym, ap, subst, ◌∙◌, append-nil, arith}
use Rattle.std.specs.Prelude.{IfOk, codes, decimal}
use Rattle.std.proofs.lemmas.Bool.{eqb-false}
use Rattle.hs_base.specs.declared.numbers.RowNo.{RowNo}
use Rattle.hs_plan.specs.declared.change.Change.{Change}
use Rattle.hs_plan.specs.declared.change.Change.TheVariants as c
use Rattle.hs_plan.specs.declared.definition.Column.{Column}
use Rattle.hs_schema.specs.declared.table.Table.{Table}
use Rattle.hs_schema.specs.Catalogue.{Things, table_named}
use Rattle.hs_values.specs.declared.value.Value.{Value}
use Rattle.hs_valuetext.specs.Finding.{Knows}
use Rattle.hs_valuetext.proofs.Bits.{known_alike}
use Rattle.hs_valuetext.proofs.NumberLemmas.{same_front}
use Rattle.hs_valuetext.proofs.TextLemmas.{Alone}
use Rattle.hs_nametext.specs.Names.{name_text, goes_on, IsNameAt}
use Rattle.hs_rowtext.specs.declared.verb.Verb.{Verb}
use Rattle.hs_rowtext.specs.declared.verb.Verb.TheVariants as v
use Rattle.hs_rowtext.specs.Numbers.{IsNumberAt}
use Rattle.hs_rowtext.specs.Rows.{row_text, IsRowText}
use Rattle.hs_rowtext.specs.Lines.{values_part, number_part, numbered_part, row_line, IsChangeOf, IsRowLine, IsKeptLine, IsTableAt, IsNumberPart, IsLastNumber, IsValuesPart, IsNumberedPart, verb_text, IsVerbAt, IsBehind}

-- what is known by one relation is known by another that holds alike
pub known_ok : {X V E : Type 0} (view : X → V) (P Q : V → Type 0) → ((x : V) → P x → Q x) → ((x : V) → Q x → P x) → (r : Result (Option X) E) → IfOk r (λ found. Knows view P found) → IfOk r (λ found. Knows view Q found)
known_ok view P Q to from (Ok found) h = known_alike view P Q to from found h
known_ok view P Q to from (Err e) h = tt

-- ---- ` ROW r`

as_number : (text inner : List ℕ) → text ≡ codes " ROW " ++ inner → (number : RowNo) (rest : List ℕ) → IsNumberPart text number rest → IsNumberAt inner number.0 rest
as_number text inner e number rest h = record {
  lawful = h.numbered.lawful;
  written = same_front (codes " ROW ") inner (decimal number.0 ++ rest) (sym e ∙ h.written);
  ends = h.ends;
}

pub number_part_found : (text inner rest : List ℕ) (n : ℕ) (number : RowNo) → text ≡ codes " ROW " ++ inner → Alone (IsNumberAt inner) n rest → (n ≡ 0 → ⊥) → number.0 ≡ n → Alone (IsNumberPart text) number rest
number_part_found text inner rest n number e found some is = (
  record {
    numbered = record { first = omega (arith, some, is); lawful = omega (arith, found.0.lawful, is) };
    written = e ∙ ap (λ (xs : List ℕ). codes " ROW " ++ xs) (found.0.written ∙ ap (λ (m : ℕ). decimal m ++ rest) (sym is));
    ends = found.0.ends;
  },
  λ y others h.
      let same = found.1 y.0 others (as_number text inner e y others h) in
      let number_is : y.0 ≡ number.0 = same.0 ∙ sym is in
      (ap (λ (m : ℕ). let made : RowNo = record { 0 = m } in made) number_is, same.1),
)

pub number_part_none : (text inner : List ℕ) → text ≡ codes " ROW " ++ inner → ((n : ℕ) (rest : List ℕ) → ¬ (IsNumberAt inner n rest)) → (number : RowNo) (rest : List ℕ) → ¬ (IsNumberPart text number rest)
number_part_none text inner e none number rest h = none number.0 rest (as_number text inner e number rest h)

pub number_part_zero : (text inner rest : List ℕ) (n : ℕ) → text ≡ codes " ROW " ++ inner → Alone (IsNumberAt inner) n rest → n ≡ 0 → (number : RowNo) (others : List ℕ) → ¬ (IsNumberPart text number others)
number_part_zero text inner rest n e found zero number others h =
    let same = found.1 number.0 others (as_number text inner e number others h) in
    let first = h.numbered.first in
    absurd (omega (arith, same.0, zero, first))

pub number_part_unbegun : (text : List ℕ) → ((inner : List ℕ) → text ≢ codes " ROW " ++ inner) → (number : RowNo) (rest : List ℕ) → ¬ (IsNumberPart text number rest)
number_part_unbegun text other number rest h = other (decimal number.0 ++ rest) h.written

-- at the end of a line

as_part : (text : List ℕ) (number : RowNo) → IsLastNumber text number → IsNumberPart text number []
as_part text number h = record { numbered = h.numbered; written = h.written ∙ sym (append-nil (number_part number)); ends = refl }

pub last_found : (text rest : List ℕ) (number : RowNo) → Alone (IsNumberPart text) number rest → rest ≡ [] → IsLastNumber text number × ((y : RowNo) → IsLastNumber text y → y ≡ number)
last_found text rest number found none = (
  record { numbered = found.0.numbered; written = found.0.written ∙ ap (λ (xs : List ℕ). number_part number ++ xs) none ∙ append-nil (number_part number) },
  λ y h. (found.1 y [] (as_part text y h)).0,
)

pub last_more : (text rest : List ℕ) (number : RowNo) → Alone (IsNumberPart text) number rest → rest ≢ [] → (y : RowNo) → ¬ (IsLastNumber text y)
last_more text rest number found some y h = some (sym (found.1 y [] (as_part text y h)).1)

pub last_none : (text : List ℕ) → ((number : RowNo) (rest : List ℕ) → ¬ (IsNumberPart text number rest)) → (y : RowNo) → ¬ (IsLastNumber text y)
last_none text none y h = none y [] (as_part text y h)

-- ---- ` VALUES(..)`

pub values_from : (columns : List Column) (text inner : List ℕ) → text ≡ codes " VALUES(" ++ inner → (row : List Value) → IsRowText columns inner row → IsValuesPart columns text row
values_from columns text inner e row h = record { of = h.of; written = e ∙ ap (λ (xs : List ℕ). codes " VALUES(" ++ xs) h.written }

pub from_values : (columns : List Column) (text inner : List ℕ) → text ≡ codes " VALUES(" ++ inner → (row : List Value) → IsValuesPart columns text row → IsRowText columns inner row
from_values columns text inner e row h = record { of = h.of; written = same_front (codes " VALUES(") inner (row_text row ++ codes ")") (sym e ∙ h.written) }

pub values_none : (columns : List Column) (text : List ℕ) → ((inner : List ℕ) → text ≢ codes " VALUES(" ++ inner) → (row : List Value) → ¬ (IsValuesPart columns text row)
values_none columns text other row h = other (row_text row ++ codes ")") h.written

-- ---- ` ROW r VALUES(..)`

as_numbered : (columns : List Column) (text : List ℕ) (kept : RowNo × List Value) → IsNumberedPart columns text kept → IsNumberPart text kept.0 (values_part kept.1)
as_numbered columns text kept h = record { numbered = h.numbered; written = h.written; ends = refl }

pub numbered_found : (columns : List Column) (text rest : List ℕ) (number : RowNo) (row : List Value) → Alone (IsNumberPart text) number rest → IsValuesPart columns rest row × ((r : List Value) → IsValuesPart columns rest r → r ≡ row) → IsNumberedPart columns text (number, row) × ((p : RowNo × List Value) → IsNumberedPart columns text p → p ≡ (number, row))
numbered_found columns text rest number row found known = (
  record { numbered = found.0.numbered; of = known.0.of; written = found.0.written ∙ ap (λ (xs : List ℕ). number_part number ++ xs) known.0.written },
  λ p h.
      let same = found.1 p.0 (values_part p.1) (as_numbered columns text p h) in
      let row_is = known.1 p.1 (record { of = h.of; written = sym same.1 }) in
      λ i. (same.0 i, row_is i),
)

pub numbered_valueless : (columns : List Column) (text rest : List ℕ) (number : RowNo) → Alone (IsNumberPart text) number rest → ((r : List Value) → ¬ (IsValuesPart columns rest r)) → (p : RowNo × List Value) → ¬ (IsNumberedPart columns text p)
numbered_valueless columns text rest number found none p h =
    let same = found.1 p.0 (values_part p.1) (as_numbered columns text p h) in
    none p.1 (record { of = h.of; written = sym same.1 })

pub numbered_none : (columns : List Column) (text : List ℕ) → ((number : RowNo) (rest : List ℕ) → ¬ (IsNumberPart text number rest)) → (p : RowNo × List Value) → ¬ (IsNumberedPart columns text p)
numbered_none columns text none p h = none p.0 (values_part p.1) (as_numbered columns text p h)

-- ---- verbs

first_same : (x y : ℕ) (xs ys : List ℕ) → x ∷ xs ≡ y ∷ ys → x ≡ y
first_same x y xs ys e = cc

pub verb_alone : (line : List ℕ) (verb : Verb) (rest : List ℕ) → line ≡ verb_text verb ++ rest → Alone (IsVerbAt line) verb rest
verb_alone line verb rest e = (e, λ other others h. verb_same verb other rest others (sym e ∙ h))
  where
    verb_same : (verb other : Verb) (rest others : List ℕ) → verb_text verb ++ rest ≡ verb_text other ++ others → (other ≡ verb) × (others ≡ rest)
    verb_same v.Insert v.Insert rest others h = (refl, sym (same_front (codes "INSERT INTO ") rest others h))
    verb_same v.Update v.Update rest others h = (refl, sym (same_front (codes "UPDATE ") rest others h))
    verb_same v.Delete v.Delete rest others h = (refl, sym (same_front (codes "DELETE FROM ") rest others h))
    verb_same v.Insert v.Update rest others h = absurd (eqb-false 73 85 refl (first_same 73 85 _ _ h))
    verb_same v.Insert v.Delete rest others h = absurd (eqb-false 73 68 refl (first_same 73 68 _ _ h))
    verb_same v.Update v.Insert rest others h = absurd (eqb-false 85 73 refl (first_same 85 73 _ _ h))
    verb_same v.Update v.Delete rest others h = absurd (eqb-false 85 68 refl (first_same 85 68 _ _ h))
    verb_same v.Delete v.Insert rest others h = absurd (eqb-false 68 73 refl (first_same 68 73 _ _ h))
    verb_same v.Delete v.Update rest others h = absurd (eqb-false 68 85 refl (first_same 68 85 _ _ h))

pub verb_none : (line : List ℕ) → ((rest : List ℕ) → line ≢ codes "INSERT INTO " ++ rest) → ((rest : List ℕ) → line ≢ codes "UPDATE " ++ rest) → ((rest : List ℕ) → line ≢ codes "DELETE FROM " ++ rest) → (verb : Verb) (rest : List ℕ) → ¬ (IsVerbAt line verb rest)
verb_none line insert update delete v.Insert rest h = insert rest h
verb_none line insert update delete v.Update rest h = update rest h
verb_none line insert update delete v.Delete rest h = delete rest h

-- ---- tables

pub table_found : (things : Things) (text name rest : List ℕ) (table : Table) (o : Option Table) → Alone (IsNameAt text) name rest → o ≡ table_named things name → o ≡ Some table → Alone (IsTableAt things text) table rest
table_found things text name rest table o found looked is = (
  record { name = name; named = sym looked ∙ is; at = found.0 },
  λ other others h.
      let same = found.1 h.name others h.at in
      let both : Some other ≡ Some table = sym h.named ∙ ap (table_named things) same.0 ∙ sym looked ∙ is in
      (cc, same.1),
)

pub table_unknown : (things : Things) (text name rest : List ℕ) (o : Option Table) → Alone (IsNameAt text) name rest → o ≡ table_named things name → o ≡ None → (table : Table) (others : List ℕ) → ¬ (IsTableAt things text table others)
table_unknown things text name rest o found looked is table others h =
    let same = found.1 h.name others h.at in
    let both : Some table ≡ None = sym h.named ∙ ap (table_named things) same.0 ∙ sym looked ∙ is in
    absurd cc

pub table_unnamed : (things : Things) (text : List ℕ) → ((name rest : List ℕ) → ¬ (IsNameAt text name rest)) → (table : Table) (others : List ℕ) → ¬ (IsTableAt things text table others)
table_unnamed things text none table others h = none h.name others h.at

-- ---- what is behind the table's name

pub insert_from : (table : Table) (text : List ℕ) (row : List Value) → IsValuesPart table.columns text row × ((r : List Value) → IsValuesPart table.columns text r → r ≡ row) → IsBehind table v.Insert text (c.Insert table.number row) × ((change : Change) → IsBehind table v.Insert text change → change ≡ c.Insert table.number row)
insert_from table text row known = ((refl, known.0), only)
  where
    only : (change : Change) → IsBehind table v.Insert text change → change ≡ c.Insert table.number row
    only (c.Insert number r) h = λ i. c.Insert (h.0 i) (known.1 r h.1 i)
    only (c.Put number at r) h = absurd h
    only (c.Delete number at) h = absurd h
    only (c.Define definition) h = absurd h

pub insert_none : (table : Table) (text : List ℕ) → ((r : List Value) → ¬ (IsValuesPart table.columns text r)) → (change : Change) → ¬ (IsBehind table v.Insert text change)
insert_none table text none (c.Insert number r) h = none r h.1
insert_none table text none (c.Put number at r) h = h
insert_none table text none (c.Delete number at) h = h
insert_none table text none (c.Define definition) h = h

pub update_from : (table : Table) (text : List ℕ) (number : RowNo) (row : List Value) → IsNumberedPart table.columns text (number, row) × ((p : RowNo × List Value) → IsNumberedPart table.columns text p → p ≡ (number, row)) → IsBehind table v.Update text (c.Put table.number number row) × ((change : Change) → IsBehind table v.Update text change → change ≡ c.Put table.number number row)
update_from table text number row known = ((refl, known.0), only)
  where
    only : (change : Change) → IsBehind table v.Update text change → change ≡ c.Put table.number number row
    only (c.Insert n r) h = absurd h
    only (c.Put n at r) h = let same = known.1 (at, r) h.1 in λ i. c.Put (h.0 i) (same i).0 (same i).1
    only (c.Delete n at) h = absurd h
    only (c.Define definition) h = absurd h

pub update_none : (table : Table) (text : List ℕ) → ((p : RowNo × List Value) → ¬ (IsNumberedPart table.columns text p)) → (change : Change) → ¬ (IsBehind table v.Update text change)
update_none table text none (c.Insert number r) h = h
update_none table text none (c.Put number at r) h = none (at, r) h.1
update_none table text none (c.Delete number at) h = h
update_none table text none (c.Define definition) h = h

pub delete_from : (table : Table) (text : List ℕ) (number : RowNo) → IsLastNumber text number × ((y : RowNo) → IsLastNumber text y → y ≡ number) → IsBehind table v.Delete text (c.Delete table.number number) × ((change : Change) → IsBehind table v.Delete text change → change ≡ c.Delete table.number number)
delete_from table text number known = ((refl, known.0), only)
  where
    only : (change : Change) → IsBehind table v.Delete text change → change ≡ c.Delete table.number number
    only (c.Insert n r) h = absurd h
    only (c.Put n at r) h = absurd h
    only (c.Delete n at) h = λ i. c.Delete (h.0 i) (known.1 at h.1 i)
    only (c.Define definition) h = absurd h

pub delete_none : (table : Table) (text : List ℕ) → ((y : RowNo) → ¬ (IsLastNumber text y)) → (change : Change) → ¬ (IsBehind table v.Delete text change)
delete_none table text none (c.Insert number r) h = h
delete_none table text none (c.Put number at r) h = h
delete_none table text none (c.Delete number at) h = none at h.1
delete_none table text none (c.Define definition) h = h

-- ---- whole lines

behind_line : (table : Table) (verb : Verb) (text : List ℕ) (change : Change) (written line : List ℕ) → IsBehind table verb text change → line ≡ verb_text verb ++ (written ++ text) → IsChangeOf table change × (line ≡ row_line written change)
behind_line table v.Insert text (c.Insert n row) written line h e = ((h.0, h.1.of), e ∙ ap (λ (xs : List ℕ). codes "INSERT INTO " ++ (written ++ xs)) h.1.written)
behind_line table v.Update text (c.Put n at row) written line h e = ((h.0, h.1.numbered, h.1.of), e ∙ ap (λ (xs : List ℕ). codes "UPDATE " ++ (written ++ xs)) h.1.written)
behind_line table v.Delete text (c.Delete n at) written line h e = ((h.0, h.1.numbered), e ∙ ap (λ (xs : List ℕ). codes "DELETE FROM " ++ (written ++ xs)) h.1.written)
behind_line table v.Insert text (c.Put n at row) written line h e = absurd h
behind_line table v.Insert text (c.Delete n at) written line h e = absurd h
behind_line table v.Insert text (c.Define d) written line h e = absurd h
behind_line table v.Update text (c.Insert n row) written line h e = absurd h
behind_line table v.Update text (c.Delete n at) written line h e = absurd h
behind_line table v.Update text (c.Define d) written line h e = absurd h
behind_line table v.Delete text (c.Insert n row) written line h e = absurd h
behind_line table v.Delete text (c.Put n at row) written line h e = absurd h
behind_line table v.Delete text (c.Define d) written line h e = absurd h

record Parts (table : Table) (change : Change) (written line : List ℕ) : Type 0 where
  verb : Verb
  text : List ℕ
  is : line ≡ verb_text verb ++ (written ++ text)
  behind : IsBehind table verb text change
  ends : goes_on text ≡ false

line_behind : (table : Table) (change : Change) (written line : List ℕ) → IsChangeOf table change → line ≡ row_line written change → Parts table change written line
line_behind table (c.Insert n row) written line h e = record { verb = v.Insert; text = values_part row; is = e; behind = (h.0, record { of = h.1; written = refl }); ends = refl }
line_behind table (c.Put n at row) written line h e = record { verb = v.Update; text = numbered_part at row; is = e; behind = (h.0, record { numbered = h.1; of = h.2; written = refl }); ends = refl }
line_behind table (c.Delete n at) written line h e = record { verb = v.Delete; text = number_part at; is = e; behind = (h.0, record { numbered = h.1; written = refl }); ends = refl }
line_behind table (c.Define d) written line h e = absurd h

pub line_from : (things : Things) (line : List ℕ) (verb : Verb) (named rest : List ℕ) (table : Table) → Alone (IsVerbAt line) verb named → Alone (IsTableAt things named) table rest → (change : Change) → IsBehind table verb rest change → IsRowLine things line change
line_from things line verb named rest table first second change h =
    let at = second.0.at in
    let made = behind_line table verb rest change (name_text second.0.name) line h (first.0 ∙ ap (λ (xs : List ℕ). verb_text verb ++ xs) at.written) in
    record { name = second.0.name; table = table; names = record { lawful = at.lawful; utf8 = at.utf8; named = second.0.named }; of = made.0; written = made.1 }

pub from_line : (things : Things) (line : List ℕ) (verb : Verb) (named rest : List ℕ) (table : Table) → Alone (IsVerbAt line) verb named → Alone (IsTableAt things named) table rest → (change : Change) → IsRowLine things line change → IsBehind table verb rest change
from_line things line verb named rest table first second change h =
    let parts = line_behind h.table change (name_text h.name) line h.of h.written in
    let begun = first.1 parts.verb (name_text h.name ++ parts.text) parts.is in
    let at : IsTableAt things named h.table parts.text = record { name = h.name; named = h.names.named; at = record { lawful = h.names.lawful; utf8 = h.names.utf8; written = sym begun.1; ends = parts.ends } } in
    let same = second.1 h.table parts.text at in
    let there = parts.behind in
    let by_verb : IsBehind h.table verb parts.text change = subst (λ (x : Verb). IsBehind h.table x parts.text change) begun.0 there in
    let by_table : IsBehind table verb parts.text change = subst (λ (x : Table). IsBehind x verb parts.text change) same.0 by_verb in
    subst (λ (x : List ℕ). IsBehind table verb x change) same.1 by_table

pub line_verbless : (things : Things) (line : List ℕ) → ((verb : Verb) (rest : List ℕ) → ¬ (IsVerbAt line verb rest)) → (change : Change) → ¬ (IsRowLine things line change)
line_verbless things line none change h =
    let parts = line_behind h.table change (name_text h.name) line h.of h.written in
    none parts.verb (name_text h.name ++ parts.text) parts.is

pub line_tableless : (things : Things) (line : List ℕ) (verb : Verb) (named : List ℕ) → Alone (IsVerbAt line) verb named → ((table : Table) (rest : List ℕ) → ¬ (IsTableAt things named table rest)) → (change : Change) → ¬ (IsRowLine things line change)
line_tableless things line verb named first none change h =
    let parts = line_behind h.table change (name_text h.name) line h.of h.written in
    let begun = first.1 parts.verb (name_text h.name ++ parts.text) parts.is in
    none h.table parts.text (record { name = h.name; named = h.names.named; at = record { lawful = h.names.lawful; utf8 = h.names.utf8; written = sym begun.1; ends = parts.ends } })

-- ---- lines of rows that are kept

pub kept_from : (written : List ℕ) (columns : List Column) (line named rest : List ℕ) → line ≡ codes "INSERT INTO " ++ named → named ≡ written ++ rest → (kept : RowNo × List Value) → IsNumberedPart columns rest kept → IsKeptLine written columns line kept
kept_from written columns line named rest first second kept h = record {
  numbered = h.numbered;
  of = h.of;
  is = first ∙ ap (λ (xs : List ℕ). codes "INSERT INTO " ++ xs) (second ∙ ap (λ (xs : List ℕ). written ++ xs) h.written);
}

pub from_kept : (written : List ℕ) (columns : List Column) (line named rest : List ℕ) → line ≡ codes "INSERT INTO " ++ named → named ≡ written ++ rest → (kept : RowNo × List Value) → IsKeptLine written columns line kept → IsNumberedPart columns rest kept
from_kept written columns line named rest first second kept h = record {
  numbered = h.numbered;
  of = h.of;
  written = same_front written rest (numbered_part kept.0 kept.1) (sym second ∙ same_front (codes "INSERT INTO ") named (written ++ numbered_part kept.0 kept.1) (sym first ∙ h.is));
}

pub kept_unbegun : (written : List ℕ) (columns : List Column) (line : List ℕ) → ((rest : List ℕ) → line ≢ codes "INSERT INTO " ++ rest) → (kept : RowNo × List Value) → ¬ (IsKeptLine written columns line kept)
kept_unbegun written columns line other kept h = other (written ++ numbered_part kept.0 kept.1) h.is

pub kept_other : (written : List ℕ) (columns : List Column) (line named : List ℕ) → line ≡ codes "INSERT INTO " ++ named → ((rest : List ℕ) → named ≢ written ++ rest) → (kept : RowNo × List Value) → ¬ (IsKeptLine written columns line kept)
kept_other written columns line named first other kept h = other (numbered_part kept.0 kept.1) (same_front (codes "INSERT INTO ") named (written ++ numbered_part kept.0 kept.1) (sym first ∙ h.is))
