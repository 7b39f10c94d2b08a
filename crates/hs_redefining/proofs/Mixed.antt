-- Rows of a table that are changed one after another, by their numbers, and those of one table among all.
use Rattle.std.proofs.Common.{◌≡◌, inl, inr, ℕ, suc, ◌==◌, ◌≤◌, false, cond, ltb, List, [], ◌∷◌, Option, Some, None, refl, sym, ap, subst, ◌∙◌, arith, if◌then◌else◌}
use Rattle.std.specs.FinMap.{empty, get, get-empty}
use Rattle.std.specs.Ordering.{nat_cmp}
use Rattle.std.proofs.lemmas.Bool.{eq-eqb}
use Rattle.std.proofs.lemmas.Bool.Decides.{eqb_tells, nat_tests}
use Rattle.hs_base.specs.declared.numbers.RowNo.{RowNo}
use Rattle.hs_values.specs.declared.value.Value.{Value}
use Rattle.hs_index.specs.Table.{Rows}
use Rattle.hs_changes.specs.Settings.{Maps, set_row, with_values}
use Rattle.hs_turns.specs.Definitions.{lengthened, with_rows}
use Rattle.hs_turns.proofs.Lengthened.{get-lengthened}
use Rattle.hs_rows.specs.Numbers.{next_in, start}
use Rattle.hs_redefining.proofs.ByNumber.{Agree, AreMixed, all_mixed, last_tells, next_tells, one_above}
use Rattle.hs_redefining.specs.Longer.{AreLonger, AreWithin, longer}

-- a row from the number on is as it was
from_there : (target base held : Rows) (n k : ℕ) → n ≤ k → AreMixed target base n held → get held k ≡ get base k
from_there target base held n k from mixed = let high : ltb k n ≡ false = grind (arith, nat_tests, from) in mixed k ∙ ap (λ b. cond b (get target k) (get base k)) high

-- ---- rows that are copied

module _ (more : List Value) (source target base : Rows) (grown : AreLonger more source target) (within : AreWithin base target) where
  -- a row that isn't there has no copy
  copies_agree : (n : ℕ) → Agree source target base n
  copies_agree n k from none = let gone : get target k ≡ None = grown k ∙ ap (longer more) none in gone ∙ sym (within k gone)

  pub copied_on : (held : Rows) (last : Option RowNo) (r : RowNo) → Some r ≡ next_in source last → AreMixed target base (start last) held → AreMixed target base (suc r.0) (with_values held r.0 (longer more (get source r.0)))
  copied_on held last r next mixed =
      subst (λ (values : Option (List Value)). AreMixed target base (suc r.0) (with_values held r.0 values)) (grown r.0)
      (one_above source target base held (start last) r.0 (next_tells source last r next) (copies_agree (start last)) mixed)

  pub copied_all : (held : Rows) (last : Option RowNo) → None ≡ next_in source last → AreMixed target base (start last) held → held ≡ target
  copied_all held last none mixed = all_mixed source target base held (start last) (last_tells source last none) (copies_agree (start last)) mixed

-- ---- rows that are changed where they are

-- their agreement
held_agree : (target base held : Rows) (n : ℕ) → AreWithin target base → AreMixed target base n held → Agree held target base n
held_agree target base held n within mixed k from none =
    let gone : get base k ≡ None = sym (from_there target base held n k from mixed) ∙ none in
    within k gone ∙ sym gone

pub changed_all : (target base held : Rows) (last : Option RowNo) → AreWithin target base → None ≡ next_in held last → AreMixed target base (start last) held → held ≡ target
changed_all target base held last within none mixed = all_mixed held target base held (start last) (last_tells held last none) (held_agree target base held (start last) within mixed) mixed

changed_on : (target base held : Rows) (last : Option RowNo) (r : RowNo) → AreWithin target base → Some r ≡ next_in held last → AreMixed target base (start last) held → AreMixed target base (suc r.0) (with_values held r.0 (get target r.0))
changed_on target base held last r within next mixed = one_above held target base held (start last) r.0 (next_tells held last r next) (held_agree target base held (start last) within mixed) mixed

-- ---- rows that go

pub none_within : (base : Rows) → AreWithin empty base
none_within base k none = get-empty nat_cmp k

pub cleared_on : (base held : Rows) (last : Option RowNo) (r : RowNo) → Some r ≡ next_in held last → AreMixed empty base (start last) held → AreMixed empty base (suc r.0) (with_values held r.0 None)
cleared_on base held last r next mixed =
    subst (λ (values : Option (List Value)). AreMixed empty base (suc r.0) (with_values held r.0 values)) (get-empty nat_cmp r.0) (changed_on empty base held last r (none_within base) next mixed)

-- ---- rows that get a value

pub longer_rows : (value : Value) (rows : Rows) → AreLonger (value ∷ []) rows (lengthened value rows)
longer_rows value rows k = get-lengthened value rows k

pub longer_within : (value : Value) (base : Rows) → AreWithin (lengthened value base) base
longer_within value base k none = get-lengthened value base k ∙ ap (longer (value ∷ [])) none

pub lengthened_on : (value : Value) (base held : Rows) (last : Option RowNo) (r : RowNo) → Some r ≡ next_in held last → AreMixed (lengthened value base) base (start last) held
    → AreMixed (lengthened value base) base (suc r.0) (with_values held r.0 (longer (value ∷ []) (get held r.0)))
lengthened_on value base held last r next mixed =
    let its : get held r.0 ≡ get base r.0 = from_there (lengthened value base) base held (start last) r.0 (next_tells held last r next).above mixed in
    subst (λ (values : Option (List Value)). AreMixed (lengthened value base) base (suc r.0) (with_values held r.0 values)) (longer_rows value base r.0 ∙ ap (longer (value ∷ [])) (sym its))
    (changed_on (lengthened value base) base held last r (longer_within value base) next mixed)

-- ---- one table among all

module _ (table row : ℕ) (values : Option (List Value)) (old new : Maps) (made : (t : ℕ) → new t ≡ set_row old (record { table = table; row = row; values = values }) t) where
  pub set_here : new table ≡ with_values (old table) row values
  set_here = made table ∙ ap (λ b. if b then with_values (old table) row values else old table) (eq-eqb table table refl)

  pub set_elsewhere : (t : ℕ) → (t == table) ≡ false → new t ≡ old t
  set_elsewhere t other = made t ∙ ap (λ b. if b then with_values (old t) row values else old t) other

pub table_set : (table : ℕ) (rows : Rows) (old new : Maps) → new table ≡ rows → ((t : ℕ) → (t == table) ≡ false → new t ≡ old t) → (t : ℕ) → new t ≡ with_rows table rows old t
table_set table rows old new here others t = elim (eqb_tells t table) [
  | inl both ↦ ap new both.1 ∙ here ∙ sym (ap (λ b. if b then rows else old t) both.0)
  | inr other ↦ others t other.0 ∙ sym (ap (λ b. if b then rows else old t) other.0)
]
