-- Rows of tables that are copied, one table after another.
use Rattle.std.proofs.Common.{◌≡◌, inl, inr, ℕ, zero, suc, ◌+◌, ◌==◌, ◌<◌, ◌≤◌, Bool, true, false, ◌||◌, List, [], ◌∷◌, ◌++◌, length, get_or, take, Option, Some, None, refl, sym, ap, subst, ◌∙◌, arith, add-one, if◌then◌else◌}
use Rattle.std.specs.Cmp.{nat_cmp_total}
use Rattle.std.specs.FinMap.{empty, get, get-empty, nat_cmp-IsAntisymmetric, same_map}
use Rattle.std.specs.List.{All}
use Rattle.std.specs.Ordering.{nat_cmp}
use Rattle.std.proofs.Math.Seq.{take-suc}
use Rattle.std.proofs.lemmas.Bool.{eqb-true}
use Rattle.std.proofs.lemmas.Bool.Decides.{eqb_tells, nat_tests}
use Rattle.std.proofs.lemmas.List.{append-nil, take_all}
use Rattle.hs_base.specs.declared.numbers.TableNo.{TableNo}
use Rattle.hs_changes.specs.Settings.{Maps}
use Rattle.hs_turns.specs.Definitions.{lengthened, with_rows}
use Rattle.hs_index.specs.Table.{Rows}
use Rattle.hs_schema.specs.Catalogue.{Things}
use Rattle.hs_schema.specs.declared.thing.Thing.{Thing}
use Rattle.hs_values.specs.declared.value.Value.{Value}
use Rattle.hs_redefining.specs.Longer.{AreLonger, AreWithin, longer}
use Rattle.hs_redefining.specs.Tables.{is_in}
use Rattle.hs_redefining.proofs.ByNumber.{same_rows}
use Rattle.hs_redefining.proofs.Mixed.{longer_rows}
use Rattle.hs_redefining.proofs.TablesOf.{AreIn, in_more}

-- ---- one table

-- rows with nothing behind their own
pub as_long : (rows : Rows) → AreLonger [] rows rows
as_long rows k = by (get rows k)
  where
    by : (o : Option (List Value)) → o ≡ longer [] o
    by None = refl
    by (Some values) = ap (λ (l : List Value). Some l) (sym (append-nil values))

pub nothing_within : (rows : Rows) → AreWithin rows empty → rows ≡ empty
nothing_within rows within = same_map nat_cmp_total nat_cmp-IsAntisymmetric rows empty (λ k. within k (get-empty nat_cmp k) ∙ sym (get-empty nat_cmp k))

-- what a table that has these rows has, and another one
pub at_own : (own table : ℕ) (rows : Rows) (maps : Maps) → (own == table) ≡ true → with_rows own rows maps table ≡ rows
at_own own table rows maps h =
    let same : (table == own) ≡ true = grind (arith, nat_tests, h) in
    ap (λ b. if b then rows else maps table) same

pub at_other : (own table : ℕ) (rows : Rows) (maps : Maps) → (own == table) ≡ false → with_rows own rows maps table ≡ maps table
at_other own table rows maps h =
    let apart : (table == own) ≡ false = grind (arith, nat_tests, h) in
    ap (λ b. if b then rows else maps table) apart

-- where it is to have none, and has none
pub own_cleared : (own table : ℕ) (maps held : Maps) → (own == table) ≡ true → AreWithin (held table) (with_rows own empty maps table) → (t : ℕ) → held t ≡ with_rows table (with_rows own empty maps table) held t
own_cleared own table maps held h within t =
    let none : held table ≡ with_rows own empty maps table = nothing_within (held table) (subst (AreWithin (held table)) (at_own own table empty maps h) within) ∙ sym (at_own own table empty maps h) in
    sym (ap (λ (rows : Rows). with_rows table rows held t) (sym none) ∙ ap (λ (m : Maps). m t) (same_rows table held))

-- each of its rows gets nothing, or a value
pub kept_long : (own table : ℕ) (rows : Rows) (maps : Maps) → (own == table) ≡ false → AreLonger [] (maps table) (with_rows own rows maps table)
kept_long own table rows maps h = subst (AreLonger [] (maps table)) (sym (at_other own table rows maps h)) (as_long (maps table))

pub own_long : (own table : ℕ) (value : Value) (maps : Maps) → (own == table) ≡ true → AreLonger (value ∷ []) (maps table) (with_rows own (lengthened value (maps own)) maps table)
own_long own table value maps h =
    subst (AreLonger (value ∷ []) (maps table)) (sym (at_own own table (lengthened value (maps own)) maps h))
    (subst (λ n. AreLonger (value ∷ []) (maps n) (lengthened value (maps own))) (eqb-true own table h) (longer_rows value (maps own)))

-- ---- one table after another

-- the first so many of these tables have the rows that they are to have, and no other has any
abbrev pub AreCopied : Maps → List TableNo → ℕ → Maps → Type 0
AreCopied target tables i held = (t : ℕ) → held t ≡ (if is_in (take i tables) t then target t else empty)

pub none_copied : (target : Maps) (tables : List TableNo) (held : Maps) → ((t : ℕ) → held t ≡ empty) → AreCopied target tables 0 held
none_copied target tables held none = none

pub within_copied : (target : Maps) (tables : List TableNo) (i : ℕ) (held : Maps) (t : ℕ) → AreCopied target tables i held → AreWithin (held t) (target t)
within_copied target tables i held t copied k none = ap (λ (rows : Rows). get rows k) (copied t) ∙ by (is_in (take i tables) t)
  where
    by : (b : Bool) → get (if b then target t else empty) k ≡ None
    by true = none
    by false = get-empty nat_cmp k

-- the table at an index within tables, at any other in its place past them
pub same_at : (tables : List TableNo) (i : ℕ) (d e : TableNo) → i < length tables → get_or tables i d ≡ get_or tables i e
same_at [] i d e low = absurd (omega (arith, low))
same_at (table ∷ tables) zero d e low = refl
same_at (table ∷ tables) (suc i) d e low = same_at tables i d e (omega (arith, low))

pub copied_step : (target : Maps) (tables : List TableNo) (i : ℕ) (held new : Maps) (table : TableNo) → i < length tables → table ≡ get_or tables i table
    → ((t : ℕ) → new t ≡ with_rows table.0 (target table.0) held t) → AreCopied target tables i held → AreCopied target tables (i + 1) new
copied_step target tables i held new table low is made copied t =
    made t ∙ elim (eqb_tells t table.0) [
      | inl both ↦
          let among : is_in (take i tables ++ table ∷ []) t ≡ true = (let m = in_more (take i tables) table t in let turned : (table.0 == t) ≡ true = grind (arith, nat_tests, both.1) in grind (arith, m, turned)) in
          ap (λ b. if b then target table.0 else held t) both.0 ∙ ap target (sym both.1)
          ∙ sym (ap (λ (l : List TableNo). if is_in l t then target t else empty) more ∙ ap (λ b. if b then target t else empty) among)
      | inr other ↦
          let same : is_in (take i tables ++ table ∷ []) t ≡ is_in (take i tables) t = (let m = in_more (take i tables) table t in let turned : (table.0 == t) ≡ false = grind (arith, nat_tests, other.0) in m ∙ ap (λ b. is_in (take i tables) t || (b || false)) turned ∙ or_false (is_in (take i tables) t)) in
          ap (λ b. if b then target table.0 else held t) other.0 ∙ copied t
          ∙ sym (ap (λ (l : List TableNo). if is_in l t then target t else empty) more ∙ ap (λ b. if b then target t else empty) same)
    ]
  where
    more : take (i + 1) tables ≡ take i tables ++ table ∷ []
    more = ap (λ n. take n tables) (add-one i) ∙ take-suc tables i table low ∙ ap (λ (x : TableNo). take i tables ++ x ∷ []) (sym is)

    or_false : (b : Bool) → (b || false) ≡ b
    or_false true = refl
    or_false false = refl

pub copied_all : (target : Maps) (tables : List TableNo) (i : ℕ) (held : Maps) (things : Things) → length tables ≤ i → AreIn tables things → AreCopied target tables i held → All (λ (t : Thing). held t.table.0 ≡ target t.table.0) things
copied_all target tables i held things all among copied = λ k d lt.
    let n : ℕ = (get_or things k d).table.0 in
    copied n ∙ ap (λ (l : List TableNo). if is_in l n then target n else empty) (take_all i tables all) ∙ ap (λ b. if b then target n else empty) (among k d lt)
