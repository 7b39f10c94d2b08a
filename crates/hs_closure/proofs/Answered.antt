-- From sets of numbers to the tables that a statement reads and writes.
use Rattle.std.proofs.Common.{◌≡◌, ◌↔◌, ℕ, true, not, ◌||◌, nat_eq, List, [], refl, sym, ap, ◌∙◌, inl, inr}
use Rattle.std.proofs.lemmas.Bool.{or_cases, or_left, or_right, and_parts, and_from, not-true, false_from_ne_true}
use Rattle.std.specs.List.{flat_map, Contains}
use Rattle.hs_base.specs.declared.numbers.TableNo.{TableNo}
use Rattle.hs_plan.specs.Named.{named_in_plan}
use Rattle.hs_plan.specs.declared.plan.Plan.{Plan}
use Rattle.hs_schema.specs.Catalogue.{Things}
use Rattle.indexmap.specs.IndexSet.{insert_all}
use Rattle.hs_closure.specs.Changing.{IsChanged, put_or_locked, neighbours, IsWritten, IsNeeded, IsRead}
use Rattle.hs_closure.specs.Sets.{is_in, is_only_in, HasExactly}
use Rattle.hs_closure.specs.Steps.{numbers, neighbours_of, IsExact}
use Rattle.hs_closure.specs.declared.way.Way.{Way}
use Rattle.hs_closure.specs.declared.way.Way.TheVariants as way
use Rattle.hs_closure.proofs.Sets.{never, is_in-insert_all, in_flat_map, in_flat_map-from, contained, contained-from}

abbrev tabled : ℕ → TableNo
tabled n = record { 0 = n }

-- a set has exactly the tables that are written
abbrev pub HasWritten : Things → Plan → List ℕ → Type 0
HasWritten things plan set = (table : TableNo) → (is_in set table.0 ≡ true) ↔ IsWritten things plan table

abbrev pub HasNeeded : Things → Plan → List ℕ → Type 0
HasNeeded things plan set = (table : TableNo) → (is_in set table.0 ≡ true) ↔ IsNeeded things plan table

pub has_written : (things : Things) (plan : Plan) (updated deleted one two three : List ℕ) → IsExact things plan updated deleted
    → one ≡ insert_all nat_eq [] (numbers (put_or_locked plan)) → two ≡ insert_all nat_eq one updated → three ≡ insert_all nat_eq two deleted → HasWritten things plan three
has_written things plan updated deleted one two three exact first second third = λ table. (to table, from table)
  where
    others : List ℕ
    others = numbers (put_or_locked plan)

    says : (n : ℕ) → is_in three n ≡ ((is_in others n || is_in updated n) || is_in deleted n)
    says n =
        ap (λ l. is_in l n) third ∙ is_in-insert_all two deleted n
        ∙ ap (λ b. b || is_in deleted n) (ap (λ l. is_in l n) second ∙ is_in-insert_all one updated n ∙ ap (λ b. b || is_in updated n) (ap (λ l. is_in l n) first ∙ is_in-insert_all [] others n))

    to : (table : TableNo) → is_in three table.0 ≡ true → IsWritten things plan table
    to table h = elim (or_cases (is_in others table.0 || is_in updated table.0) (is_in deleted table.0) (sym (says table.0) ∙ h)) [
      | inl early ↦ elim (or_cases (is_in others table.0) (is_in updated table.0) early) [
        | inl put ↦ inl (contained (put_or_locked plan) table put)
        | inr changed ↦ inr (way.Update, (exact way.Update table).0 changed)
      ]
      | inr gone ↦ inr (way.Deletion, (exact way.Deletion table).0 gone)
    ]

    by : (table : TableNo) (how : Way) → IsChanged things plan how table → ((is_in others table.0 || is_in updated table.0) || is_in deleted table.0) ≡ true
    by table way.Update changed = or_left (is_in others table.0 || is_in updated table.0) (is_in deleted table.0) (or_right (is_in others table.0) (is_in updated table.0) ((exact way.Update table).1 changed))
    by table way.Deletion changed = or_right (is_in others table.0 || is_in updated table.0) (is_in deleted table.0) ((exact way.Deletion table).1 changed)

    from : (table : TableNo) → IsWritten things plan table → is_in three table.0 ≡ true
    from table written = says table.0 ∙ elim written [
      | inl put ↦ or_left (is_in others table.0 || is_in updated table.0) (is_in deleted table.0) (or_left (is_in others table.0) (is_in updated table.0) (contained-from (put_or_locked plan) table put))
      | inr changed ↦ by table changed.0 changed.1
    ]

pub has_needed : (things : Things) (plan : Plan) (written one two : List ℕ) → HasWritten things plan written
    → one ≡ insert_all nat_eq [] (numbers (named_in_plan plan)) → two ≡ insert_all nat_eq one (flat_map (neighbours_of things) written) → HasNeeded things plan two
has_needed things plan written one two has first second = λ table. (to table, from table)
  where
    named : List ℕ
    named = numbers (named_in_plan plan)

    around : List ℕ
    around = flat_map (neighbours_of things) written

    says : (n : ℕ) → is_in two n ≡ (is_in named n || is_in around n)
    says n = ap (λ l. is_in l n) second ∙ is_in-insert_all one around n ∙ ap (λ b. b || is_in around n) (ap (λ l. is_in l n) first ∙ is_in-insert_all [] named n)

    to : (table : TableNo) → is_in two table.0 ≡ true → IsNeeded things plan table
    to table h = elim (or_cases (is_in named table.0) (is_in around table.0) (sym (says table.0) ∙ h)) [
      | inl name ↦ inl (contained (named_in_plan plan) table name)
      | inr near ↦
          let beside = in_flat_map (neighbours_of things) written table.0 near in
          inr (tabled beside.0, (has (tabled beside.0)).0 beside.1, contained (neighbours things (tabled beside.0)) table beside.2)
    ]

    from : (table : TableNo) → IsNeeded things plan table → is_in two table.0 ≡ true
    from table needed = says table.0 ∙ elim needed [
      | inl name ↦ or_left (is_in named table.0) (is_in around table.0) (contained-from (named_in_plan plan) table name)
      | inr near ↦ or_right (is_in named table.0) (is_in around table.0) (in_flat_map-from (neighbours_of things) written near.0.0 table.0 ((has near.0).1 near.1) (contained-from (neighbours things near.0) table near.2))
    ]

pub answers_written : (things : Things) (plan : Plan) (set : List ℕ) (tables : List TableNo) → HasWritten things plan set → HasExactly (is_only_in set []) tables → (table : TableNo) → Contains tables table ↔ IsWritten things plan table
answers_written things plan set tables has exactly table = (
  λ there. (has table).0 (and_parts (is_in set table.0) true ((exactly table).0 there)).0,
  λ written. (exactly table).1 (and_from (is_in set table.0) true ((has table).1 written) refl),
)

pub answers_read : (things : Things) (plan : Plan) (set written : List ℕ) (tables : List TableNo) → HasNeeded things plan set → HasWritten things plan written → HasExactly (is_only_in set written) tables
    → (table : TableNo) → Contains tables table ↔ IsRead things plan table
answers_read things plan set written tables needed has exactly table = (to, from)
  where
    to : Contains tables table → IsRead things plan table
    to there =
        let parts = and_parts (is_in set table.0) (not (is_in written table.0)) ((exactly table).0 there) in
        ((needed table).0 parts.0, λ its. never (is_in written table.0) ((has table).1 its) (not-true (is_in written table.0) parts.1))

    from : IsRead things plan table → Contains tables table
    from read = (exactly table).1 (and_from (is_in set table.0) (not (is_in written table.0)) ((needed table).1 read.0) (ap not (false_from_ne_true (is_in written table.0) (λ h. read.1 ((has table).0 h)))))
