-- What the test of values says.
use Rattle.std.proofs.Common.{◌≡◌, ◌^◌, Bool, true, ◌==◌, ◌&&◌, nat_le, nat_lt, List, [], ◌∷◌, refl}
use Rattle.std.proofs.lemmas.Bool.{and_from, and_parts, eq-eqb, le-leb, lt-ltb}
use Rattle.std.proofs.lemmas.List.Elements.{All-cons, All-head, All-nil, All-tail}
use Rattle.std.specs.List.{All, list_all}
use Rattle.std.specs.Prelude.{unsigned_abs}
use Rattle.hs_plan.specs.declared.change.Change.{Change}
use Rattle.hs_plan.specs.declared.change.Change.TheVariants as c
use Rattle.hs_values.specs.Lawful.{IsLawful}
use Rattle.hs_values.specs.declared.sql_type.SqlType.TheVariants as t
use Rattle.hs_values.specs.declared.value.Value.{Value}
use Rattle.hs_values.specs.declared.value.Value.TheVariants as v
use Rattle.hs_values.proofs.OneType.{fits_lawful}
use Rattle.hs_logged.specs.Writable.{HasLawfulValues, has_lawful_values, is_lawful}

-- ---- of each item of a list

module _ {X : Type 0} (test : X → Bool) (P : X → Type 0) where
  all_from : ((x : X) → test x ≡ true → P x) → (xs : List X) → list_all test xs ≡ true → All P xs
  all_from so [] h = All-nil P
  all_from so (x ∷ xs) h = let parts = and_parts (test x) (list_all test xs) h in All-cons P x xs (so x parts.0) (all_from so xs parts.1)

  all_test : ((x : X) → P x → test x ≡ true) → (xs : List X) → All P xs → list_all test xs ≡ true
  all_test so [] h = refl
  all_test so (x ∷ xs) h = and_from (test x) (list_all test xs) (so x (All-head P x xs h)) (all_test so xs (All-tail P x xs h))

-- ---- values

value_from : (value : Value) → is_lawful value ≡ true → IsLawful value
value_from v.Null h = tt
value_from (v.Text text) h = tt
value_from (v.Bool b) h = tt
value_from (v.Int n) h = fits_lawful t.Big (v.Int n) h
value_from (v.Dec d) h = fits_lawful (t.Decimal 38 d.scale) (v.Dec d) h
value_from (v.Day day) h = fits_lawful t.Date (v.Day day) h
value_from (v.Micros micros) h = fits_lawful t.Stamp (v.Micros micros) h

value_test : (value : Value) → IsLawful value → is_lawful value ≡ true
value_test v.Null h = refl
value_test (v.Text text) h = refl
value_test (v.Bool b) h = refl
value_test (v.Int n) h = h
value_test (v.Dec d) h =
    and_from ((d.scale == d.scale) && nat_le d.scale 38) (nat_lt (unsigned_abs d.units) (10 ^ 38))
    (and_from (d.scale == d.scale) (nat_le d.scale 38) (eq-eqb d.scale d.scale refl) (le-leb d.scale 38 h.places)) (lt-ltb (unsigned_abs d.units) (10 ^ 38) h.digits)
value_test (v.Day day) h = h
value_test (v.Micros micros) h = h

-- ---- changes

one_from : (x : Change) → has_lawful_values x ≡ true → HasLawfulValues x
one_from (c.Insert table row) h = all_from is_lawful IsLawful value_from row h
one_from (c.Put table number row) h = all_from is_lawful IsLawful value_from row h
one_from (c.Delete table number) h = tt
one_from (c.Define definition) h = tt

one_test : (x : Change) → HasLawfulValues x → has_lawful_values x ≡ true
one_test (c.Insert table row) h = all_test is_lawful IsLawful value_test row h
one_test (c.Put table number row) h = all_test is_lawful IsLawful value_test row h
one_test (c.Delete table number) h = refl
one_test (c.Define definition) h = refl

pub lawful_from : (changes : List Change) → list_all has_lawful_values changes ≡ true → All HasLawfulValues changes
lawful_from changes h = all_from has_lawful_values HasLawfulValues one_from changes h

pub lawful_test : (changes : List Change) → All HasLawfulValues changes → list_all has_lawful_values changes ≡ true
lawful_test changes h = all_test has_lawful_values HasLawfulValues one_test changes h
