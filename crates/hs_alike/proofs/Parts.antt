-- The tests of values, types and kinds tell no more than that they are equal.
use Rattle.std.proofs.Common.{◌≡◌, Bool, true, false, ◌&&◌, ◌==◌, Option, None, Some, refl, ap}
use Rattle.std.proofs.lemmas.Bool.{and_parts}
use Rattle.std.proofs.lemmas.Bool.Decides.{Decides-eqb, Decides-int_eq}
use Rattle.std.proofs.lemmas.Slice.Eq.{bytes_eq-Decides}
use Rattle.std.specs.Ordering.{int_eq}
use Rattle.hs_plan.specs.declared.kind.Kind.{Kind}
use Rattle.hs_plan.specs.declared.kind.Kind.TheVariants as k
use Rattle.hs_plan.specs.declared.reading.Reading.{Reading}
use Rattle.hs_plan.specs.declared.reading.Reading.TheVariants as r
use Rattle.hs_values.specs.declared.sql_type.SqlType.{SqlType}
use Rattle.hs_values.specs.declared.sql_type.SqlType.TheVariants as t
use Rattle.hs_values.specs.declared.value.Value.{Value}
use Rattle.hs_values.specs.declared.value.Value.TheVariants as v
use Rattle.hs_alike.specs.Parts.{same_kind, same_option, same_reading, same_truth, same_type, same_value}

-- what is told to be the same is equal, and each thing is the same as itself
pub record Exact {A : Type 0} (same : A → A → Bool) : Type 0 where
  pub sound : (a b : A) → same a b ≡ true → a ≡ b
  pub itself : (a : A) → same a a ≡ true

pub both : (x y : Bool) → x ≡ true → y ≡ true → (x && y) ≡ true
both true y a b = b
both false y a b = a

pub never : {A : Type 0} → false ≡ true → A
never h = absurd (cc)

pub numbers : Exact ◌==◌
numbers = record { sound = λ a b. (Decides-eqb a b).0; itself = λ a. (Decides-eqb a a).1 refl }

pub integers : Exact int_eq
integers = record { sound = λ a b. (Decides-int_eq a b).0; itself = λ a. (Decides-int_eq a a).1 refl }

truth_sound : (a b : Bool) → same_truth a b ≡ true → a ≡ b
truth_sound true true h = refl
truth_sound false false h = refl
truth_sound true false h = never h
truth_sound false true h = never h

truth_itself : (a : Bool) → same_truth a a ≡ true
truth_itself true = refl
truth_itself false = refl

pub truths : Exact same_truth
truths = record { sound = truth_sound; itself = truth_itself }

option_sound : {A : Type 0} (same : A → A → Bool) → Exact same → (a b : Option A) → same_option same a b ≡ true → a ≡ b
option_sound same exact None None h = refl
option_sound same exact (Some a) (Some b) h = ap Some (exact.sound a b h)
option_sound same exact None (Some b) h = never h
option_sound same exact (Some a) None h = never h

option_itself : {A : Type 0} (same : A → A → Bool) → Exact same → (a : Option A) → same_option same a a ≡ true
option_itself same exact None = refl
option_itself same exact (Some a) = exact.itself a

pub options : {A : Type 0} (same : A → A → Bool) → Exact same → Exact (same_option same)
options same exact = record { sound = option_sound same exact; itself = option_itself same exact }

-- ---- types

type_sound : (a b : SqlType) → same_type a b ≡ true → a ≡ b
type_sound t.Small t.Small h = refl
type_sound t.Integer t.Integer h = refl
type_sound t.Big t.Big h = refl
type_sound (t.Decimal p s) (t.Decimal q r) h =
    let parts = and_parts (p == q) (s == r) h in
    let precision = numbers.sound p q parts.0 in
    let scale = numbers.sound s r parts.1 in
    λ i. t.Decimal (precision i) (scale i)
type_sound (t.Varchar n) (t.Varchar m) h = ap t.Varchar (numbers.sound n m h)
type_sound t.Bool t.Bool h = refl
type_sound t.Date t.Date h = refl
type_sound t.Stamp t.Stamp h = refl
type_sound _ _ h = never h

type_itself : (a : SqlType) → same_type a a ≡ true
type_itself t.Small = refl
type_itself t.Integer = refl
type_itself t.Big = refl
type_itself (t.Decimal p s) = both (p == p) (s == s) (numbers.itself p) (numbers.itself s)
type_itself (t.Varchar n) = numbers.itself n
type_itself t.Bool = refl
type_itself t.Date = refl
type_itself t.Stamp = refl

pub types : Exact same_type
types = record { sound = type_sound; itself = type_itself }

-- ---- values

value_sound : (a b : Value) → same_value a b ≡ true → a ≡ b
value_sound v.Null v.Null h = refl
value_sound (v.Int n) (v.Int m) h = ap v.Int (integers.sound n m h)
value_sound (v.Dec d) (v.Dec e) h =
    let parts = and_parts (int_eq d.units e.units) (d.scale == e.scale) h in
    let units = integers.sound d.units e.units parts.0 in
    let scale = numbers.sound d.scale e.scale parts.1 in
    λ i. v.Dec (record { units = units i; scale = scale i })
value_sound (v.Text text) (v.Text other) h = ap v.Text ((bytes_eq-Decides text other).0 h)
value_sound (v.Bool b) (v.Bool c) h = ap v.Bool (truths.sound b c h)
value_sound (v.Day day) (v.Day other) h = ap v.Day (integers.sound day other h)
value_sound (v.Micros micros) (v.Micros other) h = ap v.Micros (integers.sound micros other h)
value_sound _ _ h = never h

value_itself : (a : Value) → same_value a a ≡ true
value_itself v.Null = refl
value_itself (v.Int n) = integers.itself n
value_itself (v.Dec d) = both (int_eq d.units d.units) (d.scale == d.scale) (integers.itself d.units) (numbers.itself d.scale)
value_itself (v.Text text) = (bytes_eq-Decides text text).1 refl
value_itself (v.Bool b) = truths.itself b
value_itself (v.Day day) = integers.itself day
value_itself (v.Micros micros) = integers.itself micros

pub values : Exact same_value
values = record { sound = value_sound; itself = value_itself }

-- ---- what texts are read as

reading_sound : (a b : Reading) → same_reading a b ≡ true → a ≡ b
reading_sound (r.Day day) (r.Day other) h = ap r.Day (integers.sound day other h)
reading_sound (r.Micros micros) (r.Micros other) h = ap r.Micros (integers.sound micros other h)
reading_sound r.BadDate r.BadDate h = refl
reading_sound r.BadTimestamp r.BadTimestamp h = refl
reading_sound _ _ h = never h

reading_itself : (a : Reading) → same_reading a a ≡ true
reading_itself (r.Day day) = integers.itself day
reading_itself (r.Micros micros) = integers.itself micros
reading_itself r.BadDate = refl
reading_itself r.BadTimestamp = refl

pub readings : Exact same_reading
readings = record { sound = reading_sound; itself = reading_itself }

-- ---- kinds

kind_sound : (a b : Kind) → same_kind a b ≡ true → a ≡ b
kind_sound k.Null k.Null h = refl
kind_sound k.Whole k.Whole h = refl
kind_sound (k.Decimal s) (k.Decimal r) h = ap k.Decimal (numbers.sound s r h)
kind_sound k.TooWide k.TooWide h = refl
kind_sound k.Text k.Text h = refl
kind_sound k.Boolean k.Boolean h = refl
kind_sound k.Date k.Date h = refl
kind_sound k.Timestamp k.Timestamp h = refl
kind_sound _ _ h = never h

kind_itself : (a : Kind) → same_kind a a ≡ true
kind_itself k.Null = refl
kind_itself k.Whole = refl
kind_itself (k.Decimal s) = numbers.itself s
kind_itself k.TooWide = refl
kind_itself k.Text = refl
kind_itself k.Boolean = refl
kind_itself k.Date = refl
kind_itself k.Timestamp = refl

pub kinds : Exact same_kind
kinds = record { sound = kind_sound; itself = kind_itself }
