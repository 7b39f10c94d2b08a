-- Whether two values, types or kinds are the same.
use Rattle.std.specs.Prelude.{Bool, true, false, ◌==◌, ◌&&◌, Option, None, Some}
use Rattle.std.specs.Ordering.{int_eq}
use Rattle.std.specs.Str.{bytes_eq}
use Rattle.hs_plan.specs.declared.kind.Kind.{Kind}
use Rattle.hs_plan.specs.declared.kind.Kind.TheVariants as k
use Rattle.hs_plan.specs.declared.reading.Reading.{Reading}
use Rattle.hs_plan.specs.declared.reading.Reading.TheVariants as r
use Rattle.hs_values.specs.declared.sql_type.SqlType.{SqlType}
use Rattle.hs_values.specs.declared.sql_type.SqlType.TheVariants as t
use Rattle.hs_values.specs.declared.value.Value.{Value}
use Rattle.hs_values.specs.declared.value.Value.TheVariants as v

abbrev pub same_truth : Bool → Bool → Bool
same_truth true true = true
same_truth false false = true
same_truth _ _ = false

-- both are there and the same, or neither is there
abbrev pub same_option : {A : Type 0} → (A → A → Bool) → Option A → Option A → Bool
same_option same None None = true
same_option same (Some a) (Some b) = same a b
same_option same _ _ = false

abbrev pub same_type : SqlType → SqlType → Bool
same_type t.Small t.Small = true
same_type t.Integer t.Integer = true
same_type t.Big t.Big = true
same_type (t.Decimal precision scale) (t.Decimal other_precision other_scale) = (precision == other_precision) && (scale == other_scale)
same_type (t.Varchar most) (t.Varchar other) = most == other
same_type t.Bool t.Bool = true
same_type t.Date t.Date = true
same_type t.Stamp t.Stamp = true
same_type _ _ = false

-- with their scales: 1 and 1.00 are not the same
abbrev pub same_value : Value → Value → Bool
same_value v.Null v.Null = true
same_value (v.Int n) (v.Int m) = int_eq n m
same_value (v.Dec d) (v.Dec e) = int_eq d.units e.units && (d.scale == e.scale)
same_value (v.Text text) (v.Text other) = bytes_eq text other
same_value (v.Bool b) (v.Bool c) = same_truth b c
same_value (v.Day day) (v.Day other) = int_eq day other
same_value (v.Micros micros) (v.Micros other) = int_eq micros other
same_value _ _ = false

-- what two texts are read as
abbrev pub same_reading : Reading → Reading → Bool
same_reading (r.Day day) (r.Day other) = int_eq day other
same_reading (r.Micros micros) (r.Micros other) = int_eq micros other
same_reading r.BadDate r.BadDate = true
same_reading r.BadTimestamp r.BadTimestamp = true
same_reading _ _ = false

abbrev pub same_kind : Kind → Kind → Bool
same_kind k.Null k.Null = true
same_kind k.Whole k.Whole = true
same_kind (k.Decimal scale) (k.Decimal other) = scale == other
same_kind k.TooWide k.TooWide = true
same_kind k.Text k.Text = true
same_kind k.Boolean k.Boolean = true
same_kind k.Date k.Date = true
same_kind k.Timestamp k.Timestamp = true
same_kind _ _ = false
