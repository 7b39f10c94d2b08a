-- The default that a literal gives a column fits it.
use Rattle.std.proofs.Common.{◌≡◌, ℕ, Bool, true, false, Option, None, Some, Result, Ok, Err, refl, if◌then◌else◌}
use Rattle.std.specs.Option.{option_map, option_map_or}
use Rattle.std.specs.Prelude.{ℤ}
use Rattle.std.specs.Result.{result_ok}
use Rattle.hs_ast.specs.declared.definition.ColumnDefinition.{ColumnDefinition}
use Rattle.hs_ast.specs.declared.definition.DefaultValue.{DefaultValue}
use Rattle.hs_ast.specs.declared.literal.Literal.{Literal}
use Rattle.hs_ast.specs.declared.literal.Literal.TheVariants as literal
use Rattle.hs_elements.specs.Defaults.{default_of, of_boolean, of_date, of_number, of_text, of_timestamp}
use Rattle.hs_elements.specs.Faults.{Text}
use Rattle.hs_language.specs.Sound.{has_fitting_default}
use Rattle.hs_outlines.specs.Columns.{column_of, default_value, type_of}
use Rattle.hs_temporal.specs.Reading.{date_in, stamp_in}
use Rattle.hs_temporal.proofs.ReadingLemmas.{date_text-date_in, stamp_text-stamp_in}
use Rattle.hs_temporal.proofs.YearLemmas.{days_alike, moments_alike}
use Rattle.hs_values.specs.SqlType.{assign_of, column_form, fits_of, misfit_of}
use Rattle.hs_values.specs.declared.fault.EvalFault.{EvalFault}
use Rattle.hs_values.specs.declared.sql_type.SqlType.{SqlType}
use Rattle.hs_values.specs.declared.sql_type.SqlType.TheVariants as t
use Rattle.hs_values.specs.declared.value.Value.{Value}
use Rattle.hs_values.specs.declared.value.Value.TheVariants as v

-- a value or none that is one of a type
abbrev pub Suits : SqlType → Option Value → Type 0
Suits type o = option_map_or (fits_of type) o true ≡ true

null_suits : (type : SqlType) → Suits type (Some v.Null)
null_suits t.Small = refl
null_suits t.Integer = refl
null_suits t.Big = refl
null_suits (t.Decimal precision scale) = refl
null_suits (t.Varchar most) = refl
null_suits t.Bool = refl
null_suits t.Date = refl
null_suits t.Stamp = refl

assigned_suits : (type : SqlType) (a : Value) → Suits type (result_ok (assign_of type a))
assigned_suits type a = by (fits_of type (column_form type a)) refl
  where
    by : (b : Bool) → fits_of type (column_form type a) ≡ b → option_map_or (fits_of type) (result_ok {E = EvalFault} (if b then Ok (column_form type a) else Err (misfit_of a))) true ≡ true
    by true e = e
    by false e = refl

boolean_suits : (type : SqlType) (b : Bool) → Suits type (of_boolean type b)
boolean_suits t.Small b = refl
boolean_suits t.Integer b = refl
boolean_suits t.Big b = refl
boolean_suits (t.Decimal precision scale) b = refl
boolean_suits (t.Varchar most) b = refl
boolean_suits t.Bool b = refl
boolean_suits t.Date b = refl
boolean_suits t.Stamp b = refl

number_suits : (type : SqlType) (units : ℤ) (scale : ℕ) → Suits type (of_number type units scale)
number_suits t.Small units scale = assigned_suits t.Small (v.Dec (record { units = units; scale = scale }))
number_suits t.Integer units scale = assigned_suits t.Integer (v.Dec (record { units = units; scale = scale }))
number_suits t.Big units scale = assigned_suits t.Big (v.Dec (record { units = units; scale = scale }))
number_suits (t.Decimal precision its) units scale = assigned_suits (t.Decimal precision its) (v.Dec (record { units = units; scale = scale }))
number_suits (t.Varchar most) units scale = refl
number_suits t.Bool units scale = refl
number_suits t.Date units scale = refl
number_suits t.Stamp units scale = refl

day_suits : (text : Text) → Suits t.Date (option_map v.Day (result_ok (date_in text)))
day_suits text = by (date_in text) refl
  where
    by : (r : Result ℤ EvalFault) → date_in text ≡ r → Suits t.Date (option_map v.Day (result_ok r))
    by (Ok day) e = (days_alike day).1 (date_text-date_in text day e).0
    by (Err fault) e = refl

moment_suits : (text : Text) → Suits t.Stamp (option_map v.Micros (result_ok (stamp_in text)))
moment_suits text = by (stamp_in text) refl
  where
    by : (r : Result ℤ EvalFault) → stamp_in text ≡ r → Suits t.Stamp (option_map v.Micros (result_ok r))
    by (Ok micros) e = (moments_alike micros).1 (stamp_text-stamp_in text micros e).0
    by (Err fault) e = refl

text_suits : (type : SqlType) (text : Text) → Suits type (of_text type text)
text_suits t.Small text = refl
text_suits t.Integer text = refl
text_suits t.Big text = refl
text_suits (t.Decimal precision scale) text = refl
text_suits (t.Varchar most) text = assigned_suits (t.Varchar most) (v.Text text)
text_suits t.Bool text = refl
text_suits t.Date text = day_suits text
text_suits t.Stamp text = moment_suits text

date_suits : (type : SqlType) (text : Text) → Suits type (of_date type text)
date_suits t.Small text = refl
date_suits t.Integer text = refl
date_suits t.Big text = refl
date_suits (t.Decimal precision scale) text = refl
date_suits (t.Varchar most) text = refl
date_suits t.Bool text = refl
date_suits t.Date text = day_suits text
date_suits t.Stamp text = refl

timestamp_suits : (type : SqlType) (text : Text) → Suits type (of_timestamp type text)
timestamp_suits t.Small text = refl
timestamp_suits t.Integer text = refl
timestamp_suits t.Big text = refl
timestamp_suits (t.Decimal precision scale) text = refl
timestamp_suits (t.Varchar most) text = refl
timestamp_suits t.Bool text = refl
timestamp_suits t.Date text = refl
timestamp_suits t.Stamp text = moment_suits text

literal_suits : (type : SqlType) (l : Literal) → Suits type (default_of type l)
literal_suits type literal.Null = null_suits type
literal_suits type (literal.Boolean b) = boolean_suits type b
literal_suits type (literal.Number n) = number_suits type n.units n.scale
literal_suits type (literal.Text text) = text_suits type text
literal_suits type (literal.Date text) = date_suits type text
literal_suits type (literal.Timestamp text) = timestamp_suits type text

written_suits : (type : SqlType) (o : Option DefaultValue) → Suits type (default_value type o)
written_suits type None = refl
written_suits type (Some d) = literal_suits type d.literal

pub column_suits : (c : ColumnDefinition) → has_fitting_default (column_of c) ≡ true
column_suits c = written_suits (type_of c) c.default
