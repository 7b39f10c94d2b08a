-- Values that can be written are lawful.
use Rattle.std.proofs.Common.{◌≡◌, true}
use Rattle.hs_values.specs.declared.sql_type.SqlType.TheVariants as t
use Rattle.hs_values.specs.declared.value.Value.{Value}
use Rattle.hs_values.specs.declared.value.Value.TheVariants as v
use Rattle.hs_values.specs.Lawful.{IsLawful}
use Rattle.hs_values.proofs.OneType.{fits_lawful}
use Rattle.hs_conditiontext.specs.Conditions.{is_value}

pub lawful_value : (value : Value) → is_value value ≡ true → IsLawful value
lawful_value v.Null h = tt
lawful_value (v.Bool b) h = tt
lawful_value (v.Text text) h = tt
lawful_value (v.Int n) h = fits_lawful t.Big (v.Int n) h
lawful_value (v.Dec d) h = fits_lawful (t.Decimal 38 d.scale) (v.Dec d) h
lawful_value (v.Day day) h = fits_lawful t.Date (v.Day day) h
lawful_value (v.Micros micros) h = fits_lawful t.Stamp (v.Micros micros) h
