-- How types are written.
use Rattle.std.specs.Prelude.{ℕ, Bool, true, ◌&&◌, nat_le, List, ◌++◌, codes}
use Rattle.std.specs.Fmt.{decimal}
use Rattle.hs_values.specs.declared.sql_type.SqlType.{SqlType}
use Rattle.hs_values.specs.declared.sql_type.SqlType.TheVariants as t

-- the one text of each type
abbrev pub type_text : SqlType → List ℕ
type_text t.Small = codes "SMALLINT"
type_text t.Integer = codes "INTEGER"
type_text t.Big = codes "BIGINT"
type_text (t.Decimal precision scale) = codes "DECIMAL(" ++ decimal precision ++ codes "," ++ decimal scale ++ codes ")"
type_text (t.Varchar most) = codes "VARCHAR(" ++ decimal most ++ codes ")"
type_text t.Bool = codes "BOOLEAN"
type_text t.Date = codes "DATE"
type_text t.Stamp = codes "TIMESTAMP"

-- a type that can be written: a DECIMAL of 1 to 38 digits, of which all may be behind the point, or a VARCHAR of 1 to 4,000 characters
abbrev pub is_type : SqlType → Bool
is_type (t.Decimal precision scale) = nat_le 1 precision && nat_le precision 38 && nat_le scale precision
is_type (t.Varchar most) = nat_le 1 most && nat_le most 4_000
is_type _ = true
