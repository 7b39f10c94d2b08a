-- How the columns of keys and indexes are written.
use Rattle.std.specs.Prelude.{◌≡◌, ◌≢◌, ℕ, ◌<◌, ◌^◌, Bool, true, not, ◌&&◌, nat_eq, List, [], ◌∷◌, ◌++◌, Option, Some, IsUtf8, slice_get}
use Rattle.std.specs.List.{position_from, list_any, AllByRecursion}
use Rattle.std.specs.Option.{option_map_or}
use Rattle.std.specs.Str.{bytes_eq}
use Rattle.hs_plan.specs.declared.definition.Column.{Column}
use Rattle.hs_nametext.specs.Names.{name_text, is_name}
use Rattle.hs_columntext.specs.Lists.{list_text, IsItemAt, AreSome}

-- the name of the column at a place
abbrev pub name_at : List Column → ℕ → List ℕ
name_at columns place = option_map_or (λ c. c.name) (slice_get columns place) []

-- the place of the first column of a name
abbrev pub place_of : List Column → List ℕ → Option ℕ
place_of columns name = position_from (λ c. bytes_eq name c.name) 0 columns

-- ---- one column

abbrev pub place_text : List Column → ℕ → List ℕ
place_text columns place = name_text (name_at columns place)

-- a column that has a name, which no column before it has
pub record IsPlace (columns : List Column) (place : ℕ) : Type 0 where
  pub named : is_name (name_at columns place) ≡ true
  pub utf8 : IsUtf8 (name_at columns place)
  pub first : place_of columns (name_at columns place) ≡ Some place
  pub small : place < 2 ^ 32

abbrev pub IsPlaceAt : List Column → List ℕ → ℕ → List ℕ → Type 0
IsPlaceAt columns = IsItemAt (IsPlace columns) (place_text columns)

-- the place of the first column of a name, which has 32 bits
pub record IsPlaceOf (columns : List Column) (name : List ℕ) (place : ℕ) : Type 0 where
  pub is : place_of columns name ≡ Some place
  pub small : place < 2 ^ 32

-- ---- lists of columns

-- with commas between
abbrev pub places_text : List Column → List ℕ → List ℕ
places_text columns places = list_text (place_text columns) places

abbrev pub are_distinct : List ℕ → Bool
are_distinct [] = true
are_distinct (place ∷ places) = not (list_any (nat_eq place) places) && are_distinct places

-- columns, one at least, none of them twice
pub record AreColumns (columns : List Column) (places : List ℕ) : Type 0 where
  pub each : AllByRecursion (IsPlace columns) places
  pub some : places ≢ []
  pub distinct : are_distinct places ≡ true

-- the text begins with such columns as they are written, and a closing parenthesis
pub record AreColumnsAt (columns : List Column) (text : List ℕ) (places : List ℕ) (rest : List ℕ) : Type 0 where
  pub lawful : AreColumns columns places
  pub written : text ≡ places_text columns places ++ (41 ∷ rest)
