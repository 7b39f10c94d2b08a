-- The names of constraints that have none of their own.
use Rattle.std.specs.Prelude.{◌≡◌, ℕ, ◌-◌, ◌≤◌, ◌<◌, Bool, true, false, nat_le, ◌||◌, is_some, if◌then◌else◌, List, [], ◌∷◌, ◌++◌, length, codes}
use Rattle.std.specs.Char.{encode_utf8}
use Rattle.std.specs.Fmt.{decimal}
use Rattle.std.specs.HashSet.{contains_text}
use Rattle.std.specs.Str.{chars}
use Rattle.hs_schema.specs.Catalogue.{Things, owner_of}
use Rattle.hs_elements.specs.declared.names.ConstraintKind.{ConstraintKind}
use Rattle.hs_elements.specs.declared.names.ConstraintKind.TheVariants as k
use Rattle.hs_elements.specs.declared.names.NameSet.{NameSet}
use Rattle.hs_elements.specs.Faults.{Text}

abbrev pub word_of : ConstraintKind → Text
word_of k.NotNull = codes "NULL"
word_of k.PrimaryKey = codes "PRIMARY"
word_of k.Unique = codes "UNIQUE"
word_of k.Check = codes "CHECK"
word_of k.ForeignKey = codes "FOREIGN"

-- characters from the front on, as long as they have at most so many bytes
abbrev pub within : ℕ → List ℕ → Text
within room [] = []
within room (c ∷ cs) = if nat_le (length (encode_utf8 c)) room then encode_utf8 c ++ within (room - length (encode_utf8 c)) cs else []

-- the longest front of whole characters with at most so many bytes
abbrev pub cut : ℕ → Text → Text
cut room text = within room (chars text)

abbrev pub ending : ConstraintKind → ℕ → Text
ending kind n = codes "_" ++ word_of kind ++ codes "_" ++ decimal n

-- `table_kind_n`, of at most 128 bytes
abbrev pub numbered : Text → ConstraintKind → ℕ → Text
numbered table kind n = cut (128 - length (ending kind n)) table ++ ending kind n

-- it is among names that were given
abbrev pub is_held : NameSet → Text → Bool
is_held set name = contains_text set.names name

-- the name was given, or a constraint or an index of the catalogue has it
abbrev pub is_taken : Things → NameSet → Text → Bool
is_taken things given name = is_held given name || is_some (owner_of things name)

-- the least number from 1 on whose name is free
pub record IsLeastFree (taken : Text → Bool) (table : Text) (kind : ConstraintKind) (n : ℕ) : Type 0 where
  pub counts : 1 ≤ n
  pub free : taken (numbered table kind n) ≡ false
  pub least : (m : ℕ) → 1 ≤ m → m < n → taken (numbered table kind m) ≡ true
