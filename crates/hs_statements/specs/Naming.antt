-- The names of a definition's constraints, as a list.
use Rattle.std.specs.Prelude.{ℕ, zero, suc, ◌+◌, ◌*◌, ◌^◌, Bool, if◌then◌else◌, List, [], ◌∷◌, ◌++◌, Option, Some, None}
use Rattle.std.specs.Option.{option_map}
use Rattle.hs_ast.specs.declared.word.Identifier.{Identifier}
use Rattle.hs_elements.specs.Faults.{Text}
use Rattle.hs_elements.specs.Names.{numbered}
use Rattle.hs_elements.specs.declared.names.ConstraintKind.{ConstraintKind}
use Rattle.hs_outlines.specs.Named.{is_taken}
use Rattle.hs_outlines.specs.declared.written.Written.{Written}
use Rattle.hs_schema.specs.Catalogue.{Things}

-- among so many numbers from one on, the first whose name is free
unfoldable pub free_from : (Text → Bool) → Text → ConstraintKind → ℕ → ℕ → Option ℕ
free_from taken table kind zero n = None
free_from taken table kind (suc more) n = if taken (numbered table kind n) then free_from taken table kind more (n + 1) else Some n

-- a number of more than 64 digits is written by its last 64, so that these numbers write all the names that there are
abbrev pub all_numbers : ℕ
all_numbers = 2 * 10 ^ 64

-- the first name that is free
abbrev pub first_free : Things → Text → List Text → ConstraintKind → Option Text
first_free things table given kind = option_map (numbered table kind) (free_from (is_taken things given) table kind all_numbers 1)

-- its own name, or else the first that is free behind those given
abbrev pub name_by : Option Identifier → Things → Text → List Text → ConstraintKind → Option Text
name_by (Some own) things table given kind = Some own.name
name_by None things table given kind = first_free things table given kind

abbrev pub named_first : Option Text → (Text → Option (List Text)) → Option (List Text)
named_first None others = None
named_first (Some name) others = option_map (λ names. name ∷ names) (others name)

-- the names of constraints, behind those given
abbrev pub names_from : Things → Text → List Text → List Written → Option (List Text)
names_from things table given [] = Some []
names_from things table given (w ∷ ws) = named_first (name_by w.name things table given w.kind) (λ name. names_from things table (given ++ name ∷ []) ws)
