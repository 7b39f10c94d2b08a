-- Functions of texts. What is no text, and no number where one is asked for, gives NULL.
use Rattle.std.specs.Prelude.{ℕ, pos, Bool, List, [], ◌∷◌, ◌++◌, length, Option, Some, None, Result, Ok, Err}
use Rattle.std.specs.Str.{chars}
use Rattle.hs_ast.specs.declared.expression.TrimForm.{TrimForm}
use Rattle.hs_ast.specs.declared.expression.TrimForm.TheVariants as form
use Rattle.hs_values.specs.declared.fault.EvalFault.{EvalFault}
use Rattle.hs_values.specs.declared.fault.EvalFault.TheVariants.{TooLong}
use Rattle.hs_values.specs.declared.value.Value.{Value}
use Rattle.hs_values.specs.declared.value.Value.TheVariants as v
use Rattle.hs_values.specs.Outcome.{◌>>=◌}
use Rattle.hs_scalar.specs.declared.trimming.Side.{Side}
use Rattle.hs_scalar.specs.declared.trimming.Side.TheVariants as side
use Rattle.hs_scalar.specs.Letters.{upper_of, lower_of}
use Rattle.hs_scalar.specs.Like.{like_of}
use Rattle.hs_scalar.specs.Positions.{substring_of}
use Rattle.hs_scalar.specs.Trimming.{trim_of}
use Rattle.hs_expression.specs.Logic.{negated_if}
use Rattle.hs_expression.specs.Numbers.{Outcome}

abbrev pub upper_value : Value → Value
upper_value (v.Text text) = v.Text (upper_of text)
upper_value _ = v.Null

abbrev pub lower_value : Value → Value
lower_value (v.Text text) = v.Text (lower_of text)
lower_value _ = v.Null

-- counted in characters
abbrev pub length_value : Value → Value
length_value (v.Text text) = v.Int (pos (length (chars text)))
length_value _ = v.Null

abbrev pub concatenation : Value → Value → Value
concatenation (v.Text a) (v.Text b) = v.Text (a ++ b)
concatenation _ _ = v.Null

-- the side that is trimmed, which is both where none is written
abbrev pub side_of : TrimForm → Side
side_of form.Bare = side.Both
side_of form.From = side.Both
side_of form.Leading = side.Leading
side_of form.Trailing = side.Trailing
side_of form.Both = side.Both

-- 32 is a space
abbrev pub trimmed_value : TrimForm → Value → Value
trimmed_value shape (v.Text text) = v.Text (trim_of text (side_of shape) 32)
trimmed_value shape _ = v.Null

-- the character, where there is just one
abbrev pub only_character : List ℕ → Result ℕ EvalFault
only_character (c ∷ []) = Ok c
only_character _ = Err TooLong

abbrev pub trimmed_of_value : TrimForm → Value → Value → Outcome
trimmed_of_value shape (v.Text character) (v.Text text) = only_character (chars character) >>= λ c. Ok (v.Text (trim_of text (side_of shape) c))
trimmed_of_value shape _ _ = Ok v.Null

abbrev pub like_value : Bool → Option ℕ → Value → Value → Value
like_value negated escape (v.Text text) (v.Text pattern) = negated_if negated (v.Bool (like_of text pattern escape))
like_value negated escape _ _ = v.Null

-- from a place on
abbrev pub substring_value : Value → Value → Value
substring_value (v.Text text) (v.Int first) = v.Text (substring_of text first None)
substring_value _ _ = v.Null

-- and so many characters
abbrev pub substring_for_value : Value → Value → Value → Value
substring_for_value (v.Text text) (v.Int first) (v.Int count) = v.Text (substring_of text first (Some count))
substring_for_value _ _ _ = v.Null
