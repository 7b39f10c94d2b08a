-- The lines of a reply: the rows of its answer, and then the line with `ok` or `refused`.
use Rattle.std.specs.Prelude.{◌≡◌, ℕ, Bool, true, false, List, [], ◌∷◌, ◌++◌, map, Option, None, Some}
use Rattle.hs_base.specs.declared.numbers.CommitNo.{CommitNo}
use Rattle.hs_values.specs.declared.value.Value.{Value}
use Rattle.hs_machine.specs.declared.reply.Reply.{Reply}
use Rattle.hs_machine.specs.declared.reply.Reply.TheVariants as reply
use Rattle.hs_machine.specs.Lines.{Line, RowOf, OkOf, RefusedOf}

-- the number of a commit that a reply names
abbrev pub number_of : Option CommitNo → Option ℕ
number_of None = None
number_of (Some n) = Some n.0

abbrev pub is_commit : Reply → Bool
is_commit (reply.Ok rows count (Some n)) = true
is_commit (reply.Ok rows count None) = false
is_commit (reply.Refused why) = false

-- a line for each row
abbrev pub rows_lines : ℕ → List ℕ → List (List Value) → List Line
rows_lines number session rows = map (RowOf number session) rows

-- the line with `ok` or `refused`
abbrev pub final_line : ℕ → List ℕ → Reply → Line
final_line number session (reply.Ok rows count committed) = OkOf number session count (number_of committed)
final_line number session (reply.Refused why) = RefusedOf number session why

abbrev pub rows_of : Reply → List (List Value)
rows_of (reply.Ok (Some rows) count committed) = rows
rows_of (reply.Ok None count committed) = []
rows_of (reply.Refused why) = []

abbrev pub reply_lines : ℕ → List ℕ → Reply → List Line
reply_lines number session r = rows_lines number session (rows_of r) ++ final_line number session r ∷ []

-- one line with a reply, and before it only lines with rows
pub record HasOneReply (number : ℕ) (session : List ℕ) (lines : List Line) : Type 0 where
  pub rows : List (List Value)
  pub reply : Reply
  pub is : lines ≡ rows_lines number session rows ++ final_line number session reply ∷ []
