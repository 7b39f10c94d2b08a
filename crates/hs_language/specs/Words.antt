-- What data statements and definitions are told.
use Rattle.std.specs.Prelude.{ℕ, ◌==◌, List, ◌++◌, if◌then◌else◌, codes}
use Rattle.std.specs.Fmt.{decimal}
use Rattle.hs_nametext.specs.Names.{name_text}
use Rattle.hs_rowtext.specs.Rows.{row_text}
use Rattle.hs_schema.specs.Catalogue.{Text}
use Rattle.hs_sentences.specs.declared.violation.Violation.{Violation}
use Rattle.hs_sentences.specs.declared.violation.Violation.TheVariants as is
use Rattle.hs_values.specs.declared.fault.EvalFault.{EvalFault}
use Rattle.hs_values.specs.declared.fault.EvalFault.TheVariants as fault
use Rattle.hs_values.specs.declared.value.Value.{Value}

-- ---- answers

-- the line of a row of an answer
abbrev pub row_words : List Value → Text
row_words row = codes "row " ++ row_text row

-- so many rows were answered, put or deleted
abbrev pub count_words : ℕ → Text
count_words n = if n == 1 then codes "ok 1 row" else codes "ok " ++ decimal n ++ codes " rows"

abbrev pub done_words : Text
done_words = codes "ok"

-- ---- refusals, behind `refused `

-- Why an evaluation has no value. No definition gives want of memory.
abbrev pub fault_words : EvalFault → Text
fault_words fault.DivisionByZero = codes "division by zero"
fault_words fault.Range = codes "range"
fault_words fault.TooLong = codes "too long value"
fault_words fault.BadDate = codes "bad date"
fault_words fault.MoreThanOne = codes "more than one row"
fault_words fault.NoMemory = codes "memory"

-- which constraint is violated
abbrev pub violation_words : Violation → Text
violation_words (is.Null name) = codes "null " ++ name_text name
violation_words (is.Check name) = codes "check " ++ name_text name
violation_words (is.Unique name) = codes "unique " ++ name_text name
violation_words (is.Parent name) = codes "parent " ++ name_text name
violation_words (is.Child name) = codes "child " ++ name_text name

-- a row that is put takes more than 4,000 bytes
abbrev pub long_row_words : Text
long_row_words = codes "limit row"

abbrev pub read_only_words : Text
read_only_words = codes "read only"
