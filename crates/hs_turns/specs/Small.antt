-- A small dialect, by which one sees what runs tell. Its statements are single letters: B begins a transaction, C
-- commits it, R rolls it back, X and Y insert a row into table 1 and into table 2, and D sets the default level to
-- SERIALIZABLE, which is a definition. All else is no statement.
use Rattle.std.specs.Prelude.{ℕ, ◌==◌, ◌||◌, true, if◌then◌else◌, List, [], ◌∷◌, map, None, Ok, codes}
use Rattle.std.specs.FinMap.{empty}
use Rattle.hs_ast.specs.declared.session.Isolation.TheVariants.{ReadCommitted}
use Rattle.hs_base.specs.declared.numbers.TableNo.{TableNo}
use Rattle.hs_claims.specs.declared.model.ControlKind.{ControlKind}
use Rattle.hs_entries.specs.declared.item.Item.{Item}
use Rattle.hs_entries.specs.declared.item.Item.TheVariants as item
use Rattle.hs_plan.specs.declared.change.Change.TheVariants as change
use Rattle.hs_plan.specs.declared.definition.Definition.TheVariants as definition
use Rattle.hs_schema.specs.Catalogue.{Text}
use Rattle.hs_sessions.specs.Modes.{no_modes}
use Rattle.hs_turns.specs.Database.{Database}
use Rattle.hs_turns.specs.Language.{Outcome}
use Rattle.hs_turns.specs.Inserting.{writing}
use Rattle.hs_turns.specs.Dialect.{Dialect, Request}
use Rattle.hs_turns.specs.Dialect.{Request as request}
use Rattle.hs_turns.specs.Lines.{line_text}
use Rattle.hs_turns.specs.Machine.{start}
use Rattle.hs_turns.specs.Turns.{lines}

-- the letter behind the name of a session of one letter and its colon
abbrev pub letter : Text → ℕ
letter (s ∷ colon ∷ l ∷ more) = l
letter (s ∷ colon ∷ []) = 0
letter (s ∷ []) = 0
letter [] = 0

abbrev pub by_letter : ℕ → Request
by_letter l =
    if l == 66 then request.Starts no_modes
    else if l == 67 then request.Commits
    else if l == 82 then request.RollsBack
    else if l == 68 then request.OfDefinition
    else if l == 88 || l == 89 then request.OfData
    else request.Faulty (codes "syntax at 2")

abbrev pub table_by : ℕ → TableNo
table_by l = if l == 88 then record { 0 = 1 } else record { 0 = 2 }

abbrev pub inserted : TableNo → Outcome
inserted table = record { rows = []; reply = codes "ok 1 row"; changes = change.Insert table [] ∷ []; foot = writing (table ∷ []) }

abbrev pub small : Dialect
small = record {
  request = λ text. by_letter (letter text);
  refusal = λ read_only db text. None;
  outcome = λ read_only own db text. inserted (table_by (letter text));
  definition = λ db text. Ok (definition.SetDefaultLevel true);
  is_valid = λ db. true;
  describes = λ db changes feet. true;
  has_log_room = λ commits commit. true;
  printed_name = λ name. name;
}

-- an empty database under a model
abbrev pub empty_database : ControlKind → Database
empty_database kind = record { things = []; rows = λ table. empty; count = 0; control = kind; level = ReadCommitted }

-- an entry of a session of one letter
abbrev pub says : ℕ → Text → Text → Item
says number name statement = item.Entry number name statement 2

-- what so many turns of a run over an empty database tell
abbrev pub told_by : ControlKind → List Item → ℕ → List Text
told_by kind items turns = map line_text (lines small (empty_database kind) 0 turns (start (empty_database kind) items))
