-- A language with one data statement, which inserts an empty row into table 1, and with no definitions. It shows that the
-- laws can be met.
use Rattle.std.specs.Prelude.{Bool, true, false, List, [], ◌∷◌, None}
use Rattle.std.specs.List.{list_all}
use Rattle.hs_base.specs.declared.numbers.TableNo.{TableNo}
use Rattle.hs_claims.specs.declared.footprint.Footprint.{Footprint}
use Rattle.hs_plan.specs.declared.change.Change.{Change}
use Rattle.hs_plan.specs.declared.change.Change.TheVariants as change
use Rattle.hs_turns.specs.Language.{Language, Outcome}

abbrev pub writing : List TableNo → Footprint
writing tables = record { reads = []; writes = tables; rows = []; keys = []; parents = [] }

abbrev pub table_one : TableNo
table_one = record { 0 = 1 }

-- in a read-only transaction it does nothing
abbrev pub inserted : Bool → Outcome
inserted true = record { rows = []; reply = []; changes = []; foot = writing [] }
inserted false = record { rows = []; reply = []; changes = change.Insert table_one [] ∷ []; foot = writing (table_one ∷ []) }

abbrev pub is_insert : Change → Bool
is_insert (change.Insert table values) = true
is_insert (change.Put table row values) = false
is_insert (change.Delete table row) = false
is_insert (change.Define definition) = false

abbrev pub inserting : Language
inserting = record {
  outcome = λ read_only own db text. inserted read_only;
  definition = λ db text. None;
  is_valid = λ db. true;
  describes = λ db changes feet. list_all is_insert changes;
}
