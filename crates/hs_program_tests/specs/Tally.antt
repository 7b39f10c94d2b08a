-- A database that counts its commits.
use Rattle.std.specs.Prelude.{◌≡◌, ℕ, ◌+◌, ◌==◌, nat_le, Bool, List, [], length, Option, None, Some, codes, if◌then◌else◌}
use Rattle.std.specs.FinMap.{empty}
use Rattle.hs_ast.specs.declared.session.Isolation.TheVariants.{ReadCommitted}
use Rattle.hs_claims.specs.declared.model.ControlKind.TheVariants.{Locks}
use Rattle.hs_turns.specs.Database.{Database}
use Rattle.hs_run.specs.Pieces.{made_by}
use Rattle.hs_run.specs.Running.{pieces}
use Rattle.hs_run_tests.specs.Silent.{silent_future}
use Rattle.hs_program.specs.Meaning.{Meaning, Opened}

-- a database that tells alone whether a text was too long: its count then isn't 0
abbrev pub with_count : ℕ → Database
with_count count = record { things = []; rows = λ table. empty; count = count; control = Locks; level = ReadCommitted }

abbrev pub is_short : List ℕ → Bool
is_short text = nat_le (length text) 65536

abbrev pub with_commits : ℕ → Opened → Opened
with_commits more opened = record opened { commits = opened.commits + more }

-- each text is a commit
abbrev pub counted : Opened → List ℕ → Opened
counted opened text = record { database = if is_short text then opened.database else with_count 1; last = opened.last; commits = opened.commits + 1 }

-- a long one violates a constraint
abbrev pub short_violated : Opened → Option (List ℕ)
short_violated opened = if opened.database.count == 0 then None else Some (codes "SHORT")

abbrev pub tallied : Meaning
tallied = record {
  empty = with_count 0;
  Redone = λ opened text next. next ≡ counted opened text;
  violated = short_violated;
  future = λ opened size. silent_future opened.commits;
  behind = λ opened size items count. with_commits count opened;
}
