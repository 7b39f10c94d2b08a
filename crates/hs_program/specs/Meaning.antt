-- What a database is to a run.
use Rattle.std.specs.Prelude.{ℕ, List, Option, None}
use Rattle.hs_turns.specs.Database.{Database}
use Rattle.hs_entries.specs.declared.item.Item.{Item}
use Rattle.hs_run.specs.Future.{Future}

-- what the texts of a log made so far: the database, the session of the last of them, none where there is none, and how many
-- there are
pub record Opened : Type 0 where
  pub database : Database
  pub last : Option ℕ
  pub commits : ℕ

-- The database before any commit; which text makes what of what those before it made; the name of the first constraint that is
-- violated, none where none is; what is ahead of a run over that, where the log has so many bytes; and what there is behind the first
-- so many commits of a run over these items.
pub record Meaning : Type 1 where
  pub empty : Database
  pub Redone : Opened → List ℕ → Opened → Type 0
  pub violated : Opened → Option (List ℕ)
  pub future : Opened → ℕ → Future
  pub behind : Opened → ℕ → List Item → ℕ → Opened

abbrev pub nothing_logged : Meaning → Opened
nothing_logged m = record { database = m.empty; last = None; commits = 0 }
