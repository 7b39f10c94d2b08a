-- Entries that are refused.
use Rattle.std.specs.Prelude.{◌≡◌, Some}
use Rattle.hs_changes.specs.Changes.{count_all_inserted}
use Rattle.hs_turns.specs.Histories.{Open}
use Rattle.hs_schema.specs.Catalogue.{Text}
use Rattle.hs_seams.specs.World.{World}
use Rattle.hs_turns.specs.Attempts.{seen_by}
use Rattle.hs_turns.specs.Dialect.{language_of, refused}
use Rattle.hs_turns.specs.Machine.{Machine, open_of}
use Rattle.hs_turns.specs.Waiting.{Entry}

-- as a statement of the open transaction of its session an entry is refused for this reason
abbrev pub IsRefused : World → Machine → Entry → Text → Type 0
IsRefused w m entry why = (o : Open) → open_of m entry.session ≡ Some o
    → (language_of w.run.dialect).outcome o.read_only (count_all_inserted o.trace.changes) (seen_by w.run.dialect w.run.opening w.run.made m o) entry.text ≡ refused why
