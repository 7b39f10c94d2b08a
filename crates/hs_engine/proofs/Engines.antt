-- What an engine of SQL stands for: before any text, behind each, and where it takes turns.
use Rattle.std.proofs.Common.{◌≡◌, ℕ, ◌+◌, ◌^◌, true, false, List, [], None, refl, sym, ap, subst, ◌∙◌}
use Rattle.hs_conditions.specs.Texts.{checks}
use Rattle.hs_instance.specs.Instance.{IsInstance, empty_database}
use Rattle.hs_logged.specs.Logged.{IsBehind}
use Rattle.hs_logged.specs.declared.logbook.Logbook.{Logbook}
use Rattle.hs_logged.proofs.Worlds.{begun}
use Rattle.hs_plainsql.specs.Naming.{are_named}
use Rattle.hs_program.specs.Lawful.{IsSound}
use Rattle.hs_program.specs.Meaning.{Opened, nothing_logged}
use Rattle.hs_program.specs.Opening.{MakesOnly}
use Rattle.hs_logged.specs.Read.{Redoes, StandsFor}
use Rattle.hs_logged.specs.Redone.{IsRedone, State}
use Rattle.hs_instance.specs.Lawful.{stands_for, takes}
use Rattle.hs_instance.proofs.Valid.{empty_sound}
use Rattle.hs_seams.specs.World.{World}
use Rattle.hs_engine.specs.Sql.{IsRegular, sql_system}
use Rattle.hs_engine.specs.Meets.{sql_governed}
use Rattle.hs_engine.specs.Store.{Stands as IsStore}
use Rattle.hs_system.specs.Meaning.{Makes, opened_as, state_of, world_at}
use Rattle.hs_system.specs.Openings.{log_at}
use Rattle.hs_system.proofs.Lawful.{world_opened}
use Rattle.hs_system.proofs.Opened.{opened_is, state_is}
use Rattle.hs_engine.specs.Standing.{Stands, sql_meaning}
use Rattle.hs_engine.specs.declared.engine.SqlEngine.{SqlEngine}
use Rattle.hs_engine.proofs.Worlds.{kept}

pub first_stands : (e : SqlEngine) → IsInstance empty_database [] e.replay.database.instance → e.replay.last ≡ None → e.commits ≡ 0 → Stands e (nothing_logged sql_meaning)
first_stands e is last none = record {
  held = record { held = record { is = is; sound = empty_sound }; behind = last };
  counted = none;
}

-- ---- one text more

-- an engine stands for what a text made of what another one stood for, and it makes nothing else
pub record IsRedoneBy (new : SqlEngine) (opened : Opened) (text : List ℕ) : Type 0 where
  pub next : Opened
  pub only : MakesOnly sql_meaning opened text next
  pub stands : Stands new next

pub redone : (old new : SqlEngine) (opened : Opened) (text : List ℕ) → Stands old opened → new.commits ≡ old.commits + 1
    → Redoes checks takes (StandsFor stands_for new.replay.database new.replay.last) (state_of opened) text true → IsRedoneBy new opened text
redone old new opened text s more r =
    let count = opened.commits + 1 in
    record {
      next = opened_as r.0 count;
      only = record {
        made = record { made = subst (IsRedone checks takes (state_of opened) text) (sym (state_is r.0 count)) r.1; counted = refl };
        only = λ other makes.
            sym (opened_is other) ∙ ap (λ (at : State). opened_as at other.commits) (r.2 (state_of other) makes.made) ∙ ap (opened_as r.0) makes.counted;
      };
      stands = record {
        held = subst (StandsFor stands_for new.replay.database new.replay.last) (sym (state_is r.0 count)) r.3;
        counted = more ∙ ap (λ (n : ℕ). n + 1) s.counted;
      };
    }

pub makes_nothing : (opened next : Opened) (text : List ℕ) (Held : State → Type 0) → Redoes checks takes Held (state_of opened) text false → Makes sql_system opened text next → ⊥
makes_nothing opened next text Held none makes = none (state_of next) makes.made

-- ---- turns

module _ (e : SqlEngine) (opened : Opened) (size : ℕ) (s : Stands e opened) (sound : IsSound sql_meaning opened) where
  abbrev w : World
  w = world_at sql_system opened size

  behind : (book : Logbook) → book ≡ record { last = e.replay.last; size = size; limit = 2 ^ 30 } → IsBehind (log_at sql_system (state_of opened) size) w [] book
  behind book is =
      let start = log_at sql_system (state_of opened) size in
      let same : book ≡ start = is ∙ ap (λ last. record { last = last; size = size; limit = 2 ^ 30 }) s.held.behind in
      subst (IsBehind start w []) (sym same) (begun start w)

  pub store_stands : (book : Logbook) → book ≡ record { last = e.replay.last; size = size; limit = 2 ^ 30 } → IsStore checks e.replay.database.instance book w [] []
  store_stands book is = record {
    start = log_at sql_system (state_of opened) size;
    world = record {
      speaks = refl;
      kept = kept are_named IsRegular sql_system sql_governed (state_of opened) opened.commits size;
      world = world_opened are_named IsRegular sql_system sql_governed opened size sound;
    };
    lawful = s.held.held;
    behind = behind book is;
  }
