-- What a run of a database system promises.
use Rattle.std.proofs.Common.{◌≡◌, ℕ, ◌+◌, ◌≤◌, List, ◌++◌, length, sym, subst, arith}
use Rattle.std.specs.Prelude.{Bool, None}
use Rattle.hs_turns.specs.Database.{Database}
use Rattle.hs_entries.specs.declared.item.Item.{Item}
use Rattle.hs_program.specs.Lawful.{IsLawful, texts_over}
use Rattle.hs_program.specs.Lawful.{IsSound as IsSoundOpened}
use Rattle.hs_program.specs.Meaning.{Opened}
use Rattle.hs_program.specs.Opening.{AreRedone, IsReached}
use Rattle.hs_schema.specs.Catalogue.{Things}
use Rattle.hs_system.specs.Governed.{IsGoverned}
use Rattle.hs_system.specs.Openings.{IsSound, behind_at}
use Rattle.hs_system.specs.System.{System}
use Rattle.hs_run.specs.Running.{IsTrue}
use Rattle.hs_seams.specs.Stores.{IsWorld}
use Rattle.hs_system.proofs.Ahead.{begins_so, is_true_}
use Rattle.hs_system.proofs.Grounded.{made_counted, world_is}
use Rattle.hs_system.proofs.Remade.{first_long, remade_so}
use Rattle.hs_system.specs.Meaning.{behind_over, meaning_of, opened_as, state_of, world_at}
use Rattle.hs_system.proofs.Opened.{from_states, opened_is, so_many, to_states}

module _ (is_named : Things → Bool) (Regular : Database → Type 0) (y : System) (g : IsGoverned is_named Regular y) where
  pub sound_state : (opened : Opened) (s : IsSoundOpened (meaning_of y) opened) → IsSound y s.reached.0 (state_of opened)
  sound_state opened s = record { made = to_states y s.reached.0 _ opened s.reached.1; clean = s.valid }

  pub remade_opened : (opened : Opened) (size : ℕ) (s : IsSoundOpened (meaning_of y) opened) (items : List Item) (front rest : List (List ℕ)) → texts_over (meaning_of y) opened size items ≡ front ++ rest
      → AreRedone (meaning_of y) opened front (behind_over y opened size items (length front)) × (y.violated (behind_over y opened size items (length front)).database ≡ None)
  remade_opened opened size s items front rest is =
      let there = behind_at y (state_of opened) opened.commits size items (length front) in
      let found = remade_so is_named Regular y g (state_of opened) opened.commits size s.reached.0 items front rest (sound_state opened s) is in (
        subst (λ (n : ℕ). AreRedone (meaning_of y) opened front (opened_as there (opened.commits + n))) (sym (first_long is_named Regular y g (state_of opened) opened.commits size items front rest is))
            (subst (λ (o : Opened). AreRedone (meaning_of y) o front (opened_as there (opened.commits + length front))) (opened_is opened) (from_states y front (state_of opened) there opened.commits found.0)),
        found.1,
      )

  pub counted : (opened : Opened) → IsReached (meaning_of y) opened → opened.commits ≤ opened.database.count
  counted opened reached =
      let many = so_many y reached.0 _ opened reached.1 in
      let most = made_counted is_named Regular y g reached.0 (state_of opened) (to_states y reached.0 _ opened reached.1) in
      omega (arith, many, most)

  pub world_opened : (opened : Opened) (size : ℕ) → IsSoundOpened (meaning_of y) opened → IsWorld (world_at y opened size)
  world_opened opened size s = world_is is_named Regular y g s.reached.0 (state_of opened) opened.commits size (sound_state opened s)

  pub true_opened : (opened : Opened) (size : ℕ) → IsSoundOpened (meaning_of y) opened → IsTrue ((meaning_of y).future opened size)
  true_opened opened size s = is_true_ is_named Regular y g s.reached.0 (state_of opened) opened.commits size (sound_state opened s)

  pub lawful : IsLawful (meaning_of y)
  lawful = record {
    counts = λ opened next text makes. makes.counted;
    starts = g.clean;
    begins = λ opened size. begins_so y (state_of opened) opened.commits size;
    is_true = true_opened;
    remade = λ opened size s items told front rest is. remade_opened opened size s items front rest is;
  }
