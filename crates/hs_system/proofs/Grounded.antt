-- What texts made, in a system.
use Rattle.std.proofs.Common.{◌≡◌, ℕ, ◌+◌, ◌≤◌, List, [], ◌∷◌, length, sym, ap, subst, arith}
use Rattle.std.specs.Prelude.{Bool}
use Rattle.hs_turns.specs.Database.{Database, apply}
use Rattle.hs_turns.proofs.Applied.{apply-count}
use Rattle.hs_logged.specs.Redone.{IsRedone, State}
use Rattle.hs_schema.specs.Catalogue.{Things}
use Rattle.hs_seams.specs.Stores.{IsWorld}
use Rattle.hs_system.specs.Governed.{IsGoverned}
use Rattle.hs_system.specs.Openings.{IsSound, Make, first, may, room_behind, world_of}
use Rattle.hs_system.specs.System.{System}

module _ (is_named : Things → Bool) (Regular : Database → Type 0) (y : System) (g : IsGoverned is_named Regular y) where
  database_is : (at next : State) (text : List ℕ) (r : IsRedone y.wording (may y) at text next) → next.database ≡ apply at.database r.changes
  database_is at next text r = ap (λ (s : State). s.database) r.is

  one_regular : (at next : State) (text : List ℕ) → IsRedone y.wording (may y) at text next → Regular at.database → Regular next.database
  one_regular at next text r is = subst Regular (sym (database_is at next text r)) (g.kept at.database at.last text r.session r.changes is r.of r.may)

  one_counted : (at next : State) (text : List ℕ) → IsRedone y.wording (may y) at text next → at.database.count + 1 ≤ next.database.count
  one_counted at next text r =
      let same = ap (λ (db : Database). db.count) (database_is at next text r) in
      let some = r.of.of.committed.some in
      let more = apply-count at.database r.changes in
      omega (arith, same, some, more)

  all_regular : (texts : List (List ℕ)) (at last : State) → Make y at texts last → Regular at.database → Regular last.database
  all_regular [] at last made is = subst (λ (s : State). Regular s.database) (sym made) is
  all_regular (text ∷ texts) at last made is = all_regular texts made.0 last made.2 (one_regular at made.0 text made.1 is)

  all_counted : (texts : List (List ℕ)) (at last : State) → Make y at texts last → at.database.count + length texts ≤ last.database.count
  all_counted [] at last made = let same = ap (λ (s : State). s.database.count) made in omega (arith, same)
  all_counted (text ∷ texts) at last made = let rest = all_counted texts made.0 last made.2 in let one = one_counted at made.0 text made.1 in omega (arith, rest, one)

  pub made_regular : (texts : List (List ℕ)) (at : State) → Make y (first y) texts at → Regular at.database
  made_regular texts at made = all_regular texts (first y) at made g.empty

  pub made_counted : (texts : List (List ℕ)) (at : State) → Make y (first y) texts at → length texts ≤ at.database.count
  made_counted texts at made = let all = all_counted texts (first y) at made in omega (arith, all)

  pub world_is : (texts : List (List ℕ)) (at : State) (made size : ℕ) → IsSound y texts at → IsWorld (world_of y at made size)
  world_is texts at made size sound =
      let room = room_behind y at size in
      let regular = g.regular at.database (made_regular texts at sound.made) in
      let language = g.language room in
      record {
        laws = language.laws;
        opened = (regular.valid room sound.clean, regular.rows);
      }
