-- A run over what texts made is in a world that takes just the commits that can be made again.
use Rattle.std.proofs.Common.{◌≡◌, ℕ, ◌+◌, ◌≤◌, ◌&&◌, Bool, true, false, List, [], ◌∷◌, ◌++◌, length, refl, sym, ap, subst, ◌∙◌}
use Rattle.hs_turns.specs.Database.{Database}
use Rattle.hs_turns.specs.Numbers.{numbered}
use Rattle.hs_entering.specs.Taken.{IsKept, IsTaken}
use Rattle.hs_gate.specs.Groups.{spelled}
use Rattle.hs_turns.specs.Histories.{Commit, now}
use Rattle.hs_logged.specs.Entered.{Decides}
use Rattle.hs_logged.specs.Logged.{HasRoom, IsLogged}
use Rattle.hs_logged.specs.Over.{IsMadeOver, room_over, text_over}
use Rattle.hs_logged.specs.declared.logbook.Logbook.{Logbook}
use Rattle.hs_logged.proofs.Over.{made}
use Rattle.hs_logged.specs.Redone.{State}
use Rattle.hs_schema.specs.Catalogue.{Things}
use Rattle.hs_seams.specs.World.{World, texts_from}
use Rattle.hs_system.specs.Governed.{IsGoverned}
use Rattle.hs_system.specs.Openings.{log_at, may, room_behind, world_of}
use Rattle.hs_system.specs.System.{System}

-- ---- tests

-- a sentence of two parts, each of which is tested
both : (P Q R : Type 0) (a b : Bool) → Decides P a → Decides Q b → (P → Q → R) → (R → P × Q) → Decides R (a && b)
both P Q R true true p q make parts = make p q
both P Q R true false p q make parts = λ r. q (parts r).1
both P Q R false b p q make parts = λ r. p (parts r).0

decides_itself : (b : Bool) → Decides (b ≡ true) b
decides_itself true = refl
decides_itself false = λ is. absurd cc

-- ---- texts

-- what a world's texts are doesn't depend on its language
texts_same : (a b : World) → ((commits : List Commit) (k : Commit) → a.text commits k ≡ b.text commits k) → (before commits : List Commit) → texts_from a before commits ≡ texts_from b before commits
texts_same a b same before [] = refl
texts_same a b same before (k ∷ ks) =
    ap (λ (t : List ℕ). t ∷ texts_from a (before ++ k ∷ []) ks) (same before k) ∙ ap (λ (ts : List (List ℕ)). b.text before k ∷ ts) (texts_same a b same (before ++ k ∷ []) ks)

module _ (is_named : Things → Bool) (Regular : Database → Type 0) (y : System) (g : IsGoverned is_named Regular y) (at : State) (count size : ℕ) where
  abbrev book : Logbook
  book = log_at y at size

  abbrev w : World
  w = world_of y at count size

  abbrev room : List Commit → Commit → Bool
  room = room_over y.wording y.has_text book at.database

  -- the world in which the log's room alone counts
  abbrev plain : World
  plain = record {
    run = record { dialect = y.dialect room; opening = at.database; made = count };
    text = text_over y.wording book at.database;
  }

  over : IsMadeOver y.wording y.has_text book plain
  over = record { text = λ commits k. refl; room = λ commits k. (g.language room).room_ commits k }

  logged : IsLogged y.wording book plain
  logged = made y.wording y.has_text book plain g.texts over

  has_room : (commits : List Commit) (k : Commit) → HasRoom y.wording book plain commits k → HasRoom y.wording book w commits k
  has_room commits k h = record {
    text = h.text;
    fits = subst (λ (ts : List (List ℕ)). book.size + length (spelled ts) + 1 ≤ book.limit) (texts_same plain w (λ cs c. refl) [] (commits ++ k ∷ [])) h.fits;
  }

  had_room : (commits : List Commit) (k : Commit) → HasRoom y.wording book w commits k → HasRoom y.wording book plain commits k
  had_room commits k h = record {
    text = h.text;
    fits = subst (λ (ts : List (List ℕ)). book.size + length (spelled ts) + 1 ≤ book.limit) (texts_same w plain (λ cs c. refl) [] (commits ++ k ∷ [])) h.fits;
  }

  abbrev may_be : List Commit → Commit → Bool
  may_be commits k = y.may_make (now at.database commits) (numbered (now at.database commits).count k.changes)

  taken : (commits : List Commit) (k : Commit) → Decides (IsTaken y.wording (may y) book w commits k) (room commits k && may_be commits k)
  taken commits k =
      both (HasRoom y.wording book plain commits k) (may_be commits k ≡ true) (IsTaken y.wording (may y) book w commits k) (room commits k) (may_be commits k)
      (subst (Decides (HasRoom y.wording book plain commits k)) ((g.language room).room_ commits k) (logged.room commits k))
      (decides_itself (may_be commits k))
      (λ h may. record { room = has_room commits k h; may = may })
      (λ is. (had_room commits k is.room, is.may))

  pub kept : IsKept y.wording (may y) book w
  kept = record {
    text = λ commits k. refl;
    room = λ commits k. subst (Decides (IsTaken y.wording (may y) book w commits k)) (sym ((g.language (room_behind y at size)).room_ commits k)) (taken commits k);
  }
