-- START TRANSACTION, and events that begin a transaction.
use Rattle.std.proofs.Common.{◌≡◌, ◌||◌, Bool, true, false, List, [], ◌∷◌, refl, sym, ap, subst, codes}
use Rattle.std.specs.Prelude.{None}
use Rattle.hs_ast.specs.declared.session.Modes.{Modes as NewModes}
use Rattle.hs_plan.specs.declared.change.Change.{Change}
use Rattle.hs_turns.specs.Histories.{Commit}
use Rattle.hs_lines.specs.declared.words.Words.{Words as Said}
use Rattle.hs_lines.specs.declared.words.Words.TheVariants as said
use Rattle.hs_seams.specs.declared.attempted.Attempted.{Attempted}
use Rattle.hs_seams.specs.World.{World}
use Rattle.hs_sides.specs.Sides.{side_of}
use Rattle.hs_turns.specs.Attempts.{attempt_start, begins_event, named}
use Rattle.hs_turns.specs.Dialect.{open_transaction}
use Rattle.hs_turns.specs.Lines.{Replies}
use Rattle.hs_turns.specs.Machine.{Machine, is_open}
use Rattle.hs_turns.specs.Waiting.{Entry}
use Rattle.hs_turns.specs.Attempts.{refused_in_place}
use Rattle.hs_tied.specs.Kept.{opened}
use Rattle.hs_moves.specs.Parts.{Parts}
use Rattle.hs_moves.specs.Fits.{Fits, kept_of}
use Rattle.hs_moves.specs.Moves.{Moves}
use Rattle.hs_moves.specs.Answers.{ok_told}
use Rattle.hs_moves.proofs.Steps.{takes_is}
use Rattle.hs_moves.proofs.Texts.{makes_none, said_one}

module _ {S : Type 0} (At : S → World → List Commit → List Change → Type 0) (w : World) (m : Machine) (new : Parts S) (r : Attempted) (told told' : List Said) (modes : NewModes) (entry : Entry) where
  abbrev Start : Bool → Type 0
  Start open_ = Moves At w m (attempt_start w.run.dialect w.run.opening w.run.made open_ modes entry m) new r told told' [] []

  -- one is open
  pub start_refused : is_open m entry.session ≡ true → Moves At w m (refused_in_place w.run.dialect w.run.opening w.run.made entry open_transaction m) new r told told' [] [] → Start (is_open m entry.session)
  start_refused opens h = subst Start (sym opens) h

  -- one begins, with the modes that are named
  pub starts : is_open m entry.session ≡ false → Fits At new w (opened entry.session false (kept_of (side_of (named w.run.dialect w.run.opening w.run.made modes entry.session m)))) → r.is_final ≡ true → r.has_ended ≡ false → told' ≡ ok_told told None → Start (is_open m entry.session)
  starts shut fits final ended is =
      let n = named w.run.dialect w.run.opening w.run.made modes entry.session m in
      subst Start (sym shut)
      (subst (λ (x : Machine). Moves At w m (record { words = Replies (codes "ok") None ∷ []; final = true; next = x }) new r told told' [] []) (sym (takes_is w n (begins_event w.run.dialect w.run.opening w.run.made n entry.session)))
      (record {
        fits = fits;
        words = said_one m.names told told' (said.Reply (codes "ok") None) (Replies (codes "ok") None) is refl;
        final = final;
        ended = ap (λ (b : Bool). b || m.again) (sym ended);
        makes = makes_none w m.history.commits [];
      }))
