-- What an engine tells, and how it is left.
use Rattle.std.specs.Prelude.{◌≡◌, Bool, List, [], ◌∷◌, ◌++◌, Option, None, codes, map}
use Rattle.hs_base.specs.declared.numbers.CommitNo.{CommitNo}
use Rattle.hs_turns.specs.Histories.{Commit}
use Rattle.hs_lines.specs.declared.words.Words.{Words as Said}
use Rattle.hs_lines.specs.declared.words.Words.TheVariants as said
use Rattle.hs_plan.specs.declared.change.Change.{Change}
use Rattle.hs_schema.specs.Catalogue.{Text}
use Rattle.hs_seams.specs.World.{World}
use Rattle.hs_seams.specs.declared.attempted.Attempted.{Attempted}
use Rattle.hs_turns.specs.Dialect.{refused_words}
use Rattle.hs_tied.specs.Kept.{Kept}
use Rattle.hs_moves.specs.Fits.{Fits}
use Rattle.hs_moves.specs.Parts.{Parts}

-- ---- the words behind those that were told before

abbrev pub ok_told : List Said → Option CommitNo → List Said
ok_told told commit = told ++ said.Reply (codes "ok") commit ∷ []

abbrev pub refusal_told : List Said → Text → List Said
refusal_told told why = told ++ said.Reply (refused_words why) None ∷ []

-- the lines of an outcome
abbrev pub outcome_told : List Said → List Text → Text → Option CommitNo → List Said
outcome_told told rows reply commit = told ++ map said.Row rows ++ said.Reply reply commit ∷ []

-- ---- behind an attempt

-- an engine stands for what is kept, answers or waits, tells whether a transaction ended, and has told these words
pub record IsLeft {S : Type 0} (At : S → World → List Commit → List Change → Type 0) (w : World) (k : Kept) (new : Parts S) (r : Attempted) (final ended : Bool) (told expected : List Said) : Type 0 where
  pub fits : Fits At new w k
  pub final_is : r.is_final ≡ final
  pub ended_is : r.has_ended ≡ ended
  pub told_is : told ≡ expected
