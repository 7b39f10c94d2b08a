-- What a run tells and makes, piece by piece.
use Rattle.std.specs.Prelude.{◌≡◌, ℕ, ◌+◌, List, [], ◌∷◌, ◌++◌, length}
use Rattle.hs_machine.specs.Acknowledged.{AcknowledgesLines}
use Rattle.hs_run.specs.declared.gathered.Gathered.{Gathered}
use Rattle.hs_run.specs.Lines.{opened_line, closed_line}

-- a piece: the bytes that it tells, and the texts of the commits that it makes
pub record Piece : Type 0 where
  pub told : List ℕ
  pub made : List (List ℕ)

abbrev pub told_by : List Piece → List ℕ
told_by [] = []
told_by (p ∷ ps) = p.told ++ told_by ps

abbrev pub made_by : List Piece → List (List ℕ)
made_by [] = []
made_by (p ∷ ps) = p.made ++ made_by ps

-- Each piece tells whole lines, and of no commit that isn't made with it or before it; so many were made before the first.
abbrev pub AreTrue : ℕ → List Piece → Type 0
AreTrue commits [] = Unit {0}
AreTrue commits (p ∷ ps) = AcknowledgesLines p.told (commits + length p.made) × AreTrue (commits + length p.made) ps

-- The first of these pieces was gathered, and the others are left.
pub record Gives (pieces others : List Piece) (old new : Gathered) : Type 0 where
  pub piece : Piece
  pub is : pieces ≡ piece ∷ others
  pub told : new.told ≡ old.told ++ piece.told
  pub made : new.made ≡ old.made ++ piece.made

-- all that is told of a run that begins with so many commits: the first line, its pieces, and the last line
abbrev pub transcript : ℕ → List Piece → List ℕ
transcript commits pieces = opened_line commits ++ (told_by pieces ++ closed_line (commits + length (made_by pieces)))

-- the first line, and pieces behind it
abbrev pub transcript_within : ℕ → List Piece → List ℕ
transcript_within commits pieces = opened_line commits ++ told_by pieces
