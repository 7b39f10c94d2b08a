-- What payloads mean, as far as the order of damages asks.
use Rattle.std.specs.Prelude.{ℕ, Bool, List, [], ◌∷◌, ◌++◌}
use Rattle.hs_damages.specs.declared.part.Part.{Part}
use Rattle.hs_damages.specs.declared.part.Part.TheVariants.{Checkpoint, Images, Commits}

-- the payloads that were taken of each part
pub record Taken : Type 0 where
  pub base : List (List ℕ)
  pub images : List (List ℕ)
  pub logged : List (List ℕ)

abbrev pub nothing : Taken
nothing = record { base = []; images = []; logged = [] }

abbrev pub of_part : Taken → Part → List (List ℕ)
of_part taken Checkpoint = taken.base
of_part taken Images = taken.images
of_part taken Commits = taken.logged

-- these payloads more of a part
abbrev pub and_more : Taken → Part → List (List ℕ) → Taken
and_more taken Checkpoint payloads = record taken { base = taken.base ++ payloads }
and_more taken Images payloads = record taken { images = taken.images ++ payloads }
and_more taken Commits payloads = record taken { logged = taken.logged ++ payloads }

-- one payload more
abbrev pub and_one : Taken → Part → List ℕ → Taken
and_one taken part payload = and_more taken part (payload ∷ [])

-- What payloads mean: which may come next of a part, behind all that were taken, and whether a part may end there.
pub record Meaning : Type 0 where
  pub allows : Taken → Part → List ℕ → Bool
  pub ends : Taken → Part → Bool
