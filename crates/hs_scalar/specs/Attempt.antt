-- What an attempt to match a pattern from the start of a text on tells.
use Rattle.std.specs.Prelude.{◌≡◌, ℕ, ◌<◌, ◌≤◌, true, false, List, length}
use Rattle.std.specs.declared.option.Option.{Option}
use Rattle.std.specs.Str.{chars}
use Rattle.hs_scalar.specs.declared.matching.Attempt.{Attempt}
use Rattle.hs_scalar.specs.declared.matching.Attempt.TheVariants.{Whole, Fails, TooShort, Run}
use Rattle.hs_scalar.specs.Like.{items_of, matches, some_end_passes}

-- the text, and some end of it, is like the pattern just where some end of `rest` is like `later`, which are no longer
pub record RunsOn (escape : Option ℕ) (pattern text rest later : List ℕ) : Type 0 where
  pub whole : matches (items_of escape (chars pattern)) (chars text) ≡ some_end_passes (matches (items_of escape (chars later))) (chars rest)
  pub ends : some_end_passes (matches (items_of escape (chars pattern))) (chars text) ≡ some_end_passes (matches (items_of escape (chars later))) (chars rest)
  pub rest_fits : length rest ≤ length text
  pub later_fits : length later < length pattern

abbrev pub AttemptTells : Option ℕ → List ℕ → List ℕ → Attempt → Type 0
AttemptTells escape pattern text Whole = matches (items_of escape (chars pattern)) (chars text) ≡ true
AttemptTells escape pattern text Fails = matches (items_of escape (chars pattern)) (chars text) ≡ false
AttemptTells escape pattern text TooShort = some_end_passes (matches (items_of escape (chars pattern))) (chars text) ≡ false
AttemptTells escape pattern text (Run rest later) = RunsOn escape pattern text rest.now later.now
