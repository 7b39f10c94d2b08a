-- What is written, with what is still to be written, is the whole.
use Rattle.std.proofs.Common.{◌≡◌, ◌++◌, length}
use denote.Text.{Utf8}
use denote.Shadow.{shadow}
use Rattle.hs_valuetext.specs.Quotes.{doubled}
use Rattle.hs_valuetext.proofs.quotes.push_doubled.Given as goal

abbrev pub invariant-loop-front : goal.invariant-loop-front
invariant-loop-front l = shadow (Utf8 l.rest) × (l.out ++ doubled l.quote l.rest ≡ l.fn.out ++ doubled l.quote l.fn.text)

abbrev pub decreases-loop-front : goal.decreases-loop-front
decreases-loop-front l = length l.rest
