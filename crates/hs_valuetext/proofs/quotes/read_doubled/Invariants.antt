-- What is read, and what is left.
use Rattle.std.proofs.Common.{length}
use Rattle.std.specs.Prelude.{string_bytes}
use denote.Text.{Utf8}
use denote.Shadow.{shadow}
use Rattle.hs_valuetext.proofs.QuoteLemmas.{HasRead}
use Rattle.hs_valuetext.proofs.quotes.read_doubled.Given as goal

abbrev pub invariant-loop-front : goal.invariant-loop-front
invariant-loop-front l = shadow (Utf8 l.rest) × HasRead l.quote l.fn.text (string_bytes l.content) l.rest

abbrev pub decreases-loop-front : goal.decreases-loop-front
decreases-loop-front l = length l.rest
