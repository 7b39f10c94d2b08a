-- The lists that are meant are those that complete what was read.
use Rattle.std.proofs.Common.{length}
use denote.Text.{Utf8}
use denote.Shadow.{shadow}
use Rattle.hs_columntext.proofs.ListLemmas.{SameLists}
use Rattle.hs_keytext.specs.Places.{IsPlace, place_text}
use Rattle.hs_keytext.proofs.places.read_others.Given as goal

abbrev pub invariant-loop-inner : goal.invariant-loop-inner
invariant-loop-inner l = shadow (Utf8 l.rest) × SameLists (IsPlace l.columns) (place_text l.columns) l.fn.places l.fn.text l.places l.rest

abbrev pub decreases-loop-inner : goal.decreases-loop-inner
decreases-loop-inner l = length l.rest
