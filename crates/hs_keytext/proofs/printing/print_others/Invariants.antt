use Rattle.std.proofs.Common.{◌≡◌, ◌++◌, drop}
use Rattle.hs_columntext.specs.Lists.{others_text}
use Rattle.hs_keytext.specs.Places.{place_text}
use Rattle.hs_keytext.proofs.printing.print_others.Given as goal

abbrev pub invariant-loop-place : goal.invariant-loop-place
invariant-loop-place l = l.out ++ others_text (place_text l.columns) (drop l.place-index l.places) ≡ l.fn.out ++ others_text (place_text l.columns) l.places
