use Rattle.std.proofs.Common.{List, ℕ}
use Rattle.hs_valuetext.proofs.Bits.{alike_ok}
use Rattle.hs_columntext.specs.Lists.{AreSome, Completes}
use Rattle.hs_columntext.proofs.ListLemmas.{some_from, from_some, some_missing}
use Rattle.hs_keytext.specs.Places.{IsPlace, place_text}
use Rattle.hs_keytext.proofs.places.read_some.Goals as goal

pub returns-in_ok-places-in-Ok-Some : goal.returns-in_ok-places-in-Ok-Some
returns-in_ok-places-in-Ok-Some c =
    let first = rw c.in-Ok-Some.field-0-is at c.in-Ok-Some.ensures in
    alike_ok (λ (x : List ℕ). x) (Completes (IsPlace c.args.columns.now) (place_text c.args.columns.now) c.in_ok-places-in-Ok-Some.places c.in-Ok-Some.rest.now) (AreSome (IsPlace c.args.columns.now) (place_text c.args.columns.now) c.args.text.now)
    (some_from (IsPlace c.args.columns.now) (place_text c.args.columns.now) c.args.text.now c.in-Ok-Some.rest.now c.in-Ok-Some.place c.in_ok-places-in-Ok-Some.places first c.in_ok-places-in-Ok-Some.ensures)
    (from_some (IsPlace c.args.columns.now) (place_text c.args.columns.now) c.args.text.now c.in-Ok-Some.rest.now c.in-Ok-Some.place c.in_ok-places-in-Ok-Some.places first c.in_ok-places-in-Ok-Some.ensures)
    c.read_others.result c.read_others.ensures

pub returns-in-Ok-None : goal.returns-in-Ok-None
returns-in-Ok-None c = some_missing (IsPlace c.args.columns.now) (place_text c.args.columns.now) c.args.text.now (rw c.in-Ok-None.field-0-is at c.in-Ok-None.ensures)
