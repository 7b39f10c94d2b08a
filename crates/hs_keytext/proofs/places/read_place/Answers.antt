use Rattle.std.proofs.Common.{sym, ◌∙◌}
use Rattle.std.specs.Cow.{cow_str_bytes}
use Rattle.hs_keytext.proofs.PlaceLemmas.{place_found, place_unknown}
use Rattle.hs_keytext.proofs.places.read_place.Goals as goal

pub returns-in-Some : goal.returns-in-Some
returns-in-Some c =
    place_found c.args.columns.now c.args.text.now (cow_str_bytes c.in-Ok-Some.name) c.in-Ok-Some.rest.now c.in-Some.place
    (rw c.in-Ok-Some.field-0-is at c.in-Ok-Some.ensures)
    (sym c.begins_end.ensures ∙ c.if-not-begins_end.false)
    (rw c.as_str.ensures.value at c.in-Some.ensures)

pub returns-in-Ok-Some : goal.returns-in-Ok-Some
returns-in-Ok-Some c =
    place_unknown c.args.columns.now c.args.text.now (cow_str_bytes c.in-Ok-Some.name) c.in-Ok-Some.rest.now
    (rw c.in-Ok-Some.field-0-is at c.in-Ok-Some.ensures)
    (rw c.as_str.ensures.value at c.in-None.ensures)
