use Rattle.std.proofs.Common.{◌≡◌, ◌∙◌}
use Rattle.std.specs.Cow.{cow_str_bytes}
use Rattle.hs_shorttext.proofs.IndexLemmas.{named_found, named_onless}
use Rattle.hs_shorttext.proofs.indexes.read_named.Goals as goal

pub returns-in-Some : goal.returns-in-Some
returns-in-Some c =
    named_found c.args.catalog.now c.args.text.now (cow_str_bytes c.in-Ok-Some.name) c.in-Ok-Some.rest.now c.in_ok-from_text-in-Some.field-0 c.in-Some.on
    (rw c.in-Ok-Some.field-0-is at c.in-Ok-Some.ensures)
    (rw c.in-Some.is at c.in_ok-on-in-Ok-Some.ensures)
    (c.in_ok-from_text-in-Some.ensures ∙ c.as_str.ensures.value)

pub returns-in-Ok-Some : goal.returns-in-Ok-Some
returns-in-Ok-Some c =
    named_onless c.args.catalog.now c.args.text.now (cow_str_bytes c.in-Ok-Some.name) c.in-Ok-Some.rest.now
    (rw c.in-Ok-Some.field-0-is at c.in-Ok-Some.ensures)
    (rw c.in-None.is at c.in_ok-on-in-Ok-Some.ensures)
