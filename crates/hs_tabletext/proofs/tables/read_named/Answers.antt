use Rattle.std.proofs.Common.{◌≡◌, ℕ, List, subst, ◌∙◌}
use Rattle.std.specs.Cow.{cow_str_bytes}
use Rattle.hs_tabletext.specs.Tables.{Body, IsBodyText}
use Rattle.hs_tabletext.proofs.TableLemmas.{named_found}
use Rattle.hs_tabletext.proofs.tables.read_named.Goals as goal

pub returns-in-Some : goal.returns-in-Some
returns-in-Some g c =
    let wording = g.C.Conditions.wording c.args.conditions.now in
    let rest = c.in-Ok-Some.rest.now in
    let body = c.in-Some.body in
    named_found wording c.args.catalog.now c.args.text.now (cow_str_bytes c.in-Ok-Some.name) rest c.in_ok-from_text-in-Some.field-0 body
    (rw c.in-Ok-Some.field-0-is at c.in-Ok-Some.ensures)
    (subst (λ (name : List ℕ). IsBodyText wording c.args.catalog.now name rest body × ((b : Body) → IsBodyText wording c.args.catalog.now name rest b → b ≡ body)) c.as_str.ensures.value (rw c.in-Some.is at c.in_ok-body-in-Ok-Some.ensures))
    (c.in_ok-from_text-in-Some.ensures ∙ c.as_str-in-Some.ensures.value)
