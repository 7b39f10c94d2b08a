use Rattle.std.proofs.Common.{◌≡◌, ℕ, List, subst, ◌∙◌}
use Rattle.std.specs.Cow.{cow_str_bytes}
use Rattle.hs_alterationtext.specs.declared.alteration.Alteration.{Alteration}
use Rattle.hs_alterationtext.specs.Alterations.{IsAltered}
use Rattle.hs_alterationtext.proofs.AlterLemmas.{named_found, named_unaltered}
use Rattle.hs_alterationtext.proofs.altered.read_named.Goals as goal

pub returns-in-Some : goal.returns-in-Some
returns-in-Some g c =
    let wording = g.C.Conditions.wording c.args.conditions.now in
    let things = c.args.catalog.now in
    let rest = c.in-Ok-Some.rest.now in
    let found = c.in-Some.alteration in
    named_found wording things c.args.text.now (cow_str_bytes c.in-Ok-Some.name) rest c.in_ok-from_text-in-Some.field-0 found
    (rw c.in-Ok-Some.field-0-is at c.in-Ok-Some.ensures)
    (subst (λ (name : List ℕ). IsAltered wording things name rest found × ((b : Alteration) → IsAltered wording things name rest b → b ≡ found)) c.as_str.ensures.value (rw c.in-Some.is at c.in_ok-alteration-in-Ok-Some.ensures))
    (c.in_ok-from_text-in-Some.ensures ∙ c.as_str-in-Some.ensures.value)

pub returns-in-Ok-Some : goal.returns-in-Ok-Some
returns-in-Ok-Some g c =
    let wording = g.C.Conditions.wording c.args.conditions.now in
    let things = c.args.catalog.now in
    let rest = c.in-Ok-Some.rest.now in
    named_unaltered wording things c.args.text.now (cow_str_bytes c.in-Ok-Some.name) rest
    (rw c.in-Ok-Some.field-0-is at c.in-Ok-Some.ensures)
    (subst (λ (name : List ℕ). (b : Alteration) → ¬ (IsAltered wording things name rest b)) c.as_str.ensures.value (rw c.in-None.is at c.in_ok-alteration-in-Ok-Some.ensures))
