use Rattle.std.proofs.Common.{◌≡◌, ap, sym, subst, None, ◌∙◌, ◌++◌, ◌∷◌, [], List, ℕ}
use Rattle.std.specs.Map.{lookup}
use Rattle.std.specs.Str.{bytes_eq}
use Rattle.hs_schema.specs.Catalogue.{owned_in}
use Rattle.hs_schema.specs.Kept.{IsFree}
use Rattle.hs_schema.specs.Texts.{texts}
use Rattle.hs_schema.proofs.Texts.{added}
use Rattle.hs_schema.proofs.making.own.Goals as goal

pub returns-in_ok-insert-clause-ok : goal.returns-in_ok-insert-clause-ok
returns-in_ok-insert-clause-ok c =
    let es = c.args.owners.now.entries in
    let table = c.args.thing.now.table in
    let own = c.in-Constraint.constraint.name in
    let same = c.into_string-name.ensures ∙ c.in_ok-copy.ensures in
    let free : lookup (bytes_eq own) (texts es) ≡ None = subst (λ p. IsFree (texts es) p) c.in-Constraint.is c.requires in
    ap texts c.in_ok-insert.ensures.entries ∙ added es c.into_string-name.result table (ap (λ (n : List ℕ). lookup (bytes_eq n) (texts es)) same ∙ free)
    ∙ ap (λ (n : List ℕ). texts es ++ (n, table) ∷ []) same ∙ ap (λ p. texts es ++ owned_in table p) (sym c.in-Constraint.is)
