use Rattle.std.proofs.Common.{◌≡◌, rules, sym, ◌∙◌, count_by}
use Rattle.std.proofs.lemmas.List.Sums.{length-filter}
use Rattle.hs_outlines.specs.Named.{is_primary_key}
use Rattle.hs_plan.specs.declared.definition.Constraint.{Constraint}
use Rattle.hs_applicable.proofs.limits.primary_keys.Goals as goal

pub returns : goal.returns
returns c =
    let many : c.count.result ≡ count_by (λ (k : Constraint). is_primary_key k.rule) c.args.constraints.now = search rules in
    many ∙ sym (length-filter (λ (k : Constraint). is_primary_key k.rule) c.args.constraints.now)
