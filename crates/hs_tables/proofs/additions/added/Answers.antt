use Rattle.std.proofs.Common.{◌≡◌, List, [], length, subst, ap, ◌∙◌}
use Rattle.std.specs.Option.{option_map}
use Rattle.hs_ast.specs.declared.definition.TableElement.{TableElement}
use Rattle.hs_elements.specs.Columns.{columns_of}
use Rattle.hs_elements.specs.Faults.{Text}
use Rattle.hs_outlines.specs.declared.written.Written.{Written}
use Rattle.hs_outlines.specs.Columns.{columns_faults, definitions}
use Rattle.hs_outlines.specs.Elements.{elements_of}
use Rattle.hs_outlines.specs.Limits.{beyond}
use Rattle.hs_outlines.specs.Named.{AreNamed, name_faults, primary_name, written}
use Rattle.hs_plan.specs.declared.fault.Which.TheVariants as which
use Rattle.hs_typed.specs.Faults.{noted}
use Rattle.hs_tables.proofs.Adding.{noted_all, same_sight}
use Rattle.hs_tables.specs.Additions.{base, every_column, named, sight_by, whole}
use Rattle.hs_tables.specs.Rules.{rules}
use Rattle.hs_tables.specs.Site.{Sight, sight_of}
use Rattle.hs_tables.proofs.additions.added.Goals as goal

pub returns-clause-constraints : goal.returns-clause-constraints
returns-clause-constraints g c =
    let things = c.args.catalog.now in
    let at = c.args.at in
    let b = base c.args.before.now in
    let els : List TableElement = elements_of c.args.elements in
    let all = c.in_ok-all.all in
    let keys = c.as_slice-2.result.now in
    let names = c.in_ok-names.names.items in
    let ws : c.as_slice.result.now ≡ written els = c.as_slice.ensures ∙ c.in_ok-written.ensures in
    let same : sight_by things b.name all keys ≡ sight_of things (whole b els) =
    same_sight things b els all keys c.in_ok-all.ensures.columns c.in_ok-all.ensures.names (c.as_slice-2.ensures ∙ c.in_ok-keys.ensures) in
    let asked = rules (sight_of things (whole b els)) els in
    let f = c.all_columns.new.faults in
    let h = c.name_all.new.faults in
    let k = c.rules_over.new.faults in
    let m = c.note_beyond.new.faults in (
      names,
      record {
        named = subst (λ (w : List Written). AreNamed things b.name [] w names) ws c.in_ok-names.ensures.named;
        part = c.in_ok-into_constraints.ensures
            ∙ ap (λ (ns : List Text). option_map (named ns) c.in_ok-rules.rules) c.deref.ensures.value
            ∙ ap (option_map (named names)) (c.in_ok-rules.ensures.rules ∙ ap (λ (s : Sight). (rules s els).part) same);
        noted = noted_all c.args.faults.now f h k m c.note_beyond-2.new.faults
            (columns_faults (columns_of [] b.columns) (definitions els))
            (name_faults things [] (primary_name b.constraints) (written els) names)
            asked.faults
            (beyond at which.Columns (length (every_column b els)) 0)
            (beyond at which.Constraints (length b.constraints) (length (written els)))
            c.in_ok-all.ensures.noted
            (c.in_ok-names.ensures.noted ∙ (λ i. noted f (name_faults things [] (c.in_ok-first.ensures i) (ws i) names)))
            (c.in_ok-rules.ensures.noted ∙ ap (λ (s : Sight). noted h (rules s els).faults) same)
            (c.note_beyond.ensures ∙ ap (λ n. noted k (beyond at which.Columns n 0)) (c.len.ensures ∙ ap length c.in_ok-all.ensures.columns))
            (c.note_beyond-2.ensures ∙ ap (λ n. noted m (beyond at which.Constraints (length b.constraints) n)) (c.len-2.ensures ∙ ap length c.in_ok-written.ensures));
      },
    )
