use Rattle.std.proofs.Common.{◌≡◌, ℕ, List, ◌++◌, OnOk, sym, subst}
use Rattle.hs_plan.specs.declared.definition.Constraint.{Constraint}
use Rattle.hs_plan.specs.declared.definition.Definition.{Definition}
use Rattle.hs_shorttext.specs.Indexes.{index_text}
use Rattle.hs_alterationtext.specs.Alterations.{adding, alter_text}
use Rattle.hs_committext.specs.Definitions.{definition_text}
use Rattle.hs_committext.proofs.definition_printing.print_definition.Goals as goal

pub returns-in-AddColumn : goal.returns-in-AddColumn
returns-in-AddColumn g c =
    let wording = g.C.Conditions.wording c.args.conditions.now in
    let things = c.args.catalog.now in
    let old = c.args.out.now in
    let column = c.in-AddColumn.column in
    subst (λ (e : Definition). OnOk c.print_add_column.result (c.print_add_column.new.out ≡ old ++ definition_text wording things e)) (sym c.in-AddColumn.is)
    (subst (λ (name : List ℕ). OnOk c.print_add_column.result (c.print_add_column.new.out ≡ old ++ alter_text wording things name (adding column c.in-AddColumn.constraints))) c.as_str-in-AddColumn.ensures
    (subst (λ (cs : List Constraint). OnOk c.print_add_column.result (c.print_add_column.new.out ≡ old ++ alter_text wording things c.as_str-in-AddColumn.result.now (adding column cs))) c.as_slice-in-AddColumn.ensures c.print_add_column.ensures))

pub returns-in-CreateIndex : goal.returns-in-CreateIndex
returns-in-CreateIndex g c =
    let wording = g.C.Conditions.wording c.args.conditions.now in
    let things = c.args.catalog.now in
    let old = c.args.out.now in
    subst (λ (e : Definition). OnOk c.print_index.result (c.print_index.new.out ≡ old ++ definition_text wording things e)) (sym c.in-CreateIndex.is)
    (subst (λ (name : List ℕ). OnOk c.print_index.result (c.print_index.new.out ≡ old ++ index_text things name c.in-CreateIndex.table c.in-CreateIndex.columns)) c.as_str-in-CreateIndex.ensures
    (subst (λ (table : List ℕ). OnOk c.print_index.result (c.print_index.new.out ≡ old ++ index_text things c.as_str-in-CreateIndex.result.now table c.in-CreateIndex.columns)) c.as_str-in-CreateIndex-2.ensures
    (subst (λ (places : List ℕ). OnOk c.print_index.result (c.print_index.new.out ≡ old ++ index_text things c.as_str-in-CreateIndex.result.now c.as_str-in-CreateIndex-2.result.now places)) c.as_slice-in-CreateIndex.ensures c.print_index.ensures)))
