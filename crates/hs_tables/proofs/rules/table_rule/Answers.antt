use Rattle.std.proofs.Common.{◌≡◌, subst}
use Rattle.hs_ast.specs.declared.definition.TableRule.TheVariants as table
use Rattle.hs_meaning.specs.Finding.{Finds}
use Rattle.hs_tables.specs.Rules.{reference, table_rule}
use Rattle.hs_tables.specs.Site.{seen}
use Rattle.hs_tables.proofs.rules.table_rule.Goals as goal

pub returns-in-ForeignKey : goal.returns-in-ForeignKey
returns-in-ForeignKey g c =
    let s = seen c.args.site.now in
    let at = c.args.at in
    let list = c.in-ForeignKey.list in
    let key = c.in-ForeignKey.key in
    let is : table.ForeignKey list key ≡ c.args.rule.now = cc in
    subst (λ r. Finds (table_rule s at r) c.args.faults.now c.reference.new.faults c.reference.result) is
    (subst (λ l. Finds (reference s at l key) c.args.faults.now c.reference.new.faults c.reference.result) c.as_slice-columns.ensures c.reference.ensures)
