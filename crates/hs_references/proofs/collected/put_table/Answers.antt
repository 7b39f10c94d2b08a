use Rattle.std.proofs.Common.{◌==◌, ◌++◌, List, [], cond, sym, ap, ◌∙◌}
use Rattle.std.proofs.lemmas.Result.{on_ok_weaker}
use Rattle.hs_actions.specs.Referencing.{keys_on}
use Rattle.hs_actions.specs.declared.reference.Reference.{Reference}
use Rattle.hs_acting.specs.Kept.{keys_in}
use Rattle.hs_references.specs.Referenced.{references_on}
use Rattle.hs_references.proofs.Collecting.{empty_from, kept, put, some_from}
use Rattle.hs_references.proofs.collected.put_table.Goals as goal

pub returns-then-is_empty : goal.returns-then-is_empty
returns-then-is_empty c =
    let old = keys_on (keys_in c.args.keys.now) in
    on_ok_weaker c.put_all.result
    (λ is. put old (keys_on (keys_in c.put_all.new.keys)) c.args.table.0 (references_on c.args.cat.now c.args.table)
    (sym c.on.ensures ∙ empty_from c.on.result.now c.is_empty.result c.is_empty.ensures c.if-is_empty.true)
    (λ t. is t ∙ ap (λ (xs : List Reference). old t ++ cond (t == c.args.table.0) xs []) c.in_ok-found.ensures))
    c.put_all.ensures

pub returns : goal.returns
returns c =
    kept (keys_on (keys_in c.args.keys.now)) c.args.table.0 (references_on c.args.cat.now c.args.table)
    (λ none. some_from c.on.result.now c.is_empty.result c.is_empty.ensures c.if-is_empty.false (c.on.ensures ∙ none))
