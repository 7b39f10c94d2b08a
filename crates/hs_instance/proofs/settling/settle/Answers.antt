use Rattle.std.proofs.Common.{sym, subst}
use Rattle.hs_turns.specs.Database.{apply}
use Rattle.hs_seated.specs.Rows.{AreRows}
use Rattle.hs_seated.specs.declared.seated_rows.SeatedRows.{SeatedRows}
use Rattle.hs_instance.proofs.settling.settle.Goals as goal

pub returns : goal.returns
returns c = λ db is count numbered all.
    let maps = (apply db c.args.changes.now).rows in
    let made = c.in_ok-renumber_all.ensures db is.rows count numbered all in
    c.over.ensures maps (c.accept.ensures.rows maps (subst (λ (rows : SeatedRows). AreRows maps rows) (sym c.replace-rows.ensures.value) made))
