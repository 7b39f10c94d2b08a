use Rattle.hs_instance.proofs.Behind.{redefined}
use Rattle.hs_instance.proofs.instance.Instance.define.Goals as goal

pub returns : goal.returns
returns c = λ db is.
    redefined db c.args.definition.now c.args.self.now is c.redefined_rows.new.cat c.in_ok-self.field-0 c.redefined_rows.new.seated c.level_after-self.result c.control_after-self.result
    c.in_ok-redefined_rows.ensures.things c.in_ok-self.ensures (c.in_ok-redefined_rows.ensures.rows db.rows is.rows) c.level_after-self.ensures c.control_after-self.ensures
