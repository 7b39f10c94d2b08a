use Rattle.std.proofs.Common.{◌+◌, length, refl, sym}
use Rattle.hs_instance.proofs.Behind.{remade}
use Rattle.hs_instance.proofs.Inserts.{row_kinds}
use Rattle.hs_instance.proofs.instance.Instance.settle.Goals as goal

pub returns : goal.returns
returns c = λ db is numbered all.
    let cs = c.args.changes.now in
    remade db cs cs c.args.self.now c.settle.new.seated (c.args.self.now.count + length cs) is (row_kinds cs all) refl (c.in_ok-settle.ensures db is.rows (sym is.count) numbered all)
