use Rattle.std.proofs.Common.{◌+◌, length, refl, sym}
use Rattle.hs_instance.proofs.Behind.{remade}
use Rattle.hs_instance.proofs.instance.Instance.remake.Goals as goal

pub returns : goal.returns
returns c = λ db seated is none.
    remade db seated c.args.changes.now c.args.self.now c.commit.new.self (c.args.self.now.count + length c.args.changes.now) is none refl
    (c.in_ok-commit.ensures db seated is.rows (sym is.count) none)
