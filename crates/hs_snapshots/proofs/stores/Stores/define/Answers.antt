use Rattle.std.proofs.Common.{[], inr, refl}
use Rattle.std.proofs.lemmas.Result.{IfOk-weaker}
use Rattle.hs_snapshots.proofs.Standing.{commits_over, over_stands}
use Rattle.hs_snapshots.proofs.stores.Stores.define.Goals as goal

pub define-requires-clause-defined : goal.define-requires-clause-defined
define-requires-clause-defined g c =
    let d = c.requires.defined in
    record {
      w = d.w;
      commits = d.commits;
      text = d.text;
      stands = over_stands g.S.Store.stands c.args.self.now d.w d.commits [] (inr refl) d.stands;
      valid = d.valid;
      defines = d.defines;
      room = d.room;
    }

pub returns-clause-committed : goal.returns-clause-committed
returns-clause-committed g c = λ w commits is k session changes.
    IfOk-weaker c.define.result _ _
    (λ made h. commits_over g.S.Store.stands c.args.self.now _ w commits [] (inr refl) refl refl is k c.args.made.now c.define.new.made made h)
    (c.define.ensures.committed w commits (over_stands g.S.Store.stands c.args.self.now w commits [] (inr refl) is) k session changes)
