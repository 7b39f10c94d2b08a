use Rattle.std.proofs.Common.{[]}
use Rattle.std.proofs.lemmas.Result.{IfOk-weaker}
use Rattle.hs_copied.specs.Copies.{maps_of}
use Rattle.hs_exec.proofs.over_copies.OverCopiesEvaluates.equalities.Goals as goal

pub returns : goal.returns
returns c = IfOk-weaker c.of.result _ _ (λ all asks. asks (maps_of c.args.self.now.copies.now) []) c.of.ensures
