use Rattle.std.proofs.lemmas.Result.{IfOk-weaker}
use Rattle.hs_before.specs.Family.{is_in}
use Rattle.hs_exec.proofs.reads.read_before.Goals as goal

pub returns-clause-before : goal.returns-clause-before
returns-clause-before g c = λ tells.
    IfOk-weaker c.rows_before.result _ _ (λ held agree. record { changed = is_in c.in_ok-changed.changed; are = c.in_ok-changed.ensures.tables; agree = agree })
    (c.rows_before.ensures.rows tells)
