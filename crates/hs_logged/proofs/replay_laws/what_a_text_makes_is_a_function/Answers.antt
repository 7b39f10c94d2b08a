use Rattle.hs_logged.proofs.Reading.{as_function, as_relation, none_here, none_there}
use Rattle.hs_logged.proofs.replay_laws.what_a_text_makes_is_a_function.Goals as goal

pub returns : goal.returns
returns g c =
    let wording = g.C.Conditions.wording c.args.conditions.now in
    let takes = g.D.Restored.takes in
    record {
      some = λ reader test reads tests at next text. (as_relation wording takes reader test reads tests at text next, as_function wording takes reader test reads tests at text next);
      none = λ reader test reads tests at text. (none_there wording takes reader test reads tests at text, none_here wording takes reader test reads tests at text);
    }
