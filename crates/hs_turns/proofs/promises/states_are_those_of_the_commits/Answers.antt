use Rattle.std.proofs.Common.{List, take, fold, sym, ap, ◌∙◌}
use Rattle.std.proofs.lemmas.List.Folds.{fold-map}
use Rattle.std.specs.List.{take-map}
use Rattle.hs_sessions.specs.declared.commit.Commit.{Commit as SessionCommit}
use Rattle.hs_turns.specs.Database.{after_commit}
use Rattle.hs_turns.specs.Histories.{session_commit}
use Rattle.hs_turns.proofs.promises.states_are_those_of_the_commits.Goals as goal

pub returns : goal.returns
returns c = λ kind opening commits k.
    sym (ap (λ (cs : List SessionCommit). fold after_commit opening cs) (take-map (session_commit kind) k commits)
    ∙ fold-map after_commit (session_commit kind) opening (take k commits))
