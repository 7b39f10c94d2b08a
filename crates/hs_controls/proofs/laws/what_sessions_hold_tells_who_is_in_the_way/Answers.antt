use Rattle.hs_tied.proofs.Blocking.{blockers_within, open_within}
use Rattle.hs_controls.proofs.Waiting.{blockers_set, leading_set, open_set}
use Rattle.hs_controls.proofs.laws.what_sessions_hold_tells_who_is_in_the_way.Goals as goal

pub returns-clause-blockers : goal.returns-clause-blockers
returns-clause-blockers c = λ m h holds named s wanted set is. blockers_set m h holds named s wanted set is

pub returns-clause-open_ : goal.returns-clause-open_
returns-clause-open_ c = λ m h holds named set is. open_set m h holds named set is

pub returns-clause-blockers_have_numbers : goal.returns-clause-blockers_have_numbers
returns-clause-blockers_have_numbers c = λ k h holds s wanted set is b at e. blockers_within h k holds s wanted set is b at e

pub returns-clause-open_have_numbers : goal.returns-clause-open_have_numbers
returns-clause-open_have_numbers c = λ k h holds set is b at e. open_within h k holds set is b at e

pub returns-clause-leading : goal.returns-clause-leading
returns-clause-leading c = λ m h holds ways named s set found within first. leading_set m h holds named ways s set found within first
