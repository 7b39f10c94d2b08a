-- A scheduler at rest has nothing ahead of it before an item comes.
use Rattle.std.specs.Prelude.{◌≡◌, List, [], map}
use Rattle.std.proofs.Common.{sym, ap, ◌∙◌}
use Rattle.hs_futures.specs.Futures.{Rests}
use Rattle.hs_futures.proofs.Onward.{at_rest_}
use Rattle.hs_futures.proofs.Steps.{none_taken}
use Rattle.hs_queue.specs.Entries.{entry_of}
use Rattle.hs_run.specs.Future.{Future}
use Rattle.hs_seams.specs.World.{World}
use Rattle.hs_seams.specs.declared.engine.Engine as engine
use Rattle.hs_turns.specs.Machine.{Machine}
use Rattle.hs_turns.specs.Turns.{ready_among}
use Rattle.hs_turns.specs.Waiting.{Entry}
use Rattle.hs_scheduler.specs.Standing.{HasAhead, IsBeside, IsResting}
use Rattle.hs_scheduler.specs.declared.scheduler.Scheduler.{Scheduler}

-- it stands for a machine at rest
pub rests_is : {E : Type 0} (w : World) (m : Machine) (s : Scheduler E) → IsBeside s m → IsResting s → Rests w m
rests_is w m s b r = at_rest_ w m (sym b.pass ∙ ap (map entry_of) r.0) (sym b.again ∙ r.1.0) (ap (λ (l : List Entry). ready_among l m.queue) (sym b.seen) ∙ r.1.1 m.queue b.queue)

pub none_rests : {E : Type 0} (g : engine.Ghosts E) (s : Scheduler E) (f : Future) → IsResting s → HasAhead g s f → f.taken [] ≡ []
none_rests g s f r ahead = ap (λ (x : Future). x.taken []) ahead.1.1.1 ∙ none_taken ahead.0 ahead.1.0 (rests_is ahead.0 ahead.1.0 s ahead.1.1.0.beside r)
