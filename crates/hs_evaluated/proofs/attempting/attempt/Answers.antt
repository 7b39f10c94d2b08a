use Rattle.hs_changes.specs.Changes.{after_changes, count_all_inserted}
use Rattle.hs_turns.specs.Database.{view}
use Rattle.hs_evaluated.proofs.Attempted.{is_after}
use Rattle.hs_evaluated.proofs.attempting.attempt.Goals as goal

pub returns-clause-seated : goal.returns-clause-seated
returns-clause-seated c = λ maps behind is. c.in_ok-advance.ensures.seated maps behind (c.accept.ensures.seated maps behind is)

pub returns-clause-violated : goal.returns-clause-violated
returns-clause-violated c = λ db behind is same held.
    let at = c.accept.ensures.seated db.rows behind is in
    c.in_ok-first.ensures (count_all_inserted behind) (view db behind) c.args.changes.now
    (is_after db behind c.args.changes.now c.args.cat.now c.accept.new.self c.advance.new.self same held at
    (c.accept.ensures.before (after_changes 0 db.rows behind) is.rows) c.accept.ensures.touched
    (c.in_ok-advance.ensures.seated db.rows behind at) c.in_ok-advance.ensures.touches)
