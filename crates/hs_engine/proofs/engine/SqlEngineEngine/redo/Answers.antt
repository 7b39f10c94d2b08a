use Rattle.std.proofs.Common.{◌+◌, refl, subst}
use Rattle.hs_conditions.specs.Texts.{checks}
use Rattle.hs_instance.specs.Lawful.{stands_for, takes}
use Rattle.hs_logged.specs.Read.{Redoes, StandsFor}
use Rattle.hs_system.specs.Meaning.{state_of}
use Rattle.hs_engine.proofs.Engines.{makes_nothing, redone}
use Rattle.hs_engine.proofs.engine.SqlEngineEngine.redo.Goals as goal

pub returns-in-Ok-clause-made : goal.returns-in-Ok-clause-made
returns-in-Ok-clause-made c = λ made opened s.
    let new = c.redo.new.self in
    let r = subst (Redoes checks takes (StandsFor stands_for new.database new.last) (state_of opened) c.args.text.now) made (c.in-Ok.ensures (state_of opened) s.held) in
    let by = redone c.args.self.now (record { replay = new; commits = c.args.self.now.commits + 1; alloc = c.args.self.now.alloc }) opened c.args.text.now s refl r in
    (by.next, (by.only, by.stands))

pub returns-in-Ok-clause-none : goal.returns-in-Ok-clause-none
returns-in-Ok-clause-none c = λ none opened s next.
    let new = c.redo.new.self in
    makes_nothing opened next c.args.text.now (StandsFor stands_for new.database new.last)
    (subst (Redoes checks takes (StandsFor stands_for new.database new.last) (state_of opened) c.args.text.now) none (c.in-Ok.ensures (state_of opened) s.held))
