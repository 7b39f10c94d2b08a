use Rattle.std.proofs.Common.{◌∷◌, [], sym, subst}
use Rattle.std.specs.Prelude.{None, codes}
use Rattle.indexmap.proofs.MapLemmas.{OnOk-map}
use Rattle.hs_entries.specs.declared.item.Item.{Item}
use Rattle.hs_futures.specs.Futures.{takes}
use Rattle.hs_turns.specs.Dialect.{refused_words}
use Rattle.hs_turns.specs.Lines.{OfItem, Replies, no_session}
use Rattle.hs_scheduler.specs.Turned.{IsTurned}
use Rattle.hs_scheduler.proofs.Items.{bad_is, long_is, told_is}
use Rattle.hs_scheduler.proofs.scheduler.Scheduler.take_item.Goals as goal

pub returns-in-Bad-clause-turned : goal.returns-in-Bad-clause-turned
returns-in-Bad-clause-turned g c = λ w m is.
    OnOk-map c.tell.result _ _ (λ told. subst (λ (i : Item). IsTurned g.E.Engine w m (takes w i m) c.tell.new.self c.args.gathered.now c.tell.new.gathered) (sym c.in-Bad.is)
    (bad_is g.E.Engine w m c.tell.new.self c.in-Bad.number c.args.gathered.now c.tell.new.gathered (told_is g.E.Engine w m c.args.self.now c.tell.new.self (OfItem c.in-Bad.number no_session (Replies (refused_words (codes "entry")) None) ∷ []) c.args.gathered.now c.tell.new.gathered is c.tell.ensures.same told c.tell.ensures.made))) c.tell.ensures.told

pub returns-in-TooLong-clause-turned : goal.returns-in-TooLong-clause-turned
returns-in-TooLong-clause-turned g c = λ w m is.
    OnOk-map c.tell-in-TooLong.result _ _ (λ told. subst (λ (i : Item). IsTurned g.E.Engine w m (takes w i m) c.tell-in-TooLong.new.self c.args.gathered.now c.tell-in-TooLong.new.gathered) (sym c.in-TooLong.is)
    (long_is g.E.Engine w m c.tell-in-TooLong.new.self c.in-TooLong.number c.args.gathered.now c.tell-in-TooLong.new.gathered (told_is g.E.Engine w m c.args.self.now c.tell-in-TooLong.new.self (OfItem c.in-TooLong.number no_session (Replies (refused_words (codes "too long")) None) ∷ []) c.args.gathered.now c.tell-in-TooLong.new.gathered is c.tell-in-TooLong.ensures.same told c.tell-in-TooLong.ensures.made))) c.tell-in-TooLong.ensures.told
