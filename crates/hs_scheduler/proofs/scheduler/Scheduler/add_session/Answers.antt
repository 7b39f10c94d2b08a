use Rattle.std.proofs.Common.{◌<◌, List, length, sym, ap, ◌∙◌, subst}
use Rattle.indexmap.proofs.MapLemmas.{OnOk-map}
use Rattle.hs_schema.specs.Catalogue.{Text}
use Rattle.hs_sides.specs.Sides.{side_of}
use Rattle.hs_scheduler.proofs.Items.{added_is}
use Rattle.hs_scheduler.proofs.scheduler.Scheduler.add_session.Goals as goal

pub admit-requires : goal.admit-requires
admit-requires g c =
    let is = c.requires.machine.2 in
    record { stands = (c.requires.machine.0, side_of c.requires.machine.1, (is.engine, subst (λ n. n < 64) (ap (λ (n : List Text). length n) is.beside.names ∙ sym is.beside.settings) c.requires.few)) }

pub returns : goal.returns
returns g c = record {
  machine = λ w m is. OnOk-map c.add.result _ _ (λ names. added_is g.E.Engine w m c.args.self.now _ c.args.name.now is c.requires.few (ap (λ (n : List Text). record c.args.self.now { engine = c.admit.new.self; names = n }) names) (c.in_ok-admit.ensures w (side_of m) is.engine)) c.add.ensures.ok;
}
