use Rattle.std.proofs.Common.{rules, arith}
use Rattle.hs_entries.specs.declared.place.Place.TheVariants.{Between}
use Rattle.hs_entries.proofs.Leading.{leads_span}
use Rattle.hs_entries.proofs.window.Window.advance.Goals as goal

pub returns-clause-sound : goal.returns-clause-sound
returns-clause-sound c =
    let w = c.args.self.now in
    record {
      skipped = search rules;
      begun = omega arith;
      left = search rules;
      end = search rules;
      size = search rules;
      room = omega arith;
      skips = search rules;
      leads = leads_span Between w.place c.args.place w.buffer.items w.first w.at c.args.count w.end c.requires.sound.leads c.requires.leads c.requires.sound.begun c.requires.there;
    }
