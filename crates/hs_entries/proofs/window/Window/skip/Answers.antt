use Rattle.std.proofs.Common.{rules, ◌+◌, ap, arith}
use Rattle.hs_entries.specs.Place.{leads}
use Rattle.hs_entries.specs.declared.place.Place.TheVariants.{Between}
use Rattle.hs_entries.proofs.Leading.{passes_span, passes_on}
use Rattle.hs_entries.proofs.Spans.{span_none}
use Rattle.hs_entries.proofs.window.Window.skip.Goals as goal

pub returns-clause-sound : goal.returns-clause-sound
returns-clause-sound c =
    let w = c.args.self.now in
    record {
      skipped = omega arith;
      begun = omega arith;
      left = omega arith;
      end = search rules;
      size = search rules;
      room = omega arith;
      skips = passes_on w.buffer.items w.start (w.at + 1) (w.at + (1 + c.white_behind-count.result))
          (passes_span w.place w.buffer.items w.start w.first w.at c.requires.sound.skips c.requires.sound.leads c.requires.sound.skipped c.requires.sound.begun (omega arith) c.requires.goes_on c.requires.between)
          c.white_behind-count.ensures.passes (omega arith) (omega arith);
      leads = ap (leads Between) (span_none w.buffer.items (w.at + (1 + c.white_behind-count.result)));
    }
