use Rattle.std.proofs.Common.{rules, ◌+◌, ◌≤◌, ap, sym, arith}
use Rattle.std.proofs.lemmas.List.Edits.{length-between}
use Rattle.hs_entries.specs.Place.{leads, passes}
use Rattle.hs_entries.specs.declared.place.Place.TheVariants.{Between}
use Rattle.hs_entries.proofs.Spans.{span_none, drop-span}
use Rattle.hs_entries.proofs.window.Window.use_to.Goals as goal

pub returns-clause-sound : goal.returns-clause-sound
returns-clause-sound c =
    let w = c.args.self.now in
    let there : w.at + c.args.count ≤ w.end = grind (arith, length-between) in
    record {
      skipped = omega arith;
      begun = omega arith;
      left = there;
      end = search rules;
      size = search rules;
      room = omega arith;
      skips = ap (passes Between) (span_none w.buffer.items (w.at + c.args.count));
      leads = ap (leads Between) (span_none w.buffer.items (w.at + c.args.count));
    }

pub returns-clause-ahead : goal.returns-clause-ahead
returns-clause-ahead c =
    let w = c.args.self.now in
    let there : w.at + c.args.count ≤ w.end = grind (arith, length-between) in
    sym (drop-span w.buffer.items c.args.count w.at w.end there)
