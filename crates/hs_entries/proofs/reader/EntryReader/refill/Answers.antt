use Rattle.std.proofs.Common.{rules, ◌+◌, ◌++◌, refl, arith}
use Rattle.std.proofs.lemmas.List.{nil_from_length}
use Rattle.hs_entries.specs.Window.{left_of}
use Rattle.hs_entries.proofs.LeftSteps.{refill_on, refill_grows}
use Rattle.hs_entries.proofs.reader.EntryReader.refill.Goals as goal

pub returns-clause-gets : goal.returns-clause-gets
returns-clause-gets g c = λ told.
    let w = c.args.self.now.window in
    let after = c.refill.new.self in
    let done = c.in_ok-more.ensures in
    let got = done.bytes told in
    record {
      continues = refill_on (c.args.self.now.count + 1) w after (g.S.Source.unread c.args.source.now) (g.S.Source.unread c.refill.new.source) c.args.self.now.sound done.sound
          c.requires.looked done.refilled.begun done.refilled.place done.room got.bytes;
      bytes = search rules;
      end = got.end;
    }

pub returns-clause-refills : goal.returns-clause-refills
returns-clause-refills g c =
    let w = c.args.self.now.window in
    let after = c.refill.new.self in
    let done = c.in_ok-more.ensures in
    record {
      begun = done.refilled.begun;
      fresh = done.refilled.fresh;
      fresh_room = search rules;
      more = λ more. refill_grows w after c.args.self.now.sound done.sound c.requires.looked done.room (done.refilled.more.0 more);
      some = search rules;
      none = λ no. nil_from_length (left_of after) (grind (arith, done.refilled.more, no));
      on = λ rest.
          refill_on (c.args.self.now.count + 1) w after (left_of after ++ rest) rest c.args.self.now.sound done.sound c.requires.looked done.refilled.begun done.refilled.place
          done.room refl;
    }
