use Rattle.std.proofs.Common.{◌≡◌, ◌+◌, ◌^◌, ◌≤◌, ◌<◌, length, false}
use Rattle.hs_entries.specs.Calls.{UsesSource}
use Rattle.hs_entries.specs.Left.{Continues}
use Rattle.hs_entries.specs.Asking.{Gathers}
use Rattle.hs_entries.specs.Window.{IsFresh}
use Rattle.hs_entries.specs.Reader.{left_within, room, ahead}
use Rattle.hs_entries.proofs.reader.EntryReader.skip_from.Given as goal

abbrev pub invariant-skims : goal.invariant-skims
invariant-skims g l =
    record {
      continues : g.S.Source.tells → Continues (left_within l.fn.self l.fn.from (g.S.Source.unread l.fn.source)) (left_within l.self l.place (g.S.Source.unread l.source));
      fresh : IsFresh l.self.window;
      some : 0 < length (ahead l.self);
      number : l.self.count + 1 + room l.self < 2 ^ 64;
      count : l.self.count ≡ l.fn.self.count;
      shrinks : room l.self ≤ room l.fn.self;
      grows : room l.self + length (ahead l.fn.self) ≤ room l.fn.self + length (ahead l.self);
      kept : l.self.kept ≡ l.fn.self.kept;
      goes_on : l.self.has_ended ≡ false;
      gathers : Gathers g.S.Source.reads (left_within l.fn.self l.fn.from) (left_within l.self l.place) l.fn.source l.source;
      uses : UsesSource g.S.Source l.fn.source l.source;
      calm : g.S.Source.input_faults l.source ≡ g.S.Source.input_faults l.fn.source;
    }

abbrev pub decreases-skims : goal.decreases-skims
decreases-skims g l = room l.self
