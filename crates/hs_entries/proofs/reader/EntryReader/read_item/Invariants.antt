use Rattle.std.proofs.Common.{◌≡◌, ◌+◌, ◌-◌, ◌≤◌, true, length, false}
use Rattle.hs_entries.specs.Calls.{UsesSource}
use Rattle.hs_entries.specs.Left.{Continues}
use Rattle.hs_entries.specs.Asking.{Gathers}
use Rattle.hs_entries.specs.Reader.{left_over, next_number, room, ahead, is_at_hand}
use Rattle.hs_entries.proofs.reader.EntryReader.read_item.Given as goal

abbrev pub invariant-items : goal.invariant-items
invariant-items g l =
    record {
      continues : g.S.Source.tells → Continues (left_over l.fn.self (g.S.Source.unread l.fn.source)) (left_over l.self (g.S.Source.unread l.source));
      number : next_number l.self ≡ next_number l.fn.self;
      shrinks : room l.self ≤ room l.fn.self;
      kept : l.self.kept ≡ l.fn.self.kept;
      goes_on : l.self.has_ended ≡ false;
      ready : is_at_hand l.fn.self ≡ true → (l.source ≡ l.fn.source) × (is_at_hand l.self ≡ true);
      gathers : Gathers g.S.Source.reads (left_over l.fn.self) (left_over l.self) l.fn.source l.source;
      uses : UsesSource g.S.Source l.fn.source l.source;
      calm : g.S.Source.input_faults l.source ≡ g.S.Source.input_faults l.fn.source;
    }

abbrev pub decreases-items : goal.decreases-items
decreases-items g l = (room l.self + 1) - length (ahead l.self)
