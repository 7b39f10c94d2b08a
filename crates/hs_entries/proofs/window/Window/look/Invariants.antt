use Rattle.std.proofs.Common.{◌≡◌, ◌-◌}
use Rattle.hs_entries.specs.Window.{ahead_of, room_of, IsSound}
use Rattle.hs_entries.proofs.window.Window.look.Given as goal

abbrev pub invariant-loop-most : goal.invariant-loop-most
invariant-loop-most l =
    record {
      sound : IsSound l.self;
      ahead : ahead_of l.self ≡ ahead_of l.fn.self;
      room : room_of l.self ≡ room_of l.fn.self;
    }

abbrev pub decreases-loop-most : goal.decreases-loop-most
decreases-loop-most l = l.self.end - l.self.at
