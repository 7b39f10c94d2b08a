use Rattle.std.proofs.Common.{◌≡◌, [], take, drop}
use Rattle.hs_elements.specs.Faults.{Text, least_of, repeated, is_among, names_of}
use Rattle.hs_elements.specs.Names.{is_held}
use Rattle.hs_elements.proofs.faults.Faults.repeated.Given as goal

abbrev pub invariant-loop-name : goal.invariant-loop-name
invariant-loop-name l = record {
  found : least_of l.self (repeated (names_of (take l.name-index l.names)) (drop l.name-index l.names)) ≡ least_of l.fn.self (repeated [] l.names);
  held : (t : Text) → is_held l.before t ≡ is_among (names_of (take l.name-index l.names)) t;
}
