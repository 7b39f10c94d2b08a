use Rattle.std.proofs.Common.{◌≡◌, drop}
use Rattle.hs_index.specs.Keys.{key_in, same_key}
use Rattle.hs_acting.proofs.keys.keeps_key.Given as goal

abbrev pub invariant-loop-column : goal.invariant-loop-column
invariant-loop-column l =
    let left = drop l.column-index l.columns in
    same_key (key_in l.columns l.old) (key_in l.columns l.new) ≡ same_key (key_in left l.old) (key_in left l.new)
