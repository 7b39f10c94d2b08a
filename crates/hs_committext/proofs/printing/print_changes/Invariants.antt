use Rattle.std.proofs.Common.{◌≡◌, ◌++◌, drop}
use Rattle.hs_committext.specs.Commits.{changes_text}
use Rattle.hs_committext.proofs.printing.print_changes.Given as goal

abbrev pub invariant-loop-change : goal.invariant-loop-change
invariant-loop-change g l =
    l.out ++ changes_text (g.C.Conditions.wording l.conditions) l.catalog (drop l.change-index l.changes)
    ≡ l.fn.out ++ changes_text (g.C.Conditions.wording l.conditions) l.catalog l.changes
