use Rattle.std.proofs.Common.{Some, ap, refl, ◌∙◌}
use Rattle.hs_clauses.proofs.Forms.{places_are}
use Rattle.hs_clauses.proofs.groups.groups_of.Goals as goal

pub returns-in_ok-places_of : goal.returns-in_ok-places_of
returns-in_ok-places_of c = λ things. rw c.if-grouped.true (ap Some (c.in_ok-places_of.ensures ∙ places_are things c.args.tables.now c.args.group_by.now))

pub returns-else-grouped : goal.returns-else-grouped
returns-else-grouped c = λ things. rw c.if-grouped.false refl
