use Rattle.std.proofs.Common.{◌+◌, ◌^◌, nat_le, [], length, sym, ap, ◌∙◌, leb-true}
use Rattle.std.proofs.lemmas.Bool.{and_parts, both_ways}
use Rattle.std.proofs.lemmas.Result.{IfOk-weaker}
use Rattle.hs_applicable.specs.Applicable.{may_make_each}
use Rattle.hs_turns.specs.Database.{has_room}
use Rattle.hs_instance.specs.Lawful.{IsLawful}
use Rattle.hs_instance.proofs.Ongoing.{with_room}
use Rattle.hs_instance.proofs.making.make_all.Goals as goal

pub returns-then-not-has_room : goal.returns-then-not-has_room
returns-then-not-has_room c = λ db s may.
    let cs = c.args.changes.now in
    let parts = and_parts (has_room db cs) (may_make_each db cs) may in
    both_ways (has_room db cs) (ap (λ n. nat_le (n + length cs) (2 ^ 48)) (sym s.is.count) ∙ sym c.has_room.ensures ∙ c.if-not-has_room.true) parts.0

pub make_each-requires-clause-room : goal.make_each-requires-clause-room
make_each-requires-clause-room c = leb-true (c.args.instance.now.count + length c.args.changes.now) (2 ^ 48) (sym c.has_room.ensures ∙ c.if-not-has_room.false)

pub returns : goal.returns
returns c = λ db s.
    let cs = c.args.changes.now in
    IfOk-weaker c.make_each.result _ _
    (λ is_made made.
    with_room (IsLawful [] c.make_each.new.instance) db cs (ap (λ n. nat_le (n + length cs) (2 ^ 48)) (sym s.is.count) ∙ sym c.has_room.ensures ∙ c.if-not-has_room.false) is_made made)
    (c.make_each.ensures db s)
