use Rattle.std.proofs.Common.{◌≡◌, true, [], List, take, refl, sym, ◌∙◌, subst, arith}
use Rattle.std.proofs.lemmas.Bool.{both_ways}
use Rattle.std.proofs.lemmas.List.{take_all}
use Rattle.hs_applicable.specs.Applicable.{may_make, may_make_each}
use Rattle.hs_turns.specs.Database.{Database, apply}
use Rattle.hs_plan.specs.declared.change.Change.{Change}
use Rattle.hs_seated.proofs.Made.{count_at, made_on}
use Rattle.hs_instance.specs.Lawful.{IsLawful}
use Rattle.hs_instance.proofs.Ongoing.{each_at, each_on}
use Rattle.hs_instance.proofs.making.make_each.Goals as goal

pub loop-change-init : goal.loop-change-init
loop-change-init c = λ db s. (refl, s)

pub returns-then-not-may_be_made : goal.returns-then-not-may_be_made
returns-then-not-may_be_made c = λ db s may.
    let i = c.loop-change.change-index in
    let cs = c.args.changes.now in
    let x = c.change-item.result in
    let so_far = c.loop-change.invariant db s in
    both_ways (may_make (apply db (take i cs)) x) (sym (c.may_be_made.ensures (apply db (take i cs)) so_far.1.is) ∙ c.if-not-may_be_made.true)
    (each_at db cs i x c.loop-change-test.true c.change-item.is may)

pub make_one-requires-clause-room : goal.make_one-requires-clause-room
make_one-requires-clause-room c =
    let db = c.requires.held.0 in
    let s = c.requires.held.1 in
    let low = c.loop-change-test.true in
    let now = (c.loop-change.invariant db s).1.is.count in
    let at = count_at db c.args.changes.now c.loop-change.change-index c.loop-change-test.true in
    let first = s.is.count in
    let room = c.requires.room in
    omega (arith, low, now, at, first, room)

pub make_one-requires-clause-held : goal.make_one-requires-clause-held
make_one-requires-clause-held c =
    let db = c.requires.held.0 in
    let now = apply db (take c.loop-change.change-index c.args.changes.now) in
    let so_far = c.loop-change.invariant db c.requires.held.1 in
    (now, (so_far.1, sym (c.may_be_made.ensures now so_far.1.is) ∙ c.if-not-may_be_made.false))

pub loop-change-preserved : goal.loop-change-preserved
loop-change-preserved c = λ db s.
    let i = c.loop-change.change-index in
    let cs = c.args.changes.now in
    let x = c.change-item.result in
    let now = apply db (take i cs) in
    let so_far = c.loop-change.invariant db s in
    let may = sym (c.may_be_made.ensures now so_far.1.is) ∙ c.if-not-may_be_made.false in (
      each_on db cs i x c.loop-change-test.true c.change-item.is so_far.0 may,
      subst (λ (d : Database). IsLawful [] c.make_one.new.instance d) (sym (made_on db cs i x c.loop-change-test.true c.change-item.is)) (c.in_ok-make_one.ensures now so_far.1 may),
    )

pub returns : goal.returns
returns c = λ db s.
    subst (λ (l : List Change). (may_make_each db l ≡ true) × IsLawful [] c.loop-change.instance (apply db l)) (take_all c.loop-change.change-index c.args.changes.now c.loop-change-test.false)
    (c.loop-change.invariant db s)
