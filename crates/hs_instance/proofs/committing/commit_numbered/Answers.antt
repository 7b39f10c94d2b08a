use Rattle.std.proofs.Common.{◌≡◌, ◌+◌, ◌^◌, ◌≤◌, [], true, List, IfOk, length, sym, ap, ◌∙◌, subst, arith}
use Rattle.hs_turns.specs.Numbers.{numbered}
use Rattle.hs_plan.specs.declared.change.Change.{Change}
use Rattle.hs_logged.specs.Made.{Makes}
use Rattle.hs_instance.specs.Instance.{IsInstance}
use Rattle.hs_instance.specs.Lawful.{IsLawful, takes}
use Rattle.hs_instance.proofs.Inserts.{stayed}
use Rattle.hs_instance.proofs.committing.commit_numbered.Goals as goal

pub returns-then-may_stay : goal.returns-then-may_stay
returns-then-may_stay c = λ db s.
    let own = c.as_slice-own.result.now in
    let same : own ≡ c.args.changes.now = c.as_slice-own.ensures in
    let is = subst (λ (l : List Change). IsInstance db l c.args.instance.now) (sym same) s.is in
    let so = c.may_stay.ensures db is c.if-may_stay.true in
    let few : db.count + length own ≤ 2 ^ 48 = (let room = c.requires.room in let count = s.is.count in let long = ap length same in omega (arith, room, count, long)) in
    subst (λ (l : List Change). Makes takes (IsLawful [] c.settle.new.self) db (numbered db.count l) true) same
    (stayed db own s.sound c.settle.new.self few so.0 so.1 (c.in_ok-settle.ensures db is s.sound.numbered so.1))

pub make_all-requires : goal.make_all-requires
make_all-requires c =
    let db = c.requires.held.0 in
    let s = c.requires.held.1 in
    (db, record { is = c.in_ok-take_back.ensures db c.args.changes.now s.is; sound = s.sound })

pub returns : goal.returns
returns c = λ db s.
    let own = c.args.changes.now in
    let made : c.as_slice.result.now ≡ numbered db.count own = c.as_slice.ensures ∙ c.requires.numbered ∙ ap (λ n. numbered n own) s.is.count in
    subst (λ (l : List Change). IfOk c.make_all.result (Makes takes (IsLawful [] c.make_all.new.instance) db l)) made
    (c.make_all.ensures db (record { is = c.in_ok-take_back.ensures db own s.is; sound = s.sound }))
