use Rattle.std.proofs.Common.{◌≡◌, ◌∙◌, true, false, List, [], ap, subst, sym}
use Rattle.std.specs.List.{list_any}
use Rattle.hs_turns.specs.Database.{is_definition}
use Rattle.hs_turns.specs.Numbers.{numbered}
use Rattle.hs_entering.proofs.Taking.{left_by, settled_by}
use Rattle.hs_instance.specs.Lawful.{IsLawful, stands_for, takes}
use Rattle.hs_instance.specs.declared.restoring.Restoring.{Restoring}
use Rattle.hs_logged.specs.Entered.{Enters}
use Rattle.hs_logged.specs.Made.{Makes}
use Rattle.hs_plan.specs.declared.change.Change.{Change}
use Rattle.hs_seams.specs.Stores.{present}
use Rattle.hs_seated.proofs.Counted.{numbered_kinds}
use Rattle.hs_engine.proofs.Standing.{left_so, made_so, rows_writable}
use Rattle.hs_engine.proofs.committing.committed.Goals as goal

pub enter-requires-clause-plain : goal.enter-requires-clause-plain
enter-requires-clause-plain g c = g.met.C.CheckTexts.plain c.args.conditions.now

pub enter-requires-clause-writable : goal.enter-requires-clause-writable
enter-requires-clause-writable g c =
    let x = c.requires.at in
    let of_rows : list_any is_definition c.in_ok-own.own ≡ false =
    ap (list_any is_definition) c.in_ok-own.ensures ∙ (numbered_kinds c.args.database.now.instance.count c.args.changes.now ∙ x.2.lawful.is.rows.of_rows)
    in
    rows_writable (g.C.Conditions.wording c.args.conditions.now) c.args.database.now.instance.catalog c.in_ok-own.own of_rows

pub commit_numbered-requires-clause-held : goal.commit_numbered-requires-clause-held
commit_numbered-requires-clause-held g c = let x = c.requires.at in (present x.0 x.1, x.2.lawful)

pub returns-then-not-has_room-clause-committed : goal.returns-then-not-has_room-clause-committed
returns-then-not-has_room-clause-committed g c = λ w commits s k by is.
    let wording = g.C.Conditions.wording c.args.conditions.now in
    let things = c.args.database.now.instance.catalog in
    let own = (λ i. numbered (sym s.lawful.is.count i) (is i)) ∙ sym c.in_ok-own.ensures in
    let enters = subst (Enters wording things c.args.session c.in_ok-own.own c.args.book.now c.enter.new.self c.new-text.result c.enter.new.made) c.if-not-has_room.true c.in_ok-has_room.ensures.entered in
    left_so wording s.start c.args.book.now c.args.book.now w commits k s.world c.args.changes.now c.args.database.now c.args.database.now c.args.made.now c.args.made.now
    (left_by wording takes s.start c.args.book.now w commits k s.world.kept s.behind things c.args.session c.in_ok-own.own s.lawful.is.things by own stands_for c.args.database.now c.args.made.now enters.0)
    s.behind s.lawful

pub returns-clause-committed : goal.returns-clause-committed
returns-clause-committed g c = λ w commits s k by is.
    let wording = g.C.Conditions.wording c.args.conditions.now in
    let things = c.args.database.now.instance.catalog in
    let db = present w commits in
    let new : Restoring = record { instance = c.commit_numbered.new.instance } in
    let own = (λ i. numbered (sym s.lawful.is.count i) (is i)) ∙ sym c.in_ok-own.ensures in
    let enters = subst (Enters wording things c.args.session c.in_ok-own.own c.args.book.now c.enter.new.self c.new-text.result c.enter.new.made) c.if-not-has_room.false c.in_ok-has_room.ensures.entered in
    let makes = subst (Makes takes (IsLawful [] c.commit_numbered.new.instance) db (numbered db.count c.args.changes.now)) c.if-not-may.false (c.in_ok-may.ensures db s.lawful) in
    let numbers : numbered db.count c.args.changes.now ≡ c.in_ok-own.own = ap (λ n. numbered n c.args.changes.now) (sym s.lawful.is.count) ∙ sym c.in_ok-own.ensures in
    made_so wording s.start c.args.book.now c.enter.new.self w commits k s.world c.args.changes.now c.args.database.now new c.args.made.now c.append.new.self
    (settled_by wording takes s.start c.args.book.now w commits k s.world.kept s.behind things c.args.session c.in_ok-own.own s.lawful.is.things by own stands_for c.args.database.now new c.enter.new.self c.new-text.result c.enter.new.made c.args.made.now c.append.new.self
    enters (subst (λ (l : List Change). Makes takes (stands_for new) db l true) numbers makes) c.new-text.ensures c.in_ok-append.ensures.ok)
