use Rattle.std.proofs.Common.{◌≡◌, ◌∙◌, ◌+◌, false, ap, sym, arith}
use Rattle.hs_entries.specs.Window.{ahead_of, room_of, begun_of}
use Rattle.hs_entries.specs.Place.{is_entry}
use Rattle.hs_entries.proofs.LeftSteps.{too_long_false, cut_at_end_step, cut_shrinks, passed_some, fresh_room}
use Rattle.hs_entries.proofs.reader.EntryReader.cut_at_end.Goals as goal

pub cut_item-requires : goal.cut_item-requires
cut_item-requires c =
    let r = c.args.self.now in
    let fresh = fresh_room c.use_to.new.self c.use_to.ensures.fresh in
    let numbers = r.numbers in
    record { none = c.use_to.ensures.ahead ∙ c.requires.looked; number = λ entry. let some = passed_some r.window r.sound (ap is_entry (sym c.place-place.ensures) ∙ entry) in omega (arith, c.use_to.ensures.room) }

pub returns-clause-takes : goal.returns-clause-takes
returns-clause-takes c =
    let r = c.args.self.now in
    let after = c.cut_item.new.self in
    let fresh = fresh_room c.use_to.new.self c.use_to.ensures.fresh in
    rw (c.cut_item.ensures.item, c.place-place.ensures) (cut_at_end_step (r.count + 1) (after.count + 1) r.window after.window false r.sound c.requires.looked (too_long_false (begun_of r.window) c.requires.short)
    (ap ahead_of c.cut_item.ensures.window ∙ c.use_to.ensures.ahead ∙ c.requires.looked)
    (ap room_of c.cut_item.ensures.window ∙ omega (arith, c.use_to.ensures.room)))

pub returns-clause-shrinks : goal.returns-clause-shrinks
returns-clause-shrinks c =
    let r = c.args.self.now in
    let fresh = fresh_room c.use_to.new.self c.use_to.ensures.fresh in
    let same : room_of c.cut_item.new.self.window ≡ room_of c.use_to.new.self = ap room_of c.cut_item.ensures.window in
    rw (c.cut_item.ensures.item, c.place-place.ensures) (cut_shrinks r.window.place false (r.count + 1) (room_of r.window) (room_of c.cut_item.new.self.window)
    (λ entry. let some = passed_some r.window r.sound entry in omega (arith, c.use_to.ensures.room))
    (omega (arith, c.use_to.ensures.room)))
