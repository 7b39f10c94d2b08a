use Rattle.std.proofs.Common.{rules, ◌≡◌, ◌≤◌, ◌+◌, ◌-◌, ℕ, List, ◌++◌, length, take, slice_range, sym, subst, arith}
use Rattle.std.proofs.lemmas.Grind.{common_steps}
use borrow.Rule.Slice.PartMut.{post_of}
use Rattle.std.specs.Vec.{with_items}
use Rattle.hs_entries.proofs.Spans.{read_span, read_there, span_end}
use Rattle.hs_entries.proofs.window.Window.refill.Goals as goal

pub returns-clause-bytes : goal.returns-clause-bytes
returns-clause-bytes g c = λ told.
    let w = c.args.self.now in
    let looked : w.end ≤ w.at = span_end w.buffer.items w.at w.end c.requires.sound.end c.requires.looked in
    let at_end : c.make_room.new.self.at ≡ c.make_room.new.self.end = omega (arith, c.in_ok-make_room.ensures.end) in
    let bytes = c.in_ok-count.ensures.bytes told in
    let after = c.make_room.new.self in
    let buffer = c.deref_mut.result.now in
    let read = read_span buffer c.read_input.new.buf (post_of after.end (length buffer - after.end) buffer) (g.S.Source.unread c.args.source.now)
    (g.S.Source.unread c.read_input.new.self) after.at after.end c.in_ok-count.count at_end (omega (arith, c.deref_mut.ensures.len)) c.in_ok-count.ensures.bound.0 bytes.0 in
    record { bytes = grind (arith, common_steps, read); end = search rules }

pub returns-clause-one : goal.returns-clause-one
returns-clause-one g c =
    let w = c.args.self.now in
    let looked : w.end ≤ w.at = span_end w.buffer.items w.at w.end c.requires.sound.end c.requires.looked in
    let at_end : c.make_room.new.self.at ≡ c.make_room.new.self.end = omega (arith, c.in_ok-make_room.ensures.end) in
    let after = c.make_room.new.self in
    let buffer = c.deref_mut.result.now in
    let there = read_there buffer c.read_input.new.buf (post_of after.end (length buffer - after.end) buffer) after.at after.end c.in_ok-count.count at_end
    (omega (arith, c.deref_mut.ensures.len)) c.in_ok-count.ensures.bound.0 in
    let all = with_items after.buffer (take after.end buffer ++ (c.read_input.new.buf ++ post_of after.end (length buffer - after.end) buffer)) in
    let is : slice_range all.items after.at (after.end + c.in_ok-count.count) ≡ take c.in_ok-count.count c.read_input.new.buf =
    grind (arith, common_steps, there) in
    let P : List ℕ → Type 0 = λ l. g.S.Source.reads c.args.source.now c.read_input.new.self l in
    subst P (sym is) c.in_ok-count.ensures.one
