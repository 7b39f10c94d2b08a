use Rattle.std.proofs.Common.{◌≡◌, ℕ, ◌+◌, ◌≤◌, ◌++◌, List, length, sym, ◌∙◌, ap, arith, length-append}
use Rattle.hs_page.specs.Pages.{slots_of, slot_count, slot_bytes, with_slot, room_of}
use Rattle.hs_page.specs.Writes.{MayPlace}
use Rattle.hs_page.proofs.SlotLists.{length-slots_of, put_slots, room_is}
use Rattle.hs_page.proofs.page.Page.put.Goals as goal

pub make_gap-requires-clause-room : goal.make_gap-requires-clause-room
make_gap-requires-clause-room c =
    let same : room_of (slots_of c.self.inside.bytes) ≡ room_of (slots_of c.args.self.now) = ap (λ (bytes : List ℕ). room_of (slots_of bytes)) c.self.view_is in
    omega (arith, c.requires.some, c.requires.room, same, room_is c.self.inside.bytes c.first_free-slot.result c.first_free-slot.ensures.first)

pub place-requires : goal.place-requires
place-requires c =
    let head : length c.row_head.result ≡ 16 = ap length c.row_head.ensures in
    let long : length (c.row_head.result ++ c.args.bytes.now) ≡ 16 + length c.args.bytes.now = omega (arith, head, length-append c.row_head.result c.args.bytes.now) in
    let count : slot_count c.make_gap.new.bytes ≡ slot_count c.self.inside.bytes = sym (length-slots_of c.make_gap.new.bytes) ∙ ap length c.make_gap.ensures.same ∙ length-slots_of c.self.inside.bytes in
    record {
      page = c.make_gap.ensures.page;
      slot_is = omega (arith, count, c.first_free-slot.ensures.within);
      some = omega (arith, long);
      gap = omega (arith, long, c.make_gap.ensures.gap);
    }

pub returns-clause-slots : goal.returns-clause-slots
returns-clause-slots c =
    let count : slot_count c.make_gap.new.bytes ≡ slot_count c.self.inside.bytes = sym (length-slots_of c.make_gap.new.bytes) ∙ ap length c.make_gap.ensures.same ∙ length-slots_of c.self.inside.bytes in
    put_slots c.make_gap.new.bytes c.place.new.bytes c.first_free-slot.result (c.row_head.result ++ c.args.bytes.now) (omega (arith, count, c.first_free-slot.ensures.within)) c.place.ensures.put
    ∙ ap (λ (slots : List (List ℕ)). with_slot slots c.first_free-slot.result (c.row_head.result ++ c.args.bytes.now)) (c.make_gap.ensures.same ∙ ap slots_of c.self.view_is)
    ∙ ap (λ (head : List ℕ). with_slot (slots_of c.args.self.now) c.first_free-slot.result (head ++ c.args.bytes.now)) c.row_head.ensures

pub returns-clause-free : goal.returns-clause-free
returns-clause-free c = ap (λ (bytes : List ℕ). slot_bytes bytes c.first_free-slot.result) (sym c.self.view_is) ∙ c.first_free-slot.ensures.free
