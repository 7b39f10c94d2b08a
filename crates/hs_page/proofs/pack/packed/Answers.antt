use Rattle.std.proofs.Common.{◌≡◌, ◌+◌, ◌<◌, ◌∙◌, sym, subst, ap, List, ℕ, [], length, ◌==◌, arith}
use Rattle.hs_page.specs.Pages.{slot_bytes, low}
use Rattle.hs_page.specs.Writes.{MayPlace, IsPut, IsPackedTo}
use Rattle.hs_page.proofs.Packing.{packed_room, packed_skip, packed_more, packed_end, some_bytes, no_bytes}
use Rattle.hs_page.proofs.pack.packed.Goals as goal
use Rattle.hs_page.proofs.pack.packed.Goals.{then-not-is_empty, else-not-is_empty}

pub place-requires : goal.place-requires
place-requires c =
    let some : 0 < length (slot_bytes c.args.bytes.now c.loop-i.i) = some_bytes _ (sym (ap (λ (row : List ℕ). length row == 0) c.slot-row.ensures) ∙ sym c.is_empty.ensures ∙ c.if-not-is_empty.true) in
    subst (λ (row : List ℕ). MayPlace c.loop-i.all c.loop-i.i row) (sym c.slot-row.ensures)
    (packed_room _ _ _ c.loop-i.invariant (omega arith) c.requires.room some)

pub loop-i-preserved : goal.loop-i-preserved
loop-i-preserved c = elim c.if-not-is_empty.branch [
  | then-not-is_empty w ↦
      let row_is : c.slot-row.result.now ≡ slot_bytes c.args.bytes.now c.loop-i.i = c.slot-row.ensures in
      let in_front : low w.place.new.bytes + length (slot_bytes c.args.bytes.now c.loop-i.i) ≡ low c.loop-i.all = omega (arith, ap length row_is, w.place.ensures.low) in
      let put : IsPut c.loop-i.all w.place.new.bytes c.loop-i.i (slot_bytes c.args.bytes.now c.loop-i.i) = subst (λ (row : List ℕ). IsPut c.loop-i.all w.place.new.bytes c.loop-i.i row) row_is w.place.ensures.put in
      subst (λ (all : List ℕ). IsPackedTo c.args.bytes.now all (c.loop-i.i + 1)) (sym w.all-is) (packed_more _ _ _ c.loop-i.invariant (omega arith) _ w.place.ensures.page in_front put)
  | else-not-is_empty w ↦
      let none : slot_bytes c.args.bytes.now c.loop-i.i ≡ [] = no_bytes _ (sym (ap (λ (row : List ℕ). length row == 0) c.slot-row.ensures) ∙ sym c.is_empty.ensures ∙ w.if-not-is_empty.false) in
      subst (λ (all : List ℕ). IsPackedTo c.args.bytes.now all (c.loop-i.i + 1)) (sym w.all-is) (packed_skip _ _ _ c.loop-i.invariant (omega arith) none)
]
