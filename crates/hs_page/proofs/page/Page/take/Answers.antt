use Rattle.std.proofs.Common.{◌≡◌, ℕ, ◌<◌, ◌≤◌, List, [], length, sym, subst, ◌∙◌, ap, arith, inl, inr}
use Rattle.std.proofs.lemmas.Bool.{cases_lt}
use Rattle.hs_page.specs.Pages.{IsPage, slot_count, slot_bytes, slots_of, with_slot}
use Rattle.hs_page.specs.Writes.{IsTaken}
use Rattle.hs_page.proofs.PageFacts.{slot_bytes_beyond}
use Rattle.hs_page.proofs.SlotLists.{put_slots}
use Rattle.hs_page.proofs.Taken.{taken_page, taken_put}
use Rattle.hs_page.proofs.page.Page.take.Goals as goal

-- a slot with bytes is one of the page's
there : (bytes now : List ℕ) (slot : ℕ) → bytes ≡ now → 0 < length (slot_bytes now slot) → slot < slot_count bytes
there bytes now slot same used = elim (cases_lt slot (slot_count bytes)) [
  | inl h ↦ h
  | inr beyond ↦
      let none : length (slot_bytes now slot) ≡ 0 = sym (ap (λ (b : List ℕ). length (slot_bytes b slot)) same) ∙ ap length (slot_bytes_beyond bytes slot beyond) in
      absurd (omega (arith, none, used))
]

freed : (old new : List ℕ) (slot given : ℕ) → given ≡ slot → IsTaken old new given → IsTaken old new slot
freed old new slot given same taken = subst (λ (s : ℕ). IsTaken old new s) same taken

pub invariant_of-self : goal.invariant_of-self
invariant_of-self c = taken_page _ _ _ c.self.invariant (there _ _ c.args.slot c.self.view_is c.requires) (freed _ _ _ _ c.from.ensures c.free_slot.ensures) (c.free_slot.auto.bytes ∙ c.self.invariant.size)

pub returns-clause-slots : goal.returns-clause-slots
returns-clause-slots c =
    let within : c.args.slot < slot_count c.self.inside.bytes = there _ _ _ c.self.view_is c.requires in
    put_slots _ _ _ _ (omega (arith, within)) (taken_put _ _ _ c.self.invariant within (freed _ _ _ _ c.from.ensures c.free_slot.ensures) (c.free_slot.auto.bytes ∙ c.self.invariant.size))
    ∙ ap (λ (bytes : List ℕ). with_slot (slots_of bytes) c.args.slot []) c.self.view_is

pub returns-clause-page : goal.returns-clause-page
returns-clause-page c = taken_page _ _ _ c.self.invariant (there _ _ c.args.slot c.self.view_is c.requires) (freed _ _ _ _ c.from.ensures c.free_slot.ensures) (c.free_slot.auto.bytes ∙ c.self.invariant.size)
