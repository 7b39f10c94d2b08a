-- The reads of a call, and that each of them is needed.
use Rattle.std.specs.Prelude.{◌≡◌, ℕ, ◌||◌, ◌&&◌, nat_lt, Bool, true, false, List, [], ◌∷◌, ◌++◌, length, Option, None, Some, Result, Ok, Err}
use Rattle.hs_entries.specs.declared.input_fault.InputFault.{InputFault}
use Rattle.hs_entries.specs.declared.item.Item.{Item}
use Rattle.hs_entries.specs.Items.{has_item}
use Rattle.hs_entries.specs.Left.{Left, whole_of, Continues, Takes}

-- What some reads gave. The newest of them stands first, each as the state from which it was made and its bytes.
abbrev pub given_by : {T : Type 0} → List (T × List ℕ) → List ℕ
given_by [] = []
given_by (read ∷ before) = given_by before ++ read.1

-- each read gave a byte at least
abbrev pub all_gave : {T : Type 0} → List (T × List ℕ) → Bool
all_gave [] = true
all_gave (read ∷ before) = nat_lt 0 (length read.1) && all_gave before

-- These reads lead from one state of a source to another. Each was needed after what those before it gave, and none comes
-- behind one that gave nothing.
abbrev pub AreNeeded : {T : Type 0} → (T → T → List ℕ → Type 0) → (List ℕ → Type 0) → List (T × List ℕ) → T → T → Type 0
AreNeeded reads Needs [] old new = new ≡ old
AreNeeded reads Needs (read ∷ before) old new =
    AreNeeded reads Needs before old read.0 × ((Needs (given_by before) × (all_gave before ≡ true)) × reads read.0 new read.1)

-- Reads lead from one state of a source to another, and each of them was needed. Where one gave nothing, no read comes
-- behind it from then on.
pub record Asks {T : Type 0} (reads : T → T → List ℕ → Type 0) (Needs : List ℕ → Type 0) (rests : Bool) (old new : T) : Type 0 where
  pub made : List (T × List ℕ)
  pub needed : AreNeeded reads Needs made old new
  pub rest : all_gave made ≡ false → rests ≡ true

-- in this input no item is whole within the bytes that may be used, and no byte is beyond those
abbrev pub NeedsMore : Left → Type 0
NeedsMore l = (nat_lt l.room (length l.input) || has_item (whole_of l)) ≡ false

-- No item is taken, where reads that were needed lead from one state of a source to another.
pub record Gathers {T : Type 0} (reads : T → T → List ℕ → Type 0) (before after : List ℕ → Left) (old new : T) : Type 0 where
  pub made : List (T × List ℕ)
  pub needed : AreNeeded reads (λ given. NeedsMore (before given)) made old new
  pub gave : all_gave made ≡ true
  pub on : (rest : List ℕ) → Continues (before (given_by made ++ rest)) (after rest)

-- Reads that were needed lead from one state of a source to another. Until one gave nothing, the item that is taken is that of what was
-- left and what they gave, whatever may come behind.
pub record Gets {T : Type 0} (reads : T → T → List ℕ → Type 0) (before : List ℕ → Left) (item : Item) (after : List ℕ → Left) (rests : Bool) (old new : T) : Type 0 where
  pub made : List (T × List ℕ)
  pub needed : AreNeeded reads (λ given. NeedsMore (before given)) made old new
  pub rest : all_gave made ≡ false → rests ≡ true
  pub takes : rests ≡ false → (rest : List ℕ) → Takes (before (given_by made ++ rest)) item (after rest)

-- No item may be taken, or one, or the answer is a fault, behind which no read comes.
abbrev pub Asked : {T : Type 0} → (T → T → List ℕ → Type 0) → (List ℕ → Left) → (List ℕ → Left) → Bool → Result (Option Item) InputFault → T → T → Type 0
Asked reads before after rests (Ok None) old new = Gathers reads before after old new
Asked reads before after rests (Ok (Some i)) old new = Gets reads before i after rests old new
Asked reads before after rests (Err e) old new = Asks reads (λ given. NeedsMore (before given)) true old new
