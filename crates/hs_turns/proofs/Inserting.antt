-- The language that only inserts meets the laws.
use Rattle.std.proofs.Common.{◌≡◌, ℕ, ◌+◌, ◌&&◌, Bool, true, false, List, [], ◌∷◌, ◌++◌, refl, ap₂, ◌∙◌}
use Rattle.std.specs.List.{list_all}
use Rattle.std.proofs.lemmas.List.Folds.{list_all-append}
use Rattle.hs_claims.specs.Footprint.{Reference, IsLawful}
use Rattle.hs_plan.specs.declared.change.Change.{Change}
use Rattle.hs_plan.specs.declared.change.Change.TheVariants as change
use Rattle.hs_turns.specs.Numbers.{NamesKnown}
use Rattle.hs_turns.proofs.Bounded.{committed_numbered}
use Rattle.hs_turns.specs.Each.{Each}
use Rattle.hs_turns.specs.Language.{Laws, IsWithin, references_of}
use Rattle.hs_turns.specs.Inserting.{inserted, inserting, is_insert}

within : (read_only : Bool) → Each (IsWithin (inserted read_only).foot) (inserted read_only).changes
within true = tt
within false = (refl, tt)

lawful : (references : List Reference) (read_only : Bool) → IsLawful references read_only (inserted read_only).foot
lawful references true = record {
  rows = λ t r h. absurd cc;
  keys = λ t c v h. absurd cc;
  parents = λ t c v h. absurd cc;
  children = λ t c v child h k. absurd cc;
  reader = λ ro. (refl, refl, refl, refl);
}
lawful references false = record {
  rows = λ t r h. absurd cc;
  keys = λ t c v h. absurd cc;
  parents = λ t c v h. absurd cc;
  children = λ t c v child h k. absurd cc;
  reader = λ ro. absurd cc;
}

only_inserts : (read_only : Bool) → list_all is_insert (inserted read_only).changes ≡ true
only_inserts true = refl
only_inserts false = refl

more : (read_only : Bool) (cs : List Change) → list_all is_insert cs ≡ true → list_all is_insert (cs ++ (inserted read_only).changes) ≡ true
more read_only cs h = list_all-append is_insert cs (inserted read_only).changes ∙ ap₂ (λ (a b : Bool). a && b) h (only_inserts read_only)

-- inserts name no row
known : (count : ℕ) → (cs : List Change) (behind : ℕ) → list_all is_insert cs ≡ true → NamesKnown count behind cs
known count [] behind h = tt
known count (change.Insert table values ∷ cs) behind h = (tt, known count cs (behind + 1) h)
known count (change.Put table row values ∷ cs) behind h = absurd cc
known count (change.Delete table row ∷ cs) behind h = absurd cc
known count (change.Define definition ∷ cs) behind h = absurd cc

pub inserting_is_lawful : Laws inserting
inserting_is_lawful = record {
  frame = λ read_only own a b text va vb agree. refl;
  within = λ read_only own db text valid. within read_only;
  lawful = λ read_only own db text valid. lawful (references_of db.things) read_only;
  reader = λ own db text valid. refl;
  none = λ db stands. refl;
  more = λ read_only db changes feet text stands fine. (more read_only changes fine.0, refl);
  wider = λ db changes f feet h. h;
  numbers = λ db changes feet stands fine room. (refl, committed_numbered db changes stands.1 (known db.count changes 0 fine.0) room);
  moved = λ db changes others feet other_feet stands fine others_fine room clear. (fine.0, refl);
  accepted = λ db text definition stands is. refl;
}
