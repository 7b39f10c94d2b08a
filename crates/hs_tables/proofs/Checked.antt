-- From a part to the condition that it is.
use Rattle.std.proofs.Common.{◌≡◌, ℕ, List, Option, sym, ap, ◌∙◌}
use Rattle.std.proofs.lemmas.List.Sums.{fold-append}
use Rattle.hs_meaning.specs.Parts.{Meaning, broken_at, by_one, of_one, part_by}
use Rattle.hs_meaning.specs.Finding.{Least}
use Rattle.hs_typed.specs.declared.typed.Typed.{Typed}
use Rattle.hs_typed.specs.Faults.{noted, with_fault}
use Rattle.hs_typed.specs.Rules.{condition_typed}

pub concluded : (at to : ℕ) (m : Meaning Typed) (p result : Option Typed) (old mid new : Least) → to ≡ at → p ≡ m.part → mid ≡ noted old m.faults
    → result ≡ part_by (of_one condition_typed p) → new ≡ noted mid (broken_at to (of_one condition_typed p))
    → (result ≡ (by_one condition_typed at m).part) × (new ≡ noted old (by_one condition_typed at m).faults)
concluded at to m p result old mid new place same found part faults = (
  part ∙ ap (λ q. part_by (of_one condition_typed q)) same,
  faults
      ∙ ap (λ n. noted mid (broken_at n (of_one condition_typed p))) place
      ∙ ap (λ q. noted mid (broken_at at (of_one condition_typed q))) same
      ∙ ap (λ s. noted s (broken_at at (of_one condition_typed m.part))) found
      ∙ sym (fold-append with_fault old m.faults (broken_at at (of_one condition_typed m.part))),
)
