-- The recogniser's answers in terms of the literal grammar.
use Rattle.std.proofs.Common.{ℕ, subst, ◌∙◌, Result, Ok, Err, MatchResult, List, [], ◌∷◌, ◌++◌, take, drop}
use Rattle.hs_grammar.specs.declared.types.Item.{Item}
use Rattle.hs_grammar.specs.declared.types.Fault.{Fault}
use Rattle.hs_grammar.specs.declared.types.Fault.TheVariants as F
use Rattle.hs_grammar.specs.Grammar.{Begins}
use Rattle.hs_grammar.specs.Answer.{Only, First, Leaves, Refuses, Faulty}
use Rattle.hs_syntax.specs.Literal.{IsStatement}
use Rattle.hs_syntax.specs.Meant.{MeantAs, IsMeantBy}
use Rattle.hs_syntax.specs.Statement.{table_grammar, NoneGoesOn, LeavesAt, IsRefusedAt, IsFaultOf}
use Rattle.hs_syntax.proofs.Written.{written}
use Rattle.hs_syntax.proofs.WrittenTo.{written_to}
use Rattle.hs_syntax.proofs.Derived.{derived, derived_as}
use Rattle.hs_syntax.proofs.Meant.{same_tokens}
use Rattle.hs_syntax.proofs.DerivedTo.{derived_to}

-- every reading of the tokens is meant as the only sentence with them
pub is_meant : (ts : List ℕ) (m : List Item) → Only table_grammar ts m → IsMeantBy ts m
is_meant ts m h = record {
  built = (written m h.sentence, h.spelt);
  meant = λ other b. let d = derived_as other b.0 in subst (λ x. MeantAs other x) (h.alone d.0 d.1 (same_tokens d.2 ∙ b.1)) d.2;
}

begins : (front : List ℕ) → Begins table_grammar front → (more : List ℕ) × IsStatement (front ++ more)
begins front b = (b.1, (b.0, (written b.0 b.2, b.3)))

none_goes_on : (front rest : List ℕ) → Leaves table_grammar front rest → NoneGoesOn front rest
none_goes_on front [] h = λ s. let d = derived front s in h d.0 d.1 d.2
none_goes_on front (c ∷ rest) h = λ more s. let d = derived (front ++ c ∷ more) s in h d.0 more d.1 d.2

leaves_at : (ts : List ℕ) (p : ℕ) → First table_grammar ts p → LeavesAt ts p
leaves_at ts p f = record { in_range = f.in_range; begins = begins (take p ts) f.begins; leaves = none_goes_on (take p ts) (drop p ts) f.leaves }

refused_to : (front rest : List ℕ) → Refuses table_grammar front rest → IsRefusedAt front rest
refused_to front [] h = h
refused_to front (c ∷ rest) h = (h.0, written_to h.0 h.1, h.2)

refused_from : (front rest : List ℕ) → IsRefusedAt front rest → Refuses table_grammar front rest
refused_from front [] h = h
refused_from front (c ∷ rest) h = derived_to (front ++ c ∷ []) h

pub is_fault_of : (ts : List ℕ) (e : Fault) → Faulty table_grammar ts e → IsFaultOf ts e
is_fault_of ts (F.At p) h = (leaves_at ts p h.0, λ r. h.1 (refused_from (take p ts) (drop p ts) r))
is_fault_of ts (F.NotOffered p) h = (leaves_at ts p h.0, refused_to (take p ts) (drop p ts) h.1)
is_fault_of ts F.NoMemory h = tt

pub answered : {V : Type 0} (items : V → List Item) (ts : List ℕ) (r : Result V Fault) → MatchResult r (λ v. Only table_grammar ts (items v)) (λ e. Faulty table_grammar ts e)
    → MatchResult r (λ v. IsMeantBy ts (items v)) (λ e. IsFaultOf ts e)
answered items ts (Ok v) h = is_meant ts (items v) h
answered items ts (Err e) h = is_fault_of ts e h
