-- What printed lines acknowledge.
use Rattle.std.proofs.Common.{◌≡◌, inl, inr, ℕ, ◌<◌, ◌≤◌, ◌^◌, List, [], ◌∷◌, ◌++◌, length, codes, refl, sym, ap, ◌∙◌, arith, append_assoc, append-nil, length-append}
use Rattle.std.proofs.lemmas.List.Elements.{Contains-append_left, Contains-append_right}
use Rattle.hs_machine.specs.Acknowledged.{Acknowledges, AcknowledgesLines, EndsLine}
use Rattle.hs_machine.specs.Lines.{committed_text}
use Rattle.hs_schema.specs.Catalogue.{Text}
use Rattle.hs_turns.specs.Each.{Each}
use Rattle.hs_turns.specs.Laws.{commit_told, commits_told}
use Rattle.hs_turns.specs.Lines.{Line, line_text, printed}
use Rattle.hs_plainwords.specs.Plain.{IsPlainLine, IsUpTo}
use Rattle.hs_plainwords.proofs.Bytes.{committed_lacks, in_line}

in_first : (xs ys : List ℕ) (n : ℕ) → IsUpTo xs n → IsUpTo (xs ++ ys) n
in_first xs ys n found = (found.0, Contains-append_left xs ys found.0 found.1, found.2)

in_others : (xs ys : List ℕ) (n : ℕ) → IsUpTo ys n → IsUpTo (xs ++ ys) n
in_others xs ys n found = (found.0, Contains-append_right xs ys found.0 found.1, found.2)

nothing_printed : (before c behind : Text) → before ++ (c ++ 10 ∷ behind) ≡ [] → ⊥
nothing_printed before c behind e = absurd (omega (arith, ap length e, length-append before (c ++ 10 ∷ behind), length-append c (10 ∷ behind)))

located : (ls : List Line) (before behind : Text) (n : ℕ) → Each IsPlainLine ls → n < 10 ^ 64 → before ++ (committed_text n ++ 10 ∷ behind) ≡ printed ls → IsUpTo (commits_told ls) n
located [] before behind n all small e = absurd (nothing_printed before (committed_text n) behind e)
located (l ∷ ls) before behind n all small e =
    elim (in_line (committed_text n) behind (committed_lacks 10 refl refl n) before (line_text l) (printed ls) all.0.single (e ∙ append_assoc (line_text l) (codes "\n") (printed ls))) [
      | inl here ↦ in_first (commit_told l) (commits_told ls) n (all.0.told before n small here)
      | inr there ↦ in_others (commit_told l) (commits_told ls) n (located ls there.0 behind n all.1 small (sym there.1))
    ]

pub acknowledged : (ls : List Line) (n : ℕ) → Each IsPlainLine ls → Acknowledges (printed ls) n → IsUpTo (commits_told ls) n
acknowledged ls n all t =
    located ls t.before t.behind n all t.small
    (sym (append_assoc t.before (committed_text n) (10 ∷ t.behind)) ∙ sym (append_assoc (t.before ++ committed_text n) (codes "\n") t.behind) ∙ sym t.is)

ends_on : (text rest : Text) → EndsLine rest → EndsLine (text ++ codes "\n" ++ rest)
ends_on text rest (inl none) = inr (text, ap (λ (l : Text). text ++ codes "\n" ++ l) none ∙ append-nil (text ++ codes "\n"))
ends_on text rest (inr line) = inr (text ++ codes "\n" ++ line.0, ap (λ (l : Text). text ++ codes "\n" ++ l) line.1 ∙ sym (append_assoc (text ++ codes "\n") line.0 (codes "\n")))

ends : (ls : List Line) → EndsLine (printed ls)
ends [] = inl refl
ends (l ∷ ls) = ends_on (line_text l) (printed ls) (ends ls)

pub whole_lines : (ls : List Line) (most : ℕ) → Each IsPlainLine ls → ((k : ℕ) → IsUpTo (commits_told ls) k → k ≤ most) → AcknowledgesLines (printed ls) most
whole_lines ls most all least = record { told = λ n t. least n (acknowledged ls n all t); ends = ends ls }
