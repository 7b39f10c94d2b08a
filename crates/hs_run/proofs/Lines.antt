-- Whole lines behind whole lines.
use Rattle.std.proofs.Common.{◌≡◌, ◌⊎◌, inl, inr, ℕ, ◌≤◌, true, List, [], ◌∷◌, ◌++◌, codes, refl, sym, ap, subst, ◌∙◌, arith, append_assoc, append-nil}
use Rattle.std.specs.Prelude.{◌==◌, not}
use Rattle.std.specs.Fmt.{decimal}
use Rattle.std.proofs.lemmas.Bool.{and_parts}
use Rattle.hs_entries.specs.Parts.{lacks}
use Rattle.hs_machine.specs.Acknowledged.{AcknowledgesAtMost, EndsLine, AcknowledgesLines}
use Rattle.hs_machine.specs.Lines.{OpenedAt, ClosedAt, committed_text}
use Rattle.hs_machine.proofs.Acknowledged.{decimal_lacks, lacks-append, line_tells_on}
use Rattle.hs_run.specs.Lines.{opened_line, closed_line}

committed_lacks : (n : ℕ) → lacks 10 (committed_text n) ≡ true
committed_lacks n = lacks-append 10 (codes " committed ") (decimal n) refl (decimal_lacks 10 refl n)

-- the first line of some
first_line : (c line ys k : List ℕ) → lacks 10 c ≡ true → c ++ 10 ∷ k ≡ (line ++ 10 ∷ []) ++ ys → (k1 : List ℕ) × (c ++ 10 ∷ k1 ≡ line ++ 10 ∷ [])
first_line [] [] ys k plain is = ([], refl)
first_line [] (x ∷ line) ys k plain is = let first : x ≡ 10 = cc in (line ++ 10 ∷ [], ap (λ (b : ℕ). b ∷ (line ++ 10 ∷ [])) (sym first))
first_line (a ∷ c) [] ys k plain is = let first : a ≡ 10 = cc in absurd (by a first (and_parts (not (a == 10)) (lacks 10 c) plain).0)
  where
    by : (a : ℕ) → a ≡ 10 → not (a == 10) ≡ true → ⊥
    by a same other = grind arith
first_line (a ∷ c) (x ∷ line) ys k plain is =
    let rest : c ++ 10 ∷ k ≡ (line ++ 10 ∷ []) ++ ys = cc in
    let first : a ≡ x = cc in
    let found = first_line c line ys k (and_parts (not (a == 10)) (lacks 10 c) plain).1 rest in
    (found.0, ap (λ (b : ℕ). b ∷ (c ++ 10 ∷ found.0)) first ∙ ap (λ (l : List ℕ). x ∷ l) found.1)

-- a text of one line that ends in two lists, of which the first is whole lines, ends in one of them
in_one : (line ys before c k : List ℕ) → lacks 10 c ≡ true → before ++ (c ++ 10 ∷ k) ≡ (line ++ 10 ∷ []) ++ ys
    → ((k1 : List ℕ) × (before ++ (c ++ 10 ∷ k1) ≡ line ++ 10 ∷ [])) ⊎ ((b1 : List ℕ) × (b1 ++ (c ++ 10 ∷ k) ≡ ys))
in_one line ys [] c k plain is = inl (first_line c line ys k plain is)
in_one [] ys (b ∷ before) c k plain is = let rest : before ++ (c ++ 10 ∷ k) ≡ ys = cc in inr (before, rest)
in_one (x ∷ line) ys (b ∷ before) c k plain is =
    let rest : before ++ (c ++ 10 ∷ k) ≡ (line ++ 10 ∷ []) ++ ys = cc in
    let first : b ≡ x = cc in
    elim (in_one line ys before c k plain rest) [
      | inl found ↦ inl (found.0, ap (λ (a : ℕ). a ∷ (before ++ (c ++ 10 ∷ found.0))) first ∙ ap (λ (l : List ℕ). x ∷ l) found.1)
      | inr found ↦ inr found
    ]

regroup : (before c k : List ℕ) → before ++ (c ++ 10 ∷ k) ≡ before ++ c ++ codes "\n" ++ k
regroup before c k = sym (append_assoc before c (10 ∷ k)) ∙ sym (append_assoc (before ++ c) (codes "\n") k)

module _ (xs ys : List ℕ) (a b : ℕ) (first : AcknowledgesLines xs a) (then : AcknowledgesLines ys b) (within : a ≤ b) where
  told_by_ends : EndsLine xs → AcknowledgesAtMost (xs ++ ys) b
  told_by_ends (inl none) n t = then.told n (record { before = t.before; behind = t.behind; small = t.small; is = ap (λ (l : List ℕ). l ++ ys) (sym none) ∙ t.is })
  told_by_ends (inr line) n t =
      elim (in_one line.0 ys t.before (committed_text n) t.behind (committed_lacks n) (regroup t.before (committed_text n) t.behind ∙ sym t.is ∙ ap (λ (l : List ℕ). l ++ ys) line.1)) [
        | inl found ↦ omega (arith, within, first.told n (record { before = t.before; behind = found.0; small = t.small; is = line.1 ∙ sym found.1 ∙ regroup t.before (committed_text n) found.0 }))
        | inr found ↦ then.told n (record { before = found.0; behind = t.behind; small = t.small; is = sym found.1 ∙ regroup found.0 (committed_text n) t.behind })
      ]

  ends_by : EndsLine ys → EndsLine (xs ++ ys)
  ends_by (inl none) = subst EndsLine (sym (ap (λ (l : List ℕ). xs ++ l) none ∙ append-nil xs)) first.ends
  ends_by (inr line) = inr (xs ++ line.0, ap (λ (l : List ℕ). xs ++ l) line.1 ∙ sym (append_assoc xs line.0 (codes "\n")))

  -- whole lines behind whole lines tell of no more than either
  pub append_tells : AcknowledgesLines (xs ++ ys) b
  append_tells = record { told = told_by_ends first.ends; ends = ends_by then.ends }

-- the first line and the last one tell of nothing
pub opened_tells : (out : List ℕ) (most commits : ℕ) → AcknowledgesLines out most → AcknowledgesLines (out ++ opened_line commits) most
opened_tells out most commits so_far =
    subst (λ (l : List ℕ). AcknowledgesLines (out ++ l) most) (append_assoc (codes "opened at ") (decimal commits) (codes "\n")) (line_tells_on out (OpenedAt commits) most most so_far tt (omega arith) (omega arith))

pub closed_tells : (out : List ℕ) (most commits : ℕ) → AcknowledgesLines out most → AcknowledgesLines (out ++ closed_line commits) most
closed_tells out most commits so_far =
    subst (λ (l : List ℕ). AcknowledgesLines (out ++ l) most) (append_assoc (codes "closed at ") (decimal commits) (codes "\n")) (line_tells_on out (ClosedAt commits) most most so_far tt (omega arith) (omega arith))
