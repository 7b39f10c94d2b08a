-- Texts that end otherwise than a number does.
use Rattle.std.proofs.Common.{◌≡◌, ◌⊎◌, inl, inr, ℕ, ◌<◌, true, false, List, [], ◌∷◌, ◌++◌, length, codes, refl, sym, ap, subst, ◌∙◌, arith, append_assoc, length-append}
use Rattle.std.specs.Fmt.{decimal}
use Rattle.hs_entries.specs.Parts.{lacks}
use Rattle.hs_machine.specs.Acknowledged.{is_digit}
use Rattle.hs_machine.specs.Lines.{committed_text}
use Rattle.hs_machine.proofs.Acknowledged.{lacks-append}
use Rattle.hs_schema.specs.Catalogue.{Text}
use Rattle.hs_plainwords.proofs.Bytes.{committed_lacks, lacking, one_end, other_word}
use Rattle.hs_plainwords.proofs.Silent.{Silent}

-- a text that ends in a byte that stands in no end of a line that tells of a commit
last_byte : (xs ys c : List ℕ) (b : ℕ) → lacks b c ≡ true → 0 < length c → xs ++ b ∷ [] ≡ ys ++ c → ⊥
last_byte xs [] c b none some e = lacking b xs [] (subst (λ (l : List ℕ). lacks b l ≡ true) (sym e) none)
last_byte [] (y ∷ ys) c b none some e = let rest : [] ≡ ys ++ c = cc in absurd (omega (arith, ap length rest, length-append ys c, some))
last_byte (x ∷ xs) (y ∷ ys) c b none some e = let rest : xs ++ b ∷ [] ≡ ys ++ c = cc in last_byte xs ys c b none some rest

told_some : (n : ℕ) → 0 < length (committed_text n)
told_some n = omega (arith, length-append (codes " committed ") (decimal n))

pub closed : (x : Text) (b : ℕ) → lacks 10 (x ++ b ∷ []) ≡ true → is_digit b ≡ false → lacks b (codes " committed ") ≡ true → Silent (x ++ b ∷ [])
closed x b line digit words = record {
  single = line;
  told = λ front before n e. last_byte (front ++ 32 ∷ x) before (committed_text n) b (committed_lacks b digit words n) (told_some n) (append_assoc front (32 ∷ x) (b ∷ []) ∙ e);
}

-- a word behind a comma
pub behind_comma : (x w : Text) → lacks 10 (x ++ 44 ∷ w) ≡ true → lacks 32 w ≡ true → Silent (x ++ 44 ∷ w)
behind_comma x w line space = record {
  single = line;
  told = λ front before n e. split n (one_end (front ++ 32 ∷ x) (44 ∷ w) before (committed_text n) (append_assoc front (32 ∷ x) (44 ∷ w) ∙ e));
}
  where
    with_space : (n : ℕ) (rest : Text) → 44 ∷ w ≡ rest ++ committed_text n → ⊥
    with_space n rest e = lacking 32 rest (codes "committed " ++ decimal n) (subst (λ (l : List ℕ). lacks 32 l ≡ true) e space)

    split : (n : ℕ) → ((rest : Text) × (44 ∷ w ≡ rest ++ committed_text n)) ⊎ ((rest : Text) × (committed_text n ≡ rest ++ 44 ∷ w)) → ⊥
    split n (inl found) = with_space n found.0 found.1
    split n (inr around) = lacking 44 around.0 w (subst (λ (l : List ℕ). lacks 44 l ≡ true) around.1 (committed_lacks 44 refl refl n))

-- a word behind another one of another length than `committed`
pub second : (v w : Text) → lacks 10 v ≡ true → lacks 32 v ≡ true → lacks 10 w ≡ true → lacks 32 w ≡ true → (length v ≡ 9 → ⊥) → Silent (v ++ 32 ∷ w)
second v w v_line v_space w_line w_space other = record {
  single = lacks-append 10 v (32 ∷ w) v_line w_line;
  told = λ front before n e. other_word front v w before n v_space w_space other e;
}
