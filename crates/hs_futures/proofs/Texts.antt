-- The texts of commits.
use Rattle.std.proofs.Common.{◌≡◌, ℕ, ◌+◌, List, [], ◌∷◌, ◌++◌, length, drop, refl, sym, ap, ◌∙◌, arith, append_assoc, append-nil, length-append}
use Rattle.std.proofs.Math.Seq.{drop-append_seam}
use Rattle.hs_turns.specs.Histories.{Commit}
use Rattle.hs_seams.specs.World.{World, texts_from, texts_since}

module _ (w : World) where
  pub length-texts : (before ks : List Commit) → length (texts_from w before ks) ≡ length ks
  length-texts before [] = refl
  length-texts before (k ∷ ks) = omega (arith, length-texts (before ++ k ∷ []) ks)

  pub texts-append : (before xs ys : List Commit) → texts_from w before (xs ++ ys) ≡ texts_from w before xs ++ texts_from w (before ++ xs) ys
  texts-append before [] ys = ap (λ (b : List Commit). texts_from w b ys) (sym (append-nil before))
  texts-append before (x ∷ xs) ys =
      ap (λ (l : List (List ℕ)). w.text before x ∷ l) (texts-append (before ++ x ∷ []) xs ys ∙ ap (λ (b : List Commit). texts_from w (before ++ x ∷ []) xs ++ texts_from w b ys) (append_assoc before (x ∷ []) xs))

  -- the texts of those that were added
  pub texts_added : (before more now : List Commit) → now ≡ before ++ more → texts_since w before now ≡ texts_from w before more
  texts_added before more now is = ap (λ (l : List Commit). texts_from w before (drop (length before) l)) is ∙ ap (texts_from w before) (drop-append_seam before more)

  pub length-added : (before more now : List Commit) → now ≡ before ++ more → length now ≡ length before + length (texts_since w before now)
  length-added before more now is = omega (arith, ap length is, length-append before more, ap length (texts_added before more now is), length-texts before more)

  -- the texts of one more part
  pub texts_on : (before one more now : List Commit) → now ≡ before ++ one → texts_from w before one ++ texts_from w now more ≡ texts_from w before (one ++ more)
  texts_on before one more now is = ap (λ (b : List Commit). texts_from w before one ++ texts_from w b more) is ∙ sym (texts-append before one more)
