-- Fronts of what is to be written.
use Rattle.std.proofs.Common.{◌≡◌, ℕ, ◌≤◌, List, [], ◌∷◌, ◌++◌, length, refl, sym, ◌∙◌, ap, subst, arith, append_assoc, append-nil, length-append}
use Rattle.hs_run.specs.Holding.{WritesPrefix}

-- a prefix of a piece that stands first in what is left is a prefix of the whole
pub front_on : (old mid new piece more whole : List ℕ) → mid ++ (piece ++ more) ≡ old ++ whole → length old ≤ length mid → WritesPrefix mid new piece → WritesPrefix old new whole
front_on old mid new piece more whole left grown front = record {
  rest = front.rest ++ more;
  is = sym (append_assoc new front.rest more) ∙ ap (λ (l : List ℕ). l ++ more) front.is ∙ append_assoc mid piece more ∙ left;
  grown = omega (arith, grown, front.grown);
}

-- nothing written is a front
pub nothing_yet : (old whole : List ℕ) → WritesPrefix old old whole
nothing_yet old whole = record { rest = whole; is = refl; grown = omega arith }

-- a whole is its front
pub whole_front : (old new whole : List ℕ) → new ≡ old ++ whole → WritesPrefix old new whole
whole_front old new whole is = record { rest = []; is = append-nil new ∙ is; grown = omega (arith, ap length is, length-append old whole) }

-- a prefix of what is gathered is a prefix of it and more
pub front_more : (old new before piece more : List ℕ) → WritesPrefix old new (before ++ piece) → WritesPrefix old new (before ++ (piece ++ more))
front_more old new before piece more front = record {
  rest = front.rest ++ more;
  is = sym (append_assoc new front.rest more) ∙ ap (λ (l : List ℕ). l ++ more) front.is ∙ append_assoc old (before ++ piece) more ∙ ap (λ (l : List ℕ). old ++ l) (append_assoc before piece more);
  grown = front.grown;
}

-- a prefix of what is gathered, where something was handed over before
pub front_after : (old mid new piece whole : List ℕ) → mid ++ piece ≡ old ++ whole → length old ≤ length mid → WritesPrefix mid new piece → WritesPrefix old new whole
front_after old mid new piece whole left grown front = record { rest = front.rest; is = front.is ∙ left; grown = omega (arith, grown, front.grown) }

-- what is gathered now stands first in what was left
pub gathered : (written before now line rest left whole : List ℕ) → written ++ (before ++ left) ≡ whole → now ≡ before ++ line → left ≡ line ++ rest → written ++ (now ++ rest) ≡ whole
gathered written before now line rest left whole is one first =
    ap (λ (l : List ℕ). written ++ (l ++ rest)) one ∙ ap (λ (l : List ℕ). written ++ l) (append_assoc before line rest ∙ sym (ap (λ (l : List ℕ). before ++ l) first)) ∙ is

-- handing over changes nothing of the whole
pub handed : (written before after now rest whole : List ℕ) → after ++ now ≡ written ++ before → written ++ (before ++ rest) ≡ whole → after ++ (now ++ rest) ≡ whole
handed written before after now rest whole same is = sym (append_assoc after now rest) ∙ ap (λ (l : List ℕ). l ++ rest) same ∙ append_assoc written before rest ∙ is

-- one piece more is gathered behind another
pub extended : (written gathered new old before piece more : List ℕ) → written ++ gathered ≡ old ++ (before ++ piece) → new ≡ gathered ++ more → written ++ new ≡ old ++ (before ++ (piece ++ more))
extended written gathered new old before piece more is one =
    ap (λ (l : List ℕ). written ++ l) one ∙ sym (append_assoc written gathered more) ∙ ap (λ (l : List ℕ). l ++ more) is ∙ append_assoc old (before ++ piece) more ∙ ap (λ (l : List ℕ). old ++ l) (append_assoc before piece more)

-- a list that is as long as the front of another one begins with it
pub split_front : {A : Type 0} (all behind front rest : List A) → all ++ behind ≡ front ++ rest → length front ≤ length all → (piece : List A) × ((all ≡ front ++ piece) × (piece ++ behind ≡ rest))
split_front all behind [] rest is long = (all, (refl, is))
split_front [] behind (f ∷ front) rest is long = absurd (omega (arith, long))
split_front {A} (x ∷ all) behind (f ∷ front) rest is long =
    let first : x ≡ f = cc in
    let more : all ++ behind ≡ front ++ rest = cc in
    let parts = split_front all behind front rest more (omega (arith, long)) in
    (parts.0, (ap (λ (y : A). y ∷ all) first ∙ ap (λ (l : List A). f ∷ l) parts.1.0, parts.1.1))

-- a prefix of what was gathered, where nothing was written or gathered since
pub front_so_far : (old mid new gathered piece more : List ℕ) → mid ≡ old → piece ≡ gathered → WritesPrefix mid new piece → WritesPrefix old new (gathered ++ more)
front_so_far old mid new gathered piece more same is front =
    front_on old mid new piece more (gathered ++ more) (ap (λ (l : List ℕ). l ++ (piece ++ more)) same ∙ ap (λ (l : List ℕ). old ++ (l ++ more)) is) (omega (arith, ap length same)) front

-- what is gathered may be handed over where it is the next of the whole
pub front_gathered : (old written gathered rest whole : List ℕ) → written ++ (gathered ++ rest) ≡ old ++ whole → length old ≤ length written → WritesPrefix old (written ++ gathered) whole
front_gathered old written gathered rest whole is grown = record { rest = rest; is = append_assoc written gathered rest ∙ is; grown = omega (arith, grown, length-append written gathered) }

-- also where nothing is gathered any more, or nothing was since
pub front_emptied : (old written gathered whole : List ℕ) → gathered ≡ [] → WritesPrefix old written whole → WritesPrefix old (written ++ gathered) whole
front_emptied old written gathered whole none front = subst (λ (l : List ℕ). WritesPrefix old l whole) (sym (ap (λ (l : List ℕ). written ++ l) none ∙ append-nil written)) front

pub front_unsaid : (old gathered same lines : List ℕ) → same ≡ gathered → WritesPrefix old (old ++ same) (gathered ++ lines)
front_unsaid old gathered same lines is = front_gathered old old same lines (gathered ++ lines) (ap (λ (l : List ℕ). old ++ (l ++ lines)) is) (omega arith)

-- and then a prefix of it is a prefix of the whole
pub front_through : (old mid new gathered whole : List ℕ) → length old ≤ length mid → WritesPrefix old (mid ++ gathered) whole → WritesPrefix mid new gathered → WritesPrefix old new whole
front_through old mid new gathered whole grown left front = front_on old mid new gathered left.rest whole (sym (append_assoc mid gathered left.rest) ∙ left.is) grown front

-- a prefix of what is gathered, with more behind it
pub front_behind : (old new piece more : List ℕ) → WritesPrefix old new piece → WritesPrefix old new (piece ++ more)
front_behind old new piece more front = record {
  rest = front.rest ++ more;
  is = sym (append_assoc new front.rest more) ∙ ap (λ (l : List ℕ). l ++ more) front.is ∙ append_assoc old piece more;
  grown = front.grown;
}
