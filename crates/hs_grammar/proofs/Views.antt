-- The column of a token, by what comes behind it.
use Rattle.std.proofs.Common.{◌≡◌, ◌≢◌, ℕ, ◌<◌, ◌≤◌, Bool, true, false, ◌&&◌, eqb, ltb, leb, T, cond, Option, Some, None, List, [], ◌∷◌, refl, ap, sym, ◌∙◌, subst, arith, ◌⊎◌, inl, inr}
use Rattle.std.proofs.Math.Facts.{ltb_yes, yes_eqb, yes_leb}
use Rattle.std.proofs.lemmas.Bool.{eqb-true, eqb-false}
use Rattle.hs_grammar.specs.declared.types.View.{View}
use Rattle.hs_grammar.specs.Check.{join, between, if_has, views_between, view_of, seen_by, seen_as, head_of, column, all_views, view_fits, is_none}
use Rattle.hs_grammar.specs.Stands.{Has, ColumnOf, Like}
use Rattle.hs_grammar.proofs.Sets.{and_left, and_right, has_spike, has_join, has_between}

-- what the test says of a view
pub record Fit (vs : List View) (v : View) : Type 0 where
  pub stands_before : 0 < v.before
  pub plain : view_of vs v.before ≡ None
  pub apart : T (all_views vs (λ w. cond (eqb w.seen v.before) false true))

none_of : (o : Option View) → T (is_none o) → o ≡ None
none_of None h = refl
none_of (Some v) h = absurd h

fit_of : (vs : List View) (v : View) → T (view_fits vs v) → Fit vs v
fit_of vs v h =
    let a = ltb 0 v.before in let b = is_none (view_of vs v.before) in
    let c = all_views vs (λ w. cond (eqb w.seen v.before) false true) in
    record {
      stands_before = ltb_yes (and_left a b (and_left (a && b) c h));
      plain = none_of (view_of vs v.before) (and_right a b (and_left (a && b) c h));
      apart = and_right (a && b) c h;
    }

abbrev pub Fits : List View → Option View → Type 0
Fits vs None = Unit {0}
Fits vs (Some v) = Fit vs v

found_by : (f : View → Bool) (all : List View) (vs : List View) (c : ℕ) → ((v : View) → T (f v) → Fit all v) → T (all_views vs f) → Fits all (view_of vs c)
found_by f all [] c g h = tt
found_by f all (v ∷ vs) c g h =
    elim (eqb v.class c) as (λ b. Fits all (cond b (Some v) (view_of vs c)))
    [ true ↦ g v (and_left (f v) (all_views vs f) h) | false ↦ found_by f all vs c g (and_right (f v) (all_views vs f) h) ]

pub found : (vs : List View) (c : ℕ) → T (all_views vs (view_fits vs)) → Fits vs (view_of vs c)
found vs c h = found_by (view_fits vs) vs vs c (fit_of vs) h

other_seen_at : (v : View) (b : ℕ) → T (cond (eqb v.seen b) false true) → v.seen ≢ b
other_seen_at v b h e = (elim (eqb v.seen b) as (λ k. T k → T (cond k false true) → ⊥) [ true ↦ λ a c. c | false ↦ λ a c. a ]) (yes_eqb e) h

-- a class that isn't `b` is never seen as b
other_seen : (vs : List View) (b c next : ℕ) → T (all_views vs (λ w. cond (eqb w.seen b) false true)) → c ≢ b → seen_as vs c next ≢ b
other_seen [] b c next h n = n
other_seen (v ∷ vs) b c next h n =
    let this = cond (eqb v.seen b) false true in
    let rest = all_views vs (λ w. cond (eqb w.seen b) false true) in
    elim (eqb v.class c) as (λ k. seen_by (cond k (Some v) (view_of vs c)) c next ≢ b) [
      | true ↦ elim (eqb v.before next) as (λ k. cond k v.seen c ≢ b) [ true ↦ other_seen_at v b (and_left this rest h) | false ↦ n ]
      | false ↦ other_seen vs b c next (and_right this rest h) n
    ]

at_head : (vs : List View) (v : View) (w : List ℕ) → Fit vs v → v.before ≡ head_of w → column vs w ≡ v.before
at_head vs v [] f e = absurd (omega (arith, f.stands_before, e))
at_head vs v (d ∷ r) f e =
    let none : view_of vs d ≡ None = subst (λ z. view_of vs z ≡ None) e f.plain in
    ap (λ o. seen_by o d (head_of r)) none ∙ sym e

off_head : (vs : List View) (v : View) (w : List ℕ) → Fit vs v → v.before ≢ head_of w → column vs w ≢ v.before
off_head vs v [] f n = λ e. n (sym e)
off_head vs v (d ∷ r) f n = other_seen vs v.before d (head_of r) f.apart (λ e. n (sym e))

-- the column of a first token, from those in which what is behind it may begin
pub column_of : (vs : List View) (o : Option View) (c : ℕ) (N : ℕ → Type 0) (w : List ℕ) → Fits vs o → N (column vs w) → ColumnOf o c N (seen_by o c (head_of w))
column_of vs None c N w f h = refl
column_of vs (Some v) c N w f h =
    (elim (eqb v.before (head_of w)) as (λ k. eqb v.before (head_of w) ≡ k
    → ((cond k v.seen c ≡ v.seen) × N v.before) ⊎ ((cond k v.seen c ≡ c) × ((y : ℕ) × N y × (y ≢ v.before)))) [
      | true ↦ λ e. inl (refl, subst N (at_head vs v w f (eqb-true v.before (head_of w) e)) h)
      | false ↦ λ e. inr (refl, (column vs w, h, off_head vs v w f (eqb-false v.before (head_of w) e)))
    ]) refl

if_has_yes : (k : Bool) (d : ℕ) → T k → Has (if_has k d) d
if_has_yes true d h = has_spike d
if_has_yes false d h = absurd h

and_both : (a b : Bool) → T a → T b → T (a && b)
and_both true b h k = k
and_both false b h k = absurd h

seen_inside : (vs : List View) (a b c next : ℕ) → a ≤ c → c ≤ b → (seen_as vs c next ≡ c) ⊎ Has (views_between vs a b) (seen_as vs c next)
seen_inside [] a b c next l k = inl refl
seen_inside (v ∷ vs) a b c next l k =
    let test = leb a v.class && leb v.class b in
    let all = join (if_has test v.seen) (views_between vs a b) in
    (elim (eqb v.class c) as (λ i. eqb v.class c ≡ i → (seen_by (cond i (Some v) (view_of vs c)) c next ≡ c) ⊎ Has all (seen_by (cond i (Some v) (view_of vs c)) c next)) [
      | true ↦ λ e.
          let same : v.class ≡ c = eqb-true v.class c e in
          let low : a ≤ v.class = omega (arith, same, l) in
          let high : v.class ≤ b = omega (arith, same, k) in
          elim (eqb v.before next) as (λ i. (cond i v.seen c ≡ c) ⊎ Has all (cond i v.seen c)) [
            | true ↦ inr (has_join (if_has test v.seen) (views_between vs a b) v.seen (inl (if_has_yes test v.seen (and_both (leb a v.class) (leb v.class b) (yes_leb low) (yes_leb high)))))
            | false ↦ inl refl
          ]
      | false ↦ λ e. elim (seen_inside vs a b c next l k) [ inl x ↦ inl x | inr x ↦ inr (has_join (if_has test v.seen) (views_between vs a b) _ (inr x)) ]
    ]) refl

pub seen_between : (vs : List View) (a b c next : ℕ) → a ≤ c → c ≤ b → Has (join (between a b) (views_between vs a b)) (seen_as vs c next)
seen_between vs a b c next l k = elim (seen_inside vs a b c next l k) [
  | inl e ↦ has_join (between a b) (views_between vs a b) _ (inl (subst (λ z. Has (between a b) z) (sym e) (has_between a b c l k)))
  | inr x ↦ has_join (between a b) (views_between vs a b) _ (inr x)
]

-- a token that nothing follows is seen as its class
pub seen_last : (vs : List View) (o : Option View) (c : ℕ) → Fits vs o → seen_by o c 0 ≡ c
seen_last vs None c f = refl
seen_last vs (Some v) c f =
    (elim (eqb v.before 0) as (λ k. eqb v.before 0 ≡ k → cond k v.seen c ≡ c)
    [ true ↦ λ e. absurd (let z : v.before ≡ 0 = eqb-true v.before 0 e in omega (arith, f.stands_before, z)) | false ↦ λ e. refl ]) refl

pub like_head : (vs : List View) (w rest : List ℕ) → Like vs w rest → head_of w ≡ head_of rest
like_head vs w [] h = ap head_of h
like_head vs w (c ∷ rest) h = ap head_of h.1

pub like_column : (vs : List View) (w rest : List ℕ) → Like vs w rest → column vs w ≡ column vs rest
like_column vs w [] h = ap (column vs) h
like_column vs w (c ∷ rest) h = ap (column vs) h.1 ∙ h.2

pub like_self : (vs : List View) (rest : List ℕ) → Like vs rest rest
like_self vs [] = refl
like_self vs (c ∷ rest) = (rest, refl, refl)

pub like_more : (vs : List View) (c : ℕ) (w rest : List ℕ) → Like vs w rest → Like vs (c ∷ w) (c ∷ rest)
like_more vs c w rest h = (w, refl, ap (seen_as vs c) (like_head vs w rest h))
