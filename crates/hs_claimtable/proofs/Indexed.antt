-- Marks tell who holds what.
use Rattle.std.proofs.Common.{◌≡◌, ℕ, ◌+◌, ◌<◌, ◌==◌, ◌&&◌, ◌||◌, not, Bool, true, false, if◌then◌else◌, List, [], ◌∷◌, ◌++◌, length, take, get_or, refl, sym, ap, ap₂, ◌∙◌, eqb-true}
use Rattle.std.proofs.lemmas.List.Folds.{list_any-append, list_any_more}
use Rattle.std.specs.List.{list_any, list_all}
use Rattle.hs_claims.specs.declared.claim.Claim.{Claim}
use Rattle.hs_claims.specs.declared.resource.Resource.{Resource}
use Rattle.hs_claims.specs.Compatible.{same_resource, compatible, fits_one, fits}
use Rattle.hs_claims.specs.Held.{Held, held_by, blocks}
use Rattle.hs_claims.specs.Session.{IsSession}
use Rattle.hs_claimtable.specs.declared.places.Places.{Places}
use Rattle.hs_claimtable.specs.Places.{is_on, counts, is_held, IsIndexed}

-- ---- at a step of a loop

pub any_more : {X : Type 0} (p : X → Bool) (xs : List X) (i : ℕ) (x : X) → i < length xs → x ≡ get_or xs i x → list_any p (take (i + 1) xs) ≡ (list_any p (take i xs) || p x)
any_more p xs i x within is = list_any_more p xs i x within ∙ ap (λ y. list_any p (take i xs) || p y) (sym is)

pub one_more : (a b d o : Bool) → ((b && d) || ((a && d) || o)) ≡ (((a || b) && d) || o)
one_more true true true o = refl
one_more true true false o = refl
one_more true false true o = refl
one_more true false false o = refl
one_more false b d o = refl

pub one_less : (a b d o : Bool) → (not (b && d) && (not (a && d) && o)) ≡ (not ((a || b) && d) && o)
one_less true true true o = refl
one_less true true false o = refl
one_less true false true o = refl
one_less true false false o = refl
one_less false b d o = refl

-- ---- one session gets claims, or loses all

and_true : (a : Bool) → (a && true) ≡ a
and_true true = refl
and_true false = refl

and_false : (a : Bool) → (a && false) ≡ false
and_false true = refl
and_false false = refl

or_comm : (a b : Bool) → (a || b) ≡ (b || a)
or_comm true true = refl
or_comm true false = refl
or_comm false true = refl
or_comm false false = refl

pub with_claims : (p : Claim → Bool) (held more : List Claim) (b marked : Bool) → marked ≡ list_any p held → ((list_any p more && b) || marked) ≡ list_any p (if b then held ++ more else held)
with_claims p held more true marked is = ap₂ (λ (x y : Bool). x || y) (and_true (list_any p more)) is ∙ or_comm (list_any p more) (list_any p held) ∙ sym (list_any-append p held more)
with_claims p held more false marked is = ap (λ (x : Bool). x || marked) (and_false (list_any p more)) ∙ is

on_it_by : (here counted on counting : Bool) → (not on && counting) ≡ false → (not (here || on) && ((here && counted) || counting)) ≡ false
on_it_by true counted on counting rest = refl
on_it_by false counted on counting rest = rest

-- a claim that counts is on its resource
on_it : (only : Bool) (r : Resource) (held : List Claim) → (not (list_any (is_on r) held) && list_any (counts only r) held) ≡ false
on_it only r [] = refl
on_it only r (c ∷ cs) = on_it_by (is_on r c) (not only || c.exclusive) (list_any (is_on r) cs) (list_any (counts only r) cs) (on_it only r cs)

pub without_claims : (only : Bool) (r : Resource) (held : List Claim) (b marked : Bool) → marked ≡ list_any (counts only r) held → (not (list_any (is_on r) held && b) && marked) ≡ list_any (counts only r) (if b then [] else held)
without_claims only r held true marked is = ap₂ (λ (x y : Bool). not x && y) (and_true (list_any (is_on r) held)) is ∙ on_it only r held
without_claims only r held false marked is = ap (λ (x : Bool). not x && marked) (and_false (list_any (is_on r) held)) ∙ is

pub released : (only : Bool) (r : Resource) (held : Held) (session s : ℕ) (marked : Bool) → marked ≡ list_any (counts only r) (held_by held s)
    → (not (list_any (is_on r) (held_by held session) && (s == session)) && marked) ≡ list_any (counts only r) (if s == session then [] else held_by held s)
released only r held session s marked is = by (s == session) refl
  where
    by : (b : Bool) → (s == session) ≡ b → (not (list_any (is_on r) (held_by held session) && b) && marked) ≡ list_any (counts only r) (if b then [] else held_by held s)
    by true same = ap (λ t. not (list_any (is_on r) (held_by held t) && true) && marked) (sym (eqb-true s session same)) ∙ without_claims only r (held_by held s) true marked is
    by false other = ap (λ (x : Bool). not x && marked) (and_false (list_any (is_on r) (held_by held session))) ∙ is

-- ---- who is in the way

not_both : (here all any : Bool) → not all ≡ any → not (here && all) ≡ (not here || any)
not_both true all any rest = rest
not_both false all any rest = refl

not_all : (p : Claim → Bool) → (cs : List Claim) → not (list_all p cs) ≡ list_any (λ c. not (p c)) cs
not_all p [] = refl
not_all p (c ∷ cs) = not_both (p c) (list_all p cs) (list_any (λ c. not (p c)) cs) (not_all p cs)

same_test : (p q : Claim → Bool) → ((c : Claim) → p c ≡ q c) → (cs : List Claim) → list_any p cs ≡ list_any q cs
same_test p q h [] = refl
same_test p q h (c ∷ cs) = ap₂ (λ (x y : Bool). x || y) (h c) (same_test p q h cs)

regroup : (a b x y : Bool) → ((a || b) || (x || y)) ≡ ((a || x) || (b || y))
regroup true b x y = refl
regroup false true true y = refl
regroup false true false y = refl
regroup false false x y = refl

either_test : (p q : Claim → Bool) → (cs : List Claim) → list_any (λ c. p c || q c) cs ≡ (list_any p cs || list_any q cs)
either_test p q [] = refl
either_test p q (c ∷ cs) = ap (λ (rest : Bool). (p c || q c) || rest) (either_test p q cs) ∙ regroup (p c) (q c) (list_any p cs) (list_any q cs)

none_there : (cs : List Claim) → list_any (λ (c : Claim). false) cs ≡ false
none_there [] = refl
none_there (c ∷ cs) = none_there cs

-- a pair is found from either side
other_way : (q : Claim → Claim → Bool) (held : List Claim) → (wants : List Claim) → list_any (λ h. list_any (λ w. q w h) wants) held ≡ list_any (λ w. list_any (λ h. q w h) held) wants
other_way q held [] = none_there held
other_way q held (w ∷ ws) = either_test (q w) (λ h. list_any (λ x. q x h) ws) held ∙ ap (λ (rest : Bool). list_any (q w) held || rest) (other_way q held ws)

bad_pair : (same wanted held : Bool) → not (not same || not (wanted || held)) ≡ (same && (not (not wanted) || held))
bad_pair true true held = refl
bad_pair true false true = refl
bad_pair true false false = refl
bad_pair false wanted held = refl

clashes : (w h : Claim) → not (compatible w h) ≡ counts (not w.exclusive) w.resource h
clashes w h = bad_pair (same_resource w.resource h.resource) w.exclusive h.exclusive

misfit : (wants held : List Claim) → not (fits wants held) ≡ list_any (λ w. list_any (counts (not w.exclusive) w.resource) held) wants
misfit wants held = not_all (fits_one wants) held
    ∙ same_test (λ h. not (fits_one wants h)) (λ h. list_any (λ w. counts (not w.exclusive) w.resource h) wants) (λ h. not_all (λ w. compatible w h) wants ∙ same_test (λ w. not (compatible w h)) (λ w. counts (not w.exclusive) w.resource h) (λ w. clashes w h) wants) held
    ∙ other_way (λ w h. counts (not w.exclusive) w.resource h) held wants

-- the marks tell who blocks
pub blocks_by_marks : (places : Places) (held : Held) (session : ℕ) (wants : List Claim) → IsIndexed true places held → (s : ℕ) → IsSession s → (not (s == session) && list_any (is_held places s) wants) ≡ blocks held session wants s
blocks_by_marks places held session wants indexed s h = ap (λ (b : Bool). not (s == session) && b)
    (same_test (is_held places s) (λ w. list_any (counts (not w.exclusive) w.resource) (held_by held s)) (λ w. indexed refl (not w.exclusive) w.resource s h) wants ∙ sym (misfit wants (held_by held s)))
