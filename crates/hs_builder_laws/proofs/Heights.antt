-- How high stacks stand, and what pops and pushes change of that.
use Rattle.std.proofs.Common.{◌≡◌, ℕ, zero, suc, Option, Some, None, List, [], ◌∷◌, refl, ap, sym, ◌∙◌, subst}

pub data Height : Type 0 where
  none : Height
  more : Height → Height

abbrev pub height : {A : Type 0} → List A → Height
height [] = none
height (x ∷ xs) = more (height xs)

abbrev pub Heights : Type 0
Heights = List Height

abbrev pub plus : Height → Height → Height
plus none b = b
plus (more a) b = more (plus a b)

-- each stack on top of another
abbrev pub joined : Heights → Heights → Heights
joined [] f = f
joined (a ∷ v) [] = a ∷ v
joined (a ∷ v) (b ∷ f) = plus a b ∷ joined v f

-- as many stacks, all empty
abbrev pub blank : Heights → Heights
blank [] = []
blank (h ∷ v) = none ∷ blank v

abbrev pub beside : Height → Option Heights → Option Heights
beside h None = None
beside h (Some v) = Some (h ∷ v)

abbrev pub and_next : Option Heights → (Heights → Option Heights) → Option Heights
and_next None f = None
and_next (Some v) f = f v

-- one part less on stack i, and one more
abbrev pub pop : ℕ → Heights → Option Heights
pop i [] = None
pop zero (none ∷ v) = None
pop zero (more h ∷ v) = Some (h ∷ v)
pop (suc i) (h ∷ v) = beside h (pop i v)

abbrev pub push : ℕ → Heights → Option Heights
push i [] = None
push zero (h ∷ v) = Some (more h ∷ v)
push (suc i) (h ∷ v) = beside h (push i v)

abbrev pub pops : List ℕ → Heights → Option Heights
pops [] v = Some v
pops (i ∷ is) v = and_next (pop i v) (pops is)

abbrev pub pushes : List ℕ → Heights → Option Heights
pushes [] v = Some v
pushes (i ∷ is) v = and_next (push i v) (pushes is)

-- what `pops` took, put back
abbrev pub unpops : List ℕ → Heights → Option Heights
unpops [] v = Some v
unpops (i ∷ is) v = and_next (unpops is v) (push i)

pub record Effect : Type 0 where
  pub takes : List ℕ
  pub puts : List ℕ

abbrev pub changed : Effect → Heights → Option Heights
changed e v = and_next (pops e.takes v) (pushes e.puts)

-- ---- the same on top of other stacks

abbrev pub Framed : Heights → Option Heights → Option Heights → Type 0
Framed f None x = Unit {0}
Framed f (Some w) x = x ≡ Some (joined w f)

beside_none : (h : Height) (o : Option Heights) → Framed [] (beside h o) (beside h o)
beside_none h None = tt
beside_none h (Some w) = refl

beside_one : (h b : Height) (f : Heights) (o x : Option Heights) → Framed f o x → Framed (b ∷ f) (beside h o) (beside (plus h b) x)
beside_one h b f None x e = tt
beside_one h b f (Some w) x e = ap (beside (plus h b)) e

pop_framed : (i : ℕ) (v f : Heights) → Framed f (pop i v) (pop i (joined v f))
pop_framed i [] f = tt
pop_framed zero (none ∷ v) f = tt
pop_framed zero (more h ∷ v) [] = refl
pop_framed zero (more h ∷ v) (b ∷ f) = refl
pop_framed (suc i) (h ∷ v) [] = beside_none h (pop i v)
pop_framed (suc i) (h ∷ v) (b ∷ f) = beside_one h b f (pop i v) (pop i (joined v f)) (pop_framed i v f)

push_framed : (i : ℕ) (v f : Heights) → Framed f (push i v) (push i (joined v f))
push_framed i [] f = tt
push_framed zero (h ∷ v) [] = refl
push_framed zero (h ∷ v) (b ∷ f) = refl
push_framed (suc i) (h ∷ v) [] = beside_none h (push i v)
push_framed (suc i) (h ∷ v) (b ∷ f) = beside_one h b f (push i v) (push i (joined v f)) (push_framed i v f)

next_framed : (f : Heights) (o x : Option Heights) (g : Heights → Option Heights) → Framed f o x → ((w : Heights) → Framed f (g w) (g (joined w f))) → Framed f (and_next o g) (and_next x g)
next_framed f None x g e h = tt
next_framed f (Some w) x g e h = subst (λ z. Framed f (g w) (and_next z g)) (sym e) (h w)

pub pops_framed : (is : List ℕ) (v f : Heights) → Framed f (pops is v) (pops is (joined v f))
pops_framed [] v f = refl
pops_framed (i ∷ is) v f = next_framed f (pop i v) (pop i (joined v f)) (pops is) (pop_framed i v f) (λ w. pops_framed is w f)

pub pushes_framed : (is : List ℕ) (v f : Heights) → Framed f (pushes is v) (pushes is (joined v f))
pushes_framed [] v f = refl
pushes_framed (i ∷ is) v f = next_framed f (push i v) (push i (joined v f)) (pushes is) (push_framed i v f) (λ w. pushes_framed is w f)

pub unpops_framed : (is : List ℕ) (v f : Heights) → Framed f (unpops is v) (unpops is (joined v f))
unpops_framed [] v f = refl
unpops_framed (i ∷ is) v f = next_framed f (unpops is v) (unpops is (joined v f)) (push i) (unpops_framed is v f) (λ w. push_framed i w f)

pub changed_framed : (e : Effect) (v f : Heights) → Framed f (changed e v) (changed e (joined v f))
changed_framed e v f = next_framed f (pops e.takes v) (pops e.takes (joined v f)) (pushes e.puts) (pops_framed e.takes v f) (λ w. pushes_framed e.puts w f)

pub framed : (f w : Heights) (o x : Option Heights) → Framed f o x → o ≡ Some w → x ≡ Some (joined w f)
framed f w o x h e = subst (λ z. Framed f z x) e h

-- ---- back, and as many stacks as before

abbrev Back : (Heights → Option Heights) → Heights → Option Heights → Type 0
Back g v None = Unit {0}
Back g v (Some w) = (g w ≡ Some v) × (blank w ≡ blank v)

beside_back : (h : Height) (i : ℕ) (v : Heights) (o : Option Heights) → Back (push i) v o → Back (push (suc i)) (h ∷ v) (beside h o)
beside_back h i v None e = tt
beside_back h i v (Some w) e = (ap (beside h) e.0, ap (λ z. none ∷ z) e.1)

pop_back : (i : ℕ) (v : Heights) → Back (push i) v (pop i v)
pop_back i [] = tt
pop_back zero (none ∷ v) = tt
pop_back zero (more h ∷ v) = (refl, refl)
pop_back (suc i) (h ∷ v) = beside_back h i v (pop i v) (pop_back i v)

further : (i : ℕ) (is : List ℕ) (v w : Heights) (o : Option Heights) → push i w ≡ Some v → blank w ≡ blank v → Back (unpops is) w o → Back (unpops (i ∷ is)) v o
further i is v w None e b h = tt
further i is v w (Some u) e b h = (ap (λ z. and_next z (push i)) h.0 ∙ e, h.1 ∙ b)

next_back : (i : ℕ) (is : List ℕ) (v : Heights) (o : Option Heights) → Back (push i) v o → ((w : Heights) → Back (unpops is) w (pops is w)) → Back (unpops (i ∷ is)) v (and_next o (pops is))
next_back i is v None e h = tt
next_back i is v (Some w) e h = further i is v w (pops is w) e.0 e.1 (h w)

pops_back : (is : List ℕ) (v : Heights) → Back (unpops is) v (pops is v)
pops_back [] v = (refl, refl)
pops_back (i ∷ is) v = next_back i is v (pop i v) (pop_back i v) (λ w. pops_back is w)

pub put_back : (is : List ℕ) (v w : Heights) → pops is v ≡ Some w → (unpops is w ≡ Some v) × (blank w ≡ blank v)
put_back is v w e = subst (λ z. Back (unpops is) v z) e (pops_back is v)

pub joined_blank : (v : Heights) → joined (blank v) v ≡ v
joined_blank [] = refl
joined_blank (h ∷ v) = ap (λ z. h ∷ z) (joined_blank v)
