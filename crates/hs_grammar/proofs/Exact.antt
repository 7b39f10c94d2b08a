-- The exact fault, from the faults in both columns of a token.
use Rattle.std.proofs.Common.{◌≡◌, ◌≢◌, ℕ, zero, suc, ◌+◌, ◌<◌, ◌≤◌, true, false, cond, eqb, Option, Some, None, List, [], ◌∷◌, ◌++◌, length, get_or, take, drop, refl, ap, sym, ◌∙◌, subst, arith, ◌⊎◌, inl, inr, append_assoc, append-nil, length-append, length-drop}
use Rattle.std.proofs.lemmas.Bool.{eqb-true}
use Rattle.std.proofs.Math.Facts.{yes_eqb}
use Rattle.hs_grammar.proofs.Sets.{is_true, holds}
use Rattle.hs_grammar.specs.declared.types.Item.{Item}
use Rattle.hs_grammar.specs.declared.types.Fault.{Fault}
use Rattle.hs_grammar.specs.declared.types.Fault.TheVariants as F
use Rattle.hs_grammar.specs.declared.types.View.{View}
use Rattle.hs_grammar.specs.Grammar.{Grammar, Extent, whole, refused, Starts, tokens_of, Begins}
use Rattle.hs_grammar.specs.Check.{Table, checked, view_of, seen_by, seen_as, head_of}
use Rattle.hs_grammar.specs.Answer.{Only, Serves, First, Leaves, Refuses, Faulty}
use Rattle.hs_grammar.specs.Stands.{Like, Halts, TakesOne, Stuck, Refused, Fails, other_by, other_next, place_of, tried}
use Rattle.hs_grammar.proofs.Views.{Fits, found, like_self, like_more}
use Rattle.hs_grammar.proofs.Theory.{good_of}
use Rattle.hs_grammar.proofs.Memory.{next, so_far}

-- what both kinds of stop have in common: behind the front and a token c
record Stops (g : Grammar) (front : List ℕ) (c : ℕ) (rest : List ℕ) : Type 0 where
  begins : Begins g front
  none : Halts g whole front (c ∷ rest)
  one : TakesOne g refused front (c ∷ rest)

stops_stuck : (g : Grammar) (front : List ℕ) (c : ℕ) (rest : List ℕ) → Stuck g front (c ∷ rest) → Stops g front c rest
stops_stuck g front c rest h = record { begins = h.begins; none = h.none; one = λ m w d e l. absurd (h.none_refused m w d e l) }

stops_refused : (g : Grammar) (front : List ℕ) (c : ℕ) (rest : List ℕ) → Refused g front (c ∷ rest) → Stops g front c rest
stops_refused g front c rest h = record { begins = h.begins; none = h.none; one = h.one }

-- ---- a token that can be taken: the fault is the next one's

leaves_later : (g : Grammar) (front : List ℕ) (c : ℕ) (rest : List ℕ) → Halts g whole front (c ∷ rest) → Leaves g (front ++ c ∷ []) rest
leaves_later g front c [] h = λ m d e. h m (c ∷ []) d e (like_self g.views (c ∷ []))
leaves_later g front c (x ∷ rest) h = λ m more d e. h m (c ∷ x ∷ more) d (e ∙ append_assoc front (c ∷ []) (x ∷ more)) (x ∷ more, refl, refl)

refuses_later : (g : Grammar) (front : List ℕ) (c : ℕ) (rest : List ℕ) → TakesOne g refused front (c ∷ rest) → Refuses g (front ++ c ∷ []) rest → ⊥
refuses_later g front c [] h k = k
refuses_later g front c (x ∷ rest) h k =
    let o = h k.0 (c ∷ x ∷ []) k.1 (k.2 ∙ append_assoc front (c ∷ []) (x ∷ [])) (x ∷ [], refl, refl) in let e = o.1 in cc

later : (g : Grammar) (ts : List ℕ) (p : ℕ) → p < length ts → Stops g (take p ts) (get_or ts p 0) (drop (p + 1) ts) → Begins g (take (p + 1) ts) → Faulty g ts (F.At (p + 1))
later g ts p l h b =
    let c = get_or ts p 0 in (
      record {
        in_range = omega arith;
        begins = b;
        leaves = subst (λ z. Leaves g z (drop (p + 1) ts)) (sym (so_far ts p l)) (leaves_later g (take p ts) c (drop (p + 1) ts) h.none);
      },
      λ k. refuses_later g (take p ts) c (drop (p + 1) ts) h.one (subst (λ z. Refuses g z (drop (p + 1) ts)) (so_far ts p l) k),
    )

-- ---- both columns of a token

abbrev AboveZero : Option View → Type 0
AboveZero None = Unit {0}
AboveZero (Some v) = 0 < v.before

abbrev Sees : Option View → ℕ → ℕ → ℕ → Type 0
Sees o c head d = (x : ℕ) → (seen_by o c x ≡ seen_by o c head) ⊎ (seen_by o c x ≡ seen_by o c d)

-- before each class the token is seen as before the one or as before the other
same : (a b : ℕ) → a ≡ b → eqb a b ≡ true
same a b e = is_true (eqb a b) (yes_eqb e)

not_same : (a b : ℕ) → a ≢ b → eqb a b ≡ false
not_same a b n = (elim (eqb a b) as (λ k. eqb a b ≡ k → k ≡ false) [ true ↦ λ e. absurd (n (eqb-true a b e)) | false ↦ λ e. refl ]) refl

other_column : (o : Option View) (c head d : ℕ) → AboveZero o → other_by o head ≡ Some d → Sees o c head d
other_column None c head d z e = cc
other_column (Some v) c head d z e = λ x.
    (elim (eqb v.before head) as (λ k. eqb v.before head ≡ k → cond k (Some 0) (Some v.before) ≡ Some d
    → (cond (eqb v.before x) v.seen c ≡ cond k v.seen c) ⊎ (cond (eqb v.before x) v.seen c ≡ cond (eqb v.before d) v.seen c)) [
      | true ↦ λ a f. elim (eqb v.before x) as (λ k. (cond k v.seen c ≡ v.seen) ⊎ (cond k v.seen c ≡ cond (eqb v.before d) v.seen c))
          [ true ↦ inl refl | false ↦ inr (let y : d ≡ 0 = cc in ap (λ k. cond k v.seen c) (sym (not_same v.before d (λ g. omega (arith, y, z, g))))) ]
      | false ↦ λ a f. elim (eqb v.before x) as (λ k. (cond k v.seen c ≡ c) ⊎ (cond k v.seen c ≡ cond (eqb v.before d) v.seen c))
          [ true ↦ inr (let y : v.before ≡ d = cc in ap (λ k. cond k v.seen c) (sym (same v.before d y))) | false ↦ inl refl ]
    ]) refl e

-- ---- a front and what is behind it

abbrev behind : ℕ → List ℕ
behind zero = []
behind (suc d) = suc d ∷ []

head_behind : (d : ℕ) → head_of (behind d) ≡ d
head_behind zero = refl
head_behind (suc d) = refl

tried_is : (ts : List ℕ) (p d : ℕ) → p < length ts → tried ts p d ≡ take p ts ++ get_or ts p 0 ∷ behind d
tried_is ts p zero l = so_far ts p l
tried_is ts p (suc d) l = ap (λ z. z ++ suc d ∷ []) (so_far ts p l) ∙ append_assoc (take p ts) (get_or ts p 0 ∷ []) (suc d ∷ [])

like_front : (vs : List View) (a w rest : List ℕ) → Like vs w rest → Like vs (a ++ w) (a ++ rest)
like_front vs [] w rest h = h
like_front vs (x ∷ a) w rest h = like_more vs x (a ++ w) (a ++ rest) (like_front vs a w rest h)

take_front : (a b : List ℕ) (n : ℕ) → n ≤ length a → take n (a ++ b) ≡ take n a
take_front a b zero l = refl
take_front [] b (suc n) l = absurd (omega (arith, l))
take_front (x ∷ a) b (suc n) l = ap (λ z. x ∷ z) (take_front a b n (omega (arith, l)))

drop_front : (a b : List ℕ) (n : ℕ) → n ≤ length a → drop n (a ++ b) ≡ drop n a ++ b
drop_front a b zero l = refl
drop_front [] b (suc n) l = absurd (omega (arith, l))
drop_front (x ∷ a) b (suc n) l = drop_front a b n (omega (arith, l))

both_parts : (a : List ℕ) (n : ℕ) → a ≡ take n a ++ drop n a
both_parts a zero = refl
both_parts [] (suc n) = refl
both_parts (x ∷ a) (suc n) = ap (λ z. x ∷ z) (both_parts a n)

take_past : (a b : List ℕ) (n : ℕ) → length a ≤ n → (r : List ℕ) × (take n (a ++ b) ≡ a ++ r)
take_past [] b n l = (take n b, refl)
take_past (x ∷ a) b zero l = absurd (omega (arith, l))
take_past (x ∷ a) b (suc n) l = let r = take_past a b n (omega (arith, l)) in (r.0, ap (λ z. x ∷ z) r.1)

front_cut : (a b : List ℕ) (n : ℕ) → n ≡ length a → (take n (a ++ b) ≡ a) × (drop n (a ++ b) ≡ b)
front_cut [] b zero e = (refl, refl)
front_cut [] b (suc n) e = absurd (omega (arith, e))
front_cut (x ∷ a) b zero e = absurd (omega (arith, e))
front_cut (x ∷ a) b (suc n) e = let r = front_cut a b n (omega (arith, e)) in (ap (λ z. x ∷ z) r.0, r.1)

begins_less : (g : Grammar) (a b : List ℕ) → Begins g (a ++ b) → Begins g a
begins_less g a b h = (h.0, b ++ h.1, h.2, h.3 ∙ append_assoc a b h.1)

-- nothing goes on behind an earlier place, so nothing behind a later one
halts_back : (g : Grammar) (e : Extent) (front rest : List ℕ) (n : ℕ) → n ≤ length front → Halts g e (take n (front ++ rest)) (drop n (front ++ rest)) → Halts g e front rest
halts_back g e front rest n l h = λ m w d f k.
    h m (drop n front ++ w) d
    (f ∙ ap (λ z. z ++ w) (both_parts front n) ∙ append_assoc (take n front) (drop n front) w ∙ ap (λ z. z ++ (drop n front ++ w)) (sym (take_front front rest n l)))
    (subst (λ z. Like g.views (drop n front ++ w) z) (sym (drop_front front rest n l)) (like_front g.views (drop n front) w rest k))

-- where one token more is taken behind an earlier place, none is behind a later one
one_back : (g : Grammar) (e : Extent) (front rest : List ℕ) (n : ℕ) → n < length front → TakesOne g e (take n (front ++ rest)) (drop n (front ++ rest)) → (m : List Item) (c : ℕ) (w : List ℕ)
    → Starts g e m → tokens_of m ≡ front ++ c ∷ w → Like g.views (c ∷ w) rest → ⊥
one_back g e front rest n l h m c w d f k =
    let o = h m (drop n front ++ c ∷ w) d
    (f ∙ ap (λ z. z ++ c ∷ w) (both_parts front n) ∙ append_assoc (take n front) (drop n front) (c ∷ w) ∙ ap (λ z. z ++ (drop n front ++ c ∷ w)) (sym (take_front front rest n (omega arith))))
    (subst (λ z. Like g.views (drop n front ++ c ∷ w) z) (sym (drop_front front rest n (omega arith))) (like_front g.views (drop n front) (c ∷ w) rest k)) in
    let e1 : length (drop n front) + suc (length w) ≡ 1 = sym (length-append (drop n front) (c ∷ w)) ∙ ap length o.1 in
    omega (arith, e1, length-drop n front, l)

-- ---- the two runs together

seen_either : (vs : List View) (c : ℕ) (rest : List ℕ) (d : ℕ) → Sees (view_of vs c) c (head_of rest) d → (more : List ℕ)
    → Like vs (c ∷ more) (c ∷ rest) ⊎ Like vs (c ∷ more) (c ∷ behind d)
seen_either vs c rest d s more = elim (s (head_of more))
    [ inl e ↦ inl (more, refl, e) | inr e ↦ inr (more, refl, e ∙ ap (seen_as vs c) (sym (head_behind d))) ]

-- ---- in terms of all tokens

place : {a b : ℕ} → Some a ≡ Some b → a ≡ b
place e = cc

stops_of : (g : Grammar) (ts : List ℕ) (fault : Fault) (p : ℕ) → Fails g ts fault → place_of fault ≡ Some p → p < length ts → Stops g (take p ts) (get_or ts p 0) (drop (p + 1) ts)
stops_of g ts (F.At q) p h e l =
    let i : Stuck g (take p ts) (drop p ts) = subst (λ z. Stuck g (take z ts) (drop z ts)) (place e) h.1 in
    stops_stuck g (take p ts) (get_or ts p 0) (drop (p + 1) ts) (subst (λ z. Stuck g (take p ts) z) (next ts p l) i)
stops_of g ts (F.NotOffered q) p h e l =
    let i : Refused g (take p ts) (drop p ts) = subst (λ z. Refused g (take z ts) (drop z ts)) (place e) h.1 in
    stops_refused g (take p ts) (get_or ts p 0) (drop (p + 1) ts) (subst (λ z. Refused g (take p ts) z) (next ts p l) i)
stops_of g ts F.NoMemory p h e l = cc

begins_of : (g : Grammar) (ts : List ℕ) (fault : Fault) (p : ℕ) → Fails g ts fault → place_of fault ≡ Some p → Begins g (take p ts)
begins_of g ts (F.At q) p h e = subst (λ z. Begins g (take z ts)) (place e) h.1.begins
begins_of g ts (F.NotOffered q) p h e = subst (λ z. Begins g (take z ts)) (place e) h.1.begins
begins_of g ts F.NoMemory p h e = cc

halts_of : (g : Grammar) (ts : List ℕ) (fault : Fault) (p : ℕ) → Fails g ts fault → place_of fault ≡ Some p → Halts g whole (take p ts) (drop p ts)
halts_of g ts (F.At q) p h e = subst (λ z. Halts g whole (take z ts) (drop z ts)) (place e) h.1.none
halts_of g ts (F.NotOffered q) p h e = subst (λ z. Halts g whole (take z ts) (drop z ts)) (place e) h.1.none
halts_of g ts F.NoMemory p h e = cc

in_range_of : (vs : List View) (ts : List ℕ) (p d : ℕ) → other_next vs (drop p ts) ≡ Some d → p < length ts
in_range_of vs [] zero d e = cc
in_range_of vs [] (suc p) d e = cc
in_range_of vs (x ∷ ts) zero d e = omega arith
in_range_of vs (x ∷ ts) (suc p) d e = let h = in_range_of vs ts p d e in omega (arith, h)

tried_front : (ts : List ℕ) (p d : ℕ) → tried ts p d ≡ take (p + 1) ts ++ behind d
tried_front ts p zero = sym (append-nil (take (p + 1) ts))
tried_front ts p (suc d) = refl

length_front : (ts : List ℕ) (p : ℕ) → p < length ts → length (take p ts) ≡ p
length_front [] p l = absurd (omega (arith, l))
length_front (x ∷ ts) zero l = refl
length_front (x ∷ ts) (suc p) l = omega (arith, length_front ts p (omega (arith, l)))

short_front : (ts : List ℕ) (p : ℕ) → length (take p ts) ≤ p
short_front ts zero = omega arith
short_front [] (suc p) = omega arith
short_front (x ∷ ts) (suc p) = omega (arith, short_front ts p)

above : (vs : List View) (o : Option View) → Fits vs o → AboveZero o
above vs None f = tt
above vs (Some v) f = f.stands_before

module _ (g : Grammar) (rows : List (List ℕ)) (t : Table) (serves : Serves g rows t) (ts : List ℕ) (fault : Fault) (p d : ℕ)
    (fails : Fails g ts fault) (at : place_of fault ≡ Some p) (other : other_next g.views (drop p ts) ≡ Some d) where
  inside : p < length ts
  inside = in_range_of g.views ts p d other

  c : ℕ
  c = get_or ts p 0

  sees : Sees (view_of g.views (get_or ts p 0)) (get_or ts p 0) (head_of (drop (p + 1) ts)) d
  sees =
      let c = get_or ts p 0 in
      let o = view_of g.views c in
      let fit : AboveZero o = above g.views o (found g.views c (good_of g t (holds (checked g t) serves.1)).views) in
      other_column o c (head_of (drop (p + 1) ts)) d fit (ap (other_next g.views) (sym (next ts p inside)) ∙ other)

  stops : Stops g (take p ts) (get_or ts p 0) (drop (p + 1) ts)
  stops = stops_of g ts fault p fails at inside

  -- the token can be taken
  pub later_whole : (m : List Item) → Only g (tried ts p d) m → Faulty g ts (F.At (p + 1))
  later_whole m h = later g ts p inside stops (m, behind d, h.sentence, h.spelt ∙ tried_front ts p d)

  pub later_far : (second : Fault) (q : ℕ) → Fails g (tried ts p d) second → place_of second ≡ Some q → p < q → Faulty g ts (F.At (p + 1))
  later_far second q h e l =
      let b = begins_of g (tried ts p d) second q h e in
      let r = take_past (take (p + 1) ts) (behind d) q (omega (arith, l, short_front ts (p + 1))) in
      later g ts p inside stops (begins_less g (take (p + 1) ts) r.0 (subst (λ z. Begins g z) (ap (take q) (tried_front ts p d) ∙ r.1) b))

  -- it can't
  leaves : (second : Fault) (q : ℕ) → Fails g (tried ts p d) second → place_of second ≡ Some q → q ≤ p → First g ts p
  leaves second q h e l =
      let c = get_or ts p 0 in
      let k : Halts g whole (take q (tried ts p d)) (drop q (tried ts p d)) = halts_of g (tried ts p d) second q h e in
      let k' = subst (λ z. Halts g whole (take q z) (drop q z)) (tried_is ts p d inside) k in
      let back = halts_back g whole (take p ts) (c ∷ behind d) q (omega (arith, l, length_front ts p inside)) k' in
      record {
        in_range = omega (arith, inside);
        begins = begins_of g ts fault p fails at;
        leaves = subst (λ z. Leaves g (take p ts) z) (sym (next ts p inside)) (λ m more i f. elim (seen_either g.views c (drop (p + 1) ts) d sees more)
            [ inl x ↦ stops.none m (c ∷ more) i f x | inr x ↦ back m (c ∷ more) i f x ]);
      }

  abbrev Unrefused : Type 0
  Unrefused = (m : List Item) → Starts g refused m → tokens_of m ≡ take p ts ++ get_or ts p 0 ∷ [] → Like g.views (get_or ts p 0 ∷ []) (get_or ts p 0 ∷ behind d) → ⊥

  refuses_neither : Halts g refused (take p ts) (get_or ts p 0 ∷ drop (p + 1) ts) → Unrefused → Refuses g (take p ts) (drop p ts) → ⊥
  refuses_neither h k r =
      let c = get_or ts p 0 in
      let r' = subst (λ z. Refuses g (take p ts) z) (next ts p inside) r in
      elim (seen_either g.views c (drop (p + 1) ts) d sees []) [ inl x ↦ h r'.0 (c ∷ []) r'.1 r'.2 x | inr x ↦ k r'.0 r'.1 r'.2 x ]

  unrefused_stuck : (q : ℕ) → Stuck g (take q (tried ts p d)) (drop q (tried ts p d)) → q ≤ p → Unrefused
  unrefused_stuck q h l =
      let c = get_or ts p 0 in
      let k' = subst (λ z. Halts g refused (take q z) (drop q z)) (tried_is ts p d inside) h.none_refused in
      λ m i f x. halts_back g refused (take p ts) (c ∷ behind d) q (omega (arith, l, length_front ts p inside)) k' m (c ∷ []) i f x

  unrefused_before : (q : ℕ) → Refused g (take q (tried ts p d)) (drop q (tried ts p d)) → q < p → Unrefused
  unrefused_before q h l =
      let c = get_or ts p 0 in
      let k' = subst (λ z. TakesOne g refused (take q z) (drop q z)) (tried_is ts p d inside) h.one in
      λ m i f x. one_back g refused (take p ts) (c ∷ behind d) q (omega (arith, l, length_front ts p inside)) k' m c [] i f x

module _ (g : Grammar) (rows : List (List ℕ)) (t : Table) (serves : Serves g rows t) (ts : List ℕ) where
  same_fault : (fault : Fault) (p d : ℕ) (fails : Fails g ts fault) (at : place_of fault ≡ Some p) (other : other_next g.views (drop p ts) ≡ Some d)
      → First g ts p → Unrefused g rows t serves ts fault p d fails at other → Faulty g ts fault
  same_fault (F.At q) p d h e o first n =
      let i : Stuck g (take p ts) (drop p ts) = subst (λ z. Stuck g (take z ts) (drop z ts)) (place e) h.1 in
      let k = subst (λ z. Halts g refused (take p ts) z) (next ts p (in_range_of g.views ts p d o)) i.none_refused in
      subst (λ z. Faulty g ts (F.At z)) (sym (place e)) (first, refuses_neither g rows t serves ts (F.At q) p d h e o k n)
  same_fault (F.NotOffered q) p d h e o first n =
      let i : Refused g (take p ts) (drop p ts) = subst (λ z. Refused g (take z ts) (drop z ts)) (place e) h.1 in
      subst (λ z. Faulty g ts (F.NotOffered z)) (sym (place e)) (first, i.word)
  same_fault F.NoMemory p d h e o first n = tt

  pub same_stuck : (fault : Fault) (p d q : ℕ) (fails : Fails g ts fault) (at : place_of fault ≡ Some p) (other : other_next g.views (drop p ts) ≡ Some d)
      → Fails g (tried ts p d) (F.At q) → q ≤ p → Faulty g ts fault
  same_stuck fault p d q h e o k l =
      same_fault fault p d h e o (leaves g rows t serves ts fault p d h e o (F.At q) q k refl l) (unrefused_stuck g rows t serves ts fault p d h e o q k.1 l)

  pub same_before : (fault : Fault) (p d q : ℕ) (fails : Fails g ts fault) (at : place_of fault ≡ Some p) (other : other_next g.views (drop p ts) ≡ Some d)
      → Fails g (tried ts p d) (F.NotOffered q) → q < p → Faulty g ts fault
  same_before fault p d q h e o k l =
      same_fault fault p d h e o (leaves g rows t serves ts fault p d h e o (F.NotOffered q) q k refl (omega arith)) (unrefused_before g rows t serves ts fault p d h e o q k.1 l)

  pub refused_there : (fault : Fault) (p d q : ℕ) (fails : Fails g ts fault) (at : place_of fault ≡ Some p) (other : other_next g.views (drop p ts) ≡ Some d)
      → Fails g (tried ts p d) (F.NotOffered q) → q ≡ p → Faulty g ts (F.NotOffered p)
  refused_there fault p d q h e o k same =
      let l = in_range_of g.views ts p d o in
      let c = get_or ts p 0 in
      let cut = front_cut (take p ts) (c ∷ behind d) p (sym (length_front ts p l)) in
      let w : Refuses g (take p (tried ts p d)) (drop p (tried ts p d)) = subst (λ z. Refuses g (take z (tried ts p d)) (drop z (tried ts p d))) same k.1.word in
      let w' = subst (λ z. Refuses g (take p z) (drop p z)) (tried_is ts p d l) w in
      let w'' = subst (λ z. Refuses g z (drop p (take p ts ++ c ∷ behind d))) cut.0 w' in
      let found : Refuses g (take p ts) (c ∷ behind d) = subst (λ z. Refuses g (take p ts) z) cut.1 w'' in
      (leaves g rows t serves ts fault p d h e o (F.NotOffered q) q k refl (omega arith), subst (λ z. Refuses g (take p ts) z) (sym (next ts p l)) found)

-- ---- a token with one column

none_of : (o : Option View) (head : ℕ) → other_by o head ≡ None → o ≡ None
none_of None head e = refl
none_of (Some v) head e = (elim (eqb v.before head) as (λ k. cond k (Some 0) (Some v.before) ≡ None → Some v ≡ None) [ true ↦ λ f. cc | false ↦ λ f. cc ]) e

like_plain : (vs : List View) (c : ℕ) (rest more : List ℕ) → other_next vs (c ∷ rest) ≡ None → Like vs (c ∷ more) (c ∷ rest)
like_plain vs c rest more e =
    let n = none_of (view_of vs c) (head_of rest) e in
    (more, refl, ap (λ o. seen_by o c (head_of more)) n ∙ sym (ap (λ o. seen_by o c (head_of rest)) n))

plain_leaves : (g : Grammar) (front rest : List ℕ) → other_next g.views rest ≡ None → Halts g whole front rest → Leaves g front rest
plain_leaves g front [] e h = λ m i f. h m [] i (f ∙ sym (append-nil front)) refl
plain_leaves g front (c ∷ rest) e h = λ m more i f. h m (c ∷ more) i f (like_plain g.views c rest more e)

plain_refuses : (g : Grammar) (front rest : List ℕ) → other_next g.views rest ≡ None → Halts g refused front rest → Refuses g front rest → ⊥
plain_refuses g front [] e h r = r
plain_refuses g front (c ∷ rest) e h r = h r.0 (c ∷ []) r.1 r.2 (like_plain g.views c rest [] e)

pub plain : (g : Grammar) (ts : List ℕ) (fault : Fault) (p : ℕ) → Fails g ts fault → place_of fault ≡ Some p → other_next g.views (drop p ts) ≡ None → Faulty g ts fault
plain g ts (F.At q) p h e o =
    let o' = subst (λ z. other_next g.views (drop z ts) ≡ None) (sym (place e)) o in
    (record { in_range = h.0; begins = h.1.begins; leaves = plain_leaves g (take q ts) (drop q ts) o' h.1.none }, plain_refuses g (take q ts) (drop q ts) o' h.1.none_refused)
plain g ts (F.NotOffered q) p h e o =
    let o' = subst (λ z. other_next g.views (drop z ts) ≡ None) (sym (place e)) o in
    (record { in_range = h.0; begins = h.1.begins; leaves = plain_leaves g (take q ts) (drop q ts) o' h.1.none }, h.1.word)
plain g ts F.NoMemory p h e o = tt
