-- Under a table that passes the test each stack has one choice, and some end.
use Rattle.std.proofs.Common.{◌≡◌, ℕ, zero, suc, ◌+◌, ◌<◌, Bool, true, false, ◌&&◌, eqb, ltb, leb, T, Option, Some, None, List, [], ◌∷◌, ◌++◌, length, get_or, sym, subst, arith, add-zero, inl, inr}
use Rattle.std.proofs.Math.Facts.{eqb_yes, ltb_yes, leb_yes}
use Rattle.hs_grammar.specs.declared.types.Symbol.{Symbol}
use Rattle.hs_grammar.specs.declared.types.Symbol.TheVariants as S
use Rattle.hs_grammar.specs.declared.types.Item.{Item}
use Rattle.hs_grammar.specs.declared.types.Item.TheVariants as I
use Rattle.hs_grammar.specs.declared.types.View.{View}
use Rattle.hs_grammar.specs.Grammar.{Grammar, right, rule_of, turned, Extent, whole, Derives, ends, take, take_keep, take_up_to, refuse, mark, keep, turn, rule, tokens_of}
use Rattle.hs_grammar.specs.Check.{Table, row, cell, join, between, spike, if_has, has, has_other, columns_of, view_of, head_of, column, all_views, view_fits, leading, within, takes, rule_fits, fits, fits_first, production_fits, all_below, lower, rule_ends, checked, if_above, work, weight_of, solid_of, solid_fits, lies_within}
use Rattle.hs_grammar.specs.Stands.{Has, here, ColumnOf, Leads, Place, Sits, Ready, End}
use Rattle.hs_grammar.proofs.Sets.{within_at, takes_at, has_spike, has_join, has_some, has_between, has_yes, has_other_yes, all_at, and_left, and_right, above_zero}
use Rattle.hs_grammar.proofs.Views.{found, column_of, seen_between, seen_last}

-- at each turn
pub turns : (P : ℕ → Type 0) (n : ℕ) → P n → P (n + 1) → P (n + 2) → (q : ℕ) → P (n + turned q)
turns P n a b c zero = rw add-zero a
turns P n a b c (suc zero) = b
turns P n a b c (suc (suc q)) = c

pub ready : (vs : List View) (t : Table) (E : ℕ → Type 0) (s : List Symbol) → Sits vs t E s → Ready vs t E s
ready vs t E [] h = tt
ready vs t E (S.Take d ∷ s) h = h
ready vs t E (S.TakeKeep a b ∷ s) h = h
ready vs t E (S.TakeUpTo a b ∷ s) h = h
ready vs t E (S.Refuse a b ∷ s) h = tt
ready vs t E (S.Mark a ∷ s) h = h
ready vs t E (S.Keep k ∷ s) h = h
ready vs t E (S.Rule n ∷ s) h = h
ready vs t E (S.Turn n ∷ s) h = h

-- ---- from the test

module _ (vs : List View) (t : Table) where
  columns_row : (o : Option View) (d : ℕ) (N : ℕ → Type 0) (a : List ℕ) (x : ℕ) → ((y : ℕ) → N y → Has a y) → ColumnOf o d N x → Has (columns_of o d (λ _. a)) x
  columns_row None d N a x f e = subst (λ z. Has (spike d) z) (sym e) (has_spike d)
  columns_row (Some v) d N a x f (inl h) =
      has_join (if_has (has a v.before) v.seen) (if_has (has_other a v.before) d) x (inl (subst (λ z. Has (if_has (has a v.before) v.seen) z) (sym h.0) (when (has a v.before) v.seen (has_yes a v.before (f v.before h.1)))))
    where
      when : (k : Bool) (d : ℕ) → T k → Has (if_has k d) d
      when true d h = has_spike d
      when false d h = absurd h
  columns_row (Some v) d N a x f (inr h) =
      has_join (if_has (has a v.before) v.seen) (if_has (has_other a v.before) d) x (inr (subst (λ z. Has (if_has (has_other a v.before) d) z) (sym h.0) (when (has_other a v.before) d (has_other_yes a h.1.0 v.before (f h.1.0 h.1.1) h.1.2))))
    where
      when : (k : Bool) (d : ℕ) → T k → Has (if_has k d) d
      when true d h = has_spike d
      when false d h = absurd h

  leads_row : (end : List ℕ) (s : List Symbol) (x : ℕ) → Leads vs t (λ y. Has end y) s x → Has (leading vs t.choice end s) x
  leads_row end [] x h = h
  leads_row end (S.Take d ∷ s) x h = columns_row (view_of vs d) d (λ y. Leads vs t (λ z. Has end z) s y) (leading vs t.choice end s) x (leads_row end s) h
  leads_row end (S.TakeKeep a b ∷ s) x h = h
  leads_row end (S.TakeUpTo a b ∷ s) x h = h
  leads_row end (S.Refuse a b ∷ s) x h = h
  leads_row end (S.Mark _ ∷ s) x h = leads_row end s x h
  leads_row end (S.Keep _ ∷ s) x h = leads_row end s x h
  leads_row end (S.Rule n ∷ s) x h = h
  leads_row end (S.Turn n ∷ s) x h = h

  place_of : (end : List ℕ) (s : List Symbol) (n : ℕ) → T (rule_fits t (leading vs t.choice end s) n) → Place t (λ y. Leads vs t (λ z. Has end z) s y) n
  place_of end s n h =
      let a = leading vs t.choice end s in
      let b = and_left (ltb n (length t.choice)) (within a (row t.behind n)) h in
      let w = and_right (ltb n (length t.choice)) (within a (row t.behind n)) h in
      (ltb_yes b, λ x k. within_at a (row t.behind n) x w (leads_row end s x k))

  sits_of : (end : List ℕ) (s : List Symbol) → T (fits vs t end s) → Sits vs t (λ y. Has end y) s
  sits_of end [] h = tt
  sits_of end (S.Take d ∷ s) h = sits_of end s h
  sits_of end (S.TakeKeep a b ∷ s) h = (leb_yes (and_left (leb a b) (fits vs t end s) h), sits_of end s (and_right (leb a b) (fits vs t end s) h))
  sits_of end (S.TakeUpTo a b ∷ s) h = (leb_yes (and_left (leb a b) (fits vs t end s) h), sits_of end s (and_right (leb a b) (fits vs t end s) h))
  sits_of end (S.Refuse a b ∷ s) h = absurd h
  sits_of end (S.Mark _ ∷ s) h = sits_of end s h
  sits_of end (S.Keep _ ∷ s) h = sits_of end s h
  sits_of end (S.Rule n ∷ s) h =
      let a = rule_fits t (leading vs t.choice end s) n in
      (place_of end s n (and_left a (fits vs t end s) h), sits_of end s (and_right a (fits vs t end s) h))
  sits_of end (S.Turn n ∷ s) h =
      let f = λ (k : ℕ). rule_fits t (leading vs t.choice end s) k in
      let three_of = and_left (f n && (f (n + 1) && f (n + 2))) (fits vs t end s) h in
      let two_of = and_right (f n) (f (n + 1) && f (n + 2)) three_of in (
        turns (λ k. Place t (λ y. Leads vs t (λ z. Has end z) s y) k) n (place_of end s n (and_left (f n) (f (n + 1) && f (n + 2)) three_of))
            (place_of end s (n + 1) (and_left (f (n + 1)) (f (n + 2)) two_of)) (place_of end s (n + 2) (and_right (f (n + 1)) (f (n + 2)) two_of)),
        sits_of end s (and_right (f n && (f (n + 1) && f (n + 2))) (fits vs t end s) h),
      )

  -- ---- symbols before symbols

  column_less : (o : Option View) (d : ℕ) (M N : ℕ → Type 0) (x : ℕ) → ((y : ℕ) → M y → N y) → ColumnOf o d M x → ColumnOf o d N x
  column_less None d M N x f h = h
  column_less (Some v) d M N x f (inl h) = inl (h.0, f v.before h.1)
  column_less (Some v) d M N x f (inr h) = inr (h.0, (h.1.0, f h.1.0 h.1.1, h.1.2))

  leads_less : (D E : ℕ → Type 0) → ((x : ℕ) → D x → E x) → (s : List Symbol) (x : ℕ) → Leads vs t D s x → Leads vs t E s x
  leads_less D E f [] x h = f x h
  leads_less D E f (S.Take d ∷ s) x h = column_less (view_of vs d) d (λ y. Leads vs t D s y) (λ y. Leads vs t E s y) x (leads_less D E f s) h
  leads_less D E f (S.TakeKeep a b ∷ s) x h = h
  leads_less D E f (S.TakeUpTo a b ∷ s) x h = h
  leads_less D E f (S.Refuse a b ∷ s) x h = h
  leads_less D E f (S.Mark _ ∷ s) x h = leads_less D E f s x h
  leads_less D E f (S.Keep _ ∷ s) x h = leads_less D E f s x h
  leads_less D E f (S.Rule n ∷ s) x h = h
  leads_less D E f (S.Turn n ∷ s) x h = h

  leads_cut : (E : ℕ → Type 0) (a s : List Symbol) (x : ℕ) → Leads vs t E (a ++ s) x → Leads vs t (λ y. Leads vs t E s y) a x
  leads_cut E [] s x h = h
  leads_cut E (S.Take d ∷ a) s x h = column_less (view_of vs d) d (λ y. Leads vs t E (a ++ s) y) (λ y. Leads vs t (λ z. Leads vs t E s z) a y) x (leads_cut E a s) h
  leads_cut E (S.TakeKeep _ _ ∷ a) s x h = h
  leads_cut E (S.TakeUpTo _ _ ∷ a) s x h = h
  leads_cut E (S.Refuse _ _ ∷ a) s x h = h
  leads_cut E (S.Mark _ ∷ a) s x h = leads_cut E a s x h
  leads_cut E (S.Keep _ ∷ a) s x h = leads_cut E a s x h
  leads_cut E (S.Rule n ∷ a) s x h = h
  leads_cut E (S.Turn n ∷ a) s x h = h

  sits_less : (D E : ℕ → Type 0) → ((x : ℕ) → D x → E x) → (s : List Symbol) → Sits vs t E s → Sits vs t D s
  sits_less D E f [] h = tt
  sits_less D E f (S.Take d ∷ s) h = sits_less D E f s h
  sits_less D E f (S.TakeKeep a b ∷ s) h = (h.0, sits_less D E f s h.1)
  sits_less D E f (S.TakeUpTo a b ∷ s) h = (h.0, sits_less D E f s h.1)
  sits_less D E f (S.Refuse a b ∷ s) h = h
  sits_less D E f (S.Mark _ ∷ s) h = sits_less D E f s h
  sits_less D E f (S.Keep _ ∷ s) h = sits_less D E f s h
  sits_less D E f (S.Rule n ∷ s) h = ((h.0.0, λ x k. h.0.1 x (leads_less D E f s x k)), sits_less D E f s h.1)
  sits_less D E f (S.Turn n ∷ s) h = ((λ q. ((h.0 q).0, λ x k. (h.0 q).1 x (leads_less D E f s x k))), sits_less D E f s h.1)

  sits_join : (E : ℕ → Type 0) (a s : List Symbol) → Sits vs t (λ y. Leads vs t E s y) a → Sits vs t E s → Sits vs t E (a ++ s)
  sits_join E [] s h k = k
  sits_join E (S.Take d ∷ a) s h k = sits_join E a s h k
  sits_join E (S.TakeKeep _ _ ∷ a) s h k = (h.0, sits_join E a s h.1 k)
  sits_join E (S.TakeUpTo _ _ ∷ a) s h k = (h.0, sits_join E a s h.1 k)
  sits_join E (S.Refuse _ _ ∷ a) s h k = h
  sits_join E (S.Mark _ ∷ a) s h k = sits_join E a s h k
  sits_join E (S.Keep _ ∷ a) s h k = sits_join E a s h k
  sits_join E (S.Rule n ∷ a) s h k = ((h.0.0, λ x l. h.0.1 x (leads_cut E a s x l)), sits_join E a s h.1 k)
  sits_join E (S.Turn n ∷ a) s h k = ((λ q. ((h.0 q).0, λ x l. (h.0 q).1 x (leads_cut E a s x l))), sits_join E a s h.1 k)

  ready_first : (E : ℕ → Type 0) (end : List ℕ) (a s : List Symbol) → T (fits_first vs t end a) → (T (fits vs t end a) → Sits vs t E (a ++ s)) → Ready vs t E (a ++ s)
  ready_first E end [] s h f = ready vs t E s (f h)
  ready_first E end (S.Take d ∷ a) s h f = f h
  ready_first E end (S.TakeKeep _ _ ∷ a) s h f = f h
  ready_first E end (S.TakeUpTo _ _ ∷ a) s h f = f h
  ready_first E end (S.Refuse _ _ ∷ a) s h f = tt
  ready_first E end (S.Mark _ ∷ a) s h f = f h
  ready_first E end (S.Keep _ ∷ a) s h f = f h
  ready_first E end (S.Rule n ∷ a) s h f = f h
  ready_first E end (S.Turn n ∷ a) s h f = f h

  -- nothing is refused in what is lower
  fits_lower : (end : List ℕ) (h : ℕ) (a : List Symbol) → T (lower t h a) → T (fits_first vs t end a) → T (fits vs t end a)
  fits_lower end h [] l f = f
  fits_lower end h (S.Take d ∷ a) l f = f
  fits_lower end h (S.TakeKeep _ _ ∷ a) l f = f
  fits_lower end h (S.TakeUpTo _ _ ∷ a) l f = f
  fits_lower end h (S.Refuse _ _ ∷ a) l f = absurd l
  fits_lower end h (S.Mark _ ∷ a) l f = f
  fits_lower end h (S.Keep _ ∷ a) l f = f
  fits_lower end h (S.Rule n ∷ a) l f = f
  fits_lower end h (S.Turn n ∷ a) l f = f

-- ---- what a table that passed the test gives

pub record Production_fits (g : Grammar) (t : Table) (p : ℕ) : Type 0 where
  pub chosen : T (takes p (leading g.views t.choice (row t.behind (rule_of g p)) (right g p)) (row t.choice (rule_of g p)))
  pub placed : T (fits_first g.views t (row t.behind (rule_of g p)) (right g p))
  pub lighter : work t (right g p) < weight_of t (rule_of g p)
  pub is_solid : T (solid_fits (solid_of t (rule_of g p)) t (right g p))

pub record Good (g : Grammar) (t : Table) : Type 0 where
  pub inside : (p : ℕ) → p < length g.productions → T (lies_within g p)
  pub views : T (all_views g.views (view_fits g.views))
  pub each : (p : ℕ) → 0 < p → p < length g.productions → Production_fits g t p
  pub short : (n : ℕ) → n < length t.choice → T (rule_ends g t n)
  pub first : Place t End 0

module _ (g : Grammar) (t : Table) (good : Good g t) where
  pub ready_right : (p : ℕ) → 0 < p → p < length g.productions → (s : List Symbol) → Sits g.views t End (S.Rule (rule_of g p) ∷ s) → Ready g.views t End (right g p ++ s)
  ready_right p a b s h =
      let end = row t.behind (rule_of g p) in
      ready_first g.views t End end (right g p) s (good.each p a b).placed (λ f.
      sits_join g.views t End (right g p) s (sits_less g.views t (λ y. Leads g.views t End s y) (λ y. Has end y) h.0.1 (right g p) (sits_of g.views t end (right g p) f)) h.1)

  pub chosen : (p : ℕ) → 0 < p → p < length g.productions → (s : List Symbol) → Sits g.views t End (S.Rule (rule_of g p) ∷ s) → (x : ℕ)
      → Leads g.views t End (right g p ++ s) x → cell t.choice (rule_of g p) x ≡ p
  chosen p a b s h x k =
      let end = row t.behind (rule_of g p) in
      takes_at p (leading g.views t.choice end (right g p)) (row t.choice (rule_of g p)) x (good.each p a b).chosen
      (leads_row g.views t end (right g p) x (leads_less g.views t (λ y. Leads g.views t End s y) (λ y. Has end y) h.0.1 (right g p) x (leads_cut g.views t End (right g p) s x k)))

  pub leads : {e : Extent} {s : List Symbol} {q : ℕ} {m : List Item} → Derives g e s q m → Ready g.views t End s → Leads g.views t End s (column g.views (tokens_of m))
  leads ends h = here
  leads (take {c} {s} {m} d) h =
      column_of g.views (view_of g.views c) c (λ y. Leads g.views t End s y) (tokens_of m) (found g.views c good.views) (leads d (ready g.views t End s h))
  leads (take_keep {a} {b} {c} {m} l k d) h = seen_between g.views a b c (head_of (tokens_of m)) l k
  leads (take_up_to {a} {b} {c} {m} l k u d) h = seen_between g.views a b c (head_of (tokens_of m)) l k
  leads (refuse {a} {b} {c} l k) h = subst (λ z. Has (between a b) z) (sym (seen_last g.views (view_of g.views c) c (found g.views c good.views))) (has_between a b c l k)
  leads (mark {s} d) h = leads d (ready g.views t End s h)
  leads (keep {s} d) h = leads d (ready g.views t End s h)
  leads (turn {n} {q} {s} {m} d) h =
      let k = leads d (h.0 q, h.1) in
      let x = column g.views (tokens_of m) in
      turns (λ j. Has (row t.choice j) x → Has (join (row t.choice n) (join (row t.choice (n + 1)) (row t.choice (n + 2)))) x) n
      (λ z. has_join (row t.choice n) (join (row t.choice (n + 1)) (row t.choice (n + 2))) x (inl z))
      (λ z. has_join (row t.choice n) (join (row t.choice (n + 1)) (row t.choice (n + 2))) x (inr (has_join (row t.choice (n + 1)) (row t.choice (n + 2)) x (inl z))))
      (λ z. has_join (row t.choice n) (join (row t.choice (n + 1)) (row t.choice (n + 2))) x (inr (has_join (row t.choice (n + 1)) (row t.choice (n + 2)) x (inr z))))
      q k
  leads (rule {n} {q} {s} {m} p a b e d) h =
      let h' : Sits g.views t End (S.Rule (rule_of g p) ∷ s) = rw e h in
      let k = leads d (ready_right p a b s h') in
      let z : cell t.choice (rule_of g p) (column g.views (tokens_of m)) ≡ p = chosen p a b s h' _ k in
      let z' : cell t.choice n (column g.views (tokens_of m)) ≡ p = rw e at z in
      has_some (row t.choice n) _ p z' a

  -- a rule's derivation goes on with the production that the table names
  pub goes_on : {e : Extent} {n q : ℕ} {s : List Symbol} {m : List Item} → Derives g e (S.Rule n ∷ s) q m → Sits g.views t End (S.Rule n ∷ s)
      → let c = cell t.choice n (column g.views (tokens_of m)) in (0 < c) × Derives g e (right g c ++ s) q m × (c < length g.productions) × (rule_of g c ≡ n)
  goes_on (rule {n} {q} {s} {m} p a b e d) h =
      let h' : Sits g.views t End (S.Rule (rule_of g p) ∷ s) = rw e h in
      let k = leads d (ready_right p a b s h') in
      let z : cell t.choice (rule_of g p) (column g.views (tokens_of m)) ≡ p = chosen p a b s h' _ k in
      let z' : cell t.choice n (column g.views (tokens_of m)) ≡ p = rw e at z in
      (rw z' a, rw z' d, rw z' b, rw z' e)

  -- ---- each stack ends somehow

  abbrev pub Ends : List Symbol → Type 0
  Ends s = (q : ℕ) → (m : List Item) × Derives g whole s q m

  ends_of : (h : ℕ) → ((n : ℕ) → n < length t.choice → get_or t.height n 0 < h → (s : List Symbol) → Ends s → Ends (S.Rule n ∷ s))
      → (E : ℕ → Type 0) (a s : List Symbol) → T (lower t h a) → Sits g.views t E a → Ends s → Ends (a ++ s)
  ends_of h deeper E [] s l f k = k
  ends_of h deeper E (S.Take d ∷ a) s l f k = λ q. let r = ends_of h deeper E a s l f k q in (I.Token d ∷ r.0, take r.1)
  ends_of h deeper E (S.TakeKeep b c ∷ a) s l f k = λ q. let r = ends_of h deeper E a s l f.1 k b in (I.Token b ∷ r.0, take_keep (omega arith) f.0 r.1)
  ends_of h deeper E (S.TakeUpTo b c ∷ a) s l f k = λ q. let r = ends_of h deeper E a s l f.1 k q in (I.Token b ∷ r.0, take_up_to (omega arith) f.0 (omega arith) r.1)
  ends_of h deeper E (S.Refuse b c ∷ a) s l f k = absurd l
  ends_of h deeper E (S.Mark d ∷ a) s l f k = λ q. let r = ends_of h deeper E a s l f k q in (I.Mark d ∷ r.0, mark r.1)
  ends_of h deeper E (S.Keep j ∷ a) s l f k = λ q. let r = ends_of h deeper E a s l f k j in (r.0, keep r.1)
  ends_of h deeper E (S.Rule n ∷ a) s l f k =
      let low = and_left (ltb (get_or t.height n 0) h) (lower t h a) l in
      deeper n f.0.0 (ltb_yes low) (a ++ s) (ends_of h deeper E a s (and_right (ltb (get_or t.height n 0) h) (lower t h a) l) f.1 k)
  ends_of h deeper E (S.Turn n ∷ a) s l f k = λ q.
      let z = λ (j : ℕ). ltb (get_or t.height j 0) h in
      let low = and_left (z n && (z (n + 1) && z (n + 2))) (lower t h a) l in
      let low' = and_right (z n) (z (n + 1) && z (n + 2)) low in
      let low_at : T (z (n + turned q)) = turns (λ j. T (z j)) n (and_left (z n) (z (n + 1) && z (n + 2)) low) (and_left (z (n + 1)) (z (n + 2)) low') (and_right (z (n + 1)) (z (n + 2)) low') q in
      let r = deeper (n + turned q) (f.0 q).0 (ltb_yes low_at) (a ++ s) (ends_of h deeper E a s (and_right (z n && (z (n + 1) && z (n + 2))) (lower t h a) l) f.1 k) q in
      (r.0, turn r.1)

  rule_ends_of : (h n : ℕ) → n < length t.choice → get_or t.height n 0 < h → (s : List Symbol) → Ends s → Ends (S.Rule n ∷ s)
  rule_ends_of zero n b l s k = absurd (omega arith)
  rule_ends_of (suc h) n b l s k =
      let p = get_or t.short n 0 in
      let x1 = ltb 0 p && ltb p (length g.productions) in
      let x2 = eqb (rule_of g p) n in
      let x3 = lower t (get_or t.height n 0) (right g p) in
      let all = good.short n b in
      let in_range = and_left x1 (x2 && x3) all in
      let tail = and_right x1 (x2 && x3) all in
      let above = ltb_yes (and_left (ltb 0 p) (ltb p (length g.productions)) in_range) in
      let below = ltb_yes (and_right (ltb 0 p) (ltb p (length g.productions)) in_range) in
      let same : rule_of g p ≡ n = eqb_yes (and_left x2 x3 tail) in
      let low = and_right x2 x3 tail in
      let end = row t.behind (rule_of g p) in
      let f = sits_of g.views t end (right g p) (fits_lower g.views t end (get_or t.height n 0) (right g p) low (good.each p above below).placed) in
      λ q. let r = ends_of (get_or t.height n 0) (λ j jb jl. rule_ends_of h j jb (omega (arith, jl, l))) (λ y. Has end y) (right g p) s low f k q in
      (r.0, rule p above below same r.1)

  -- some end, from each stack
  pub some_end : (s : List Symbol) → Sits g.views t End s → Ends s
  some_end [] h = λ q. ([], ends)
  some_end (S.Take d ∷ s) h = λ q. let r = some_end s h q in (I.Token d ∷ r.0, take r.1)
  some_end (S.TakeKeep b c ∷ s) h = λ q. let r = some_end s h.1 b in (I.Token b ∷ r.0, take_keep (omega arith) h.0 r.1)
  some_end (S.TakeUpTo b c ∷ s) h = λ q. let r = some_end s h.1 q in (I.Token b ∷ r.0, take_up_to (omega arith) h.0 (omega arith) r.1)
  some_end (S.Refuse b c ∷ s) h = absurd h
  some_end (S.Mark d ∷ s) h = λ q. let r = some_end s h q in (I.Mark d ∷ r.0, mark r.1)
  some_end (S.Keep j ∷ s) h = λ q. let r = some_end s h j in (r.0, keep r.1)
  some_end (S.Rule n ∷ s) h = rule_ends_of (suc (get_or t.height n 0)) n h.0.0 (omega arith) s (some_end s h.1)
  some_end (S.Turn n ∷ s) h = λ q. let r = rule_ends_of (suc (get_or t.height (n + turned q) 0)) (n + turned q) (h.0 q).0 (omega arith) s (some_end s h.1) q in (r.0, turn r.1)

production_of : (g : Grammar) (t : Table) (p : ℕ) → T (production_fits g t p) → Production_fits g t p
production_of g t p h =
    let n = rule_of g p in let end = row t.behind n in let s = right g p in
    let a = takes p (leading g.views t.choice end s) (row t.choice n) in
    let b = fits_first g.views t end s in
    let c = ltb (work t s) (weight_of t n) in
    let d = solid_fits (solid_of t n) t s in
    let ab = and_left (a && b) (c && d) h in
    let cd = and_right (a && b) (c && d) h in
    record { chosen = and_left a b ab; placed = and_right a b ab; lighter = ltb_yes (and_left c d cd); is_solid = and_right c d cd }

pub good_of : (g : Grammar) (t : Table) → T (checked g t) → Good g t
good_of g t h =
    let i = all_below (length g.productions) (lies_within g) in
    let v = all_views g.views (view_fits g.views) in
    let a = all_below (length g.productions) (λ p. if_above p (production_fits g t p)) in
    let b = all_below (length t.choice) (rule_ends g t) in
    let c = rule_fits t (1 ∷ []) 0 in
    let rest = and_left ((i && v) && (a && b)) c h in
    let iv = and_left (i && v) (a && b) rest in
    let ab = and_right (i && v) (a && b) rest in
    record {
      inside = λ p k. all_at (length g.productions) (lies_within g) p (and_left i v iv) k;
      views = and_right i v iv;
      each = λ p l k. production_of g t p (above_zero p (production_fits g t p) l (all_at (length g.productions) (λ p. if_above p (production_fits g t p)) p (and_left a b ab) k));
      short = λ n k. all_at (length t.choice) (rule_ends g t) n (and_right a b ab) k;
      first = place_of g.views t (1 ∷ []) [] 0 (and_right ((i && v) && (a && b)) c h);
    }
