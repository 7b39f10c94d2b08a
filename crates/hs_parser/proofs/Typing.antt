-- The stacks of a grammar's marks: a test of each production, and that it shows of each derivation that no part is ever missing.
use Rattle.std.proofs.Common.{◌≡◌, ℕ, ◌+◌, Bool, true, false, ◌&&◌, ◌||◌, eqb, T, Option, Some, None, List, [], ◌∷◌, ◌++◌, get_or, refl, ap, sym, ◌∙◌, subst, ◌⊎◌, inl, inr}
use Rattle.std.proofs.Math.Facts.{eqb_yes}
use Rattle.hs_grammar.proofs.Sets.{and_left, and_right}
use Rattle.hs_grammar.specs.declared.types.Symbol.{Symbol}
use Rattle.hs_grammar.specs.declared.types.Symbol.TheVariants as S
use Rattle.hs_grammar.specs.Grammar.{Grammar, right, rule_of, turned}
use Rattle.hs_builder_laws.proofs.Heights.{Height, none, more, Heights, joined, blank, pops, pushes, unpops, Framed, framed, pops_framed, pushes_framed, unpops_framed, put_back, joined_blank}

-- what a rule may leave: in this state, or in any, these parts on its stacks
pub record Outcome : Type 0 where
  pub state : Option ℕ
  pub puts : List ℕ

abbrev pub if_some : {X : Type 0} → Option X → (X → Bool) → Bool
if_some None k = false
if_some (Some x) k = k x

pub opened : {X : Type 0} (o : Option X) (k : X → Bool) → T (if_some o k) → (x : X) × (o ≡ Some x) × T (k x)
opened None k h = absurd h
opened (Some x) k h = (x, refl, h)

or_cases : (a b : Bool) → T (a || b) → T a ⊎ T b
or_cases true b h = inl tt
or_cases false b h = inr h

pub some_is : {X : Type 0} {x y : X} → Some x ≡ Some y → x ≡ y
some_is e = cc

abbrev pub Fits : Option ℕ → ℕ → Type 0
Fits None k = Unit {0}
Fits (Some j) k = j ≡ k

abbrev known_as : Option ℕ → Option ℕ → Bool
known_as None st = true
known_as (Some j) None = false
known_as (Some j) (Some q) = eqb j q

known : (o st : Option ℕ) (q : ℕ) → T (known_as o st) → Fits st q → Fits o q
known None st q h f = tt
known (Some j) None q h f = absurd h
known (Some j) (Some i) q h f = eqb_yes h ∙ f

-- ---- equal heights

abbrev same_height : Height → Height → Bool
same_height none none = true
same_height (more a) (more b) = same_height a b
same_height _ _ = false

abbrev same : Heights → Heights → Bool
same [] [] = true
same (a ∷ v) (b ∷ w) = same_height a b && same v w
same _ _ = false

height_is : (a b : Height) → T (same_height a b) → a ≡ b
height_is none none h = refl
height_is none (more b) h = absurd h
height_is (more a) none h = absurd h
height_is (more a) (more b) h = ap more (height_is a b h)

heights_are : (v w : Heights) → T (same v w) → v ≡ w
heights_are [] [] h = refl
heights_are [] (b ∷ w) h = absurd h
heights_are (a ∷ v) [] h = absurd h
heights_are (a ∷ v) (b ∷ w) h =
    let x = height_is a b (and_left (same_height a b) (same v w) h) in
    let y = heights_are v w (and_right (same_height a b) (same v w) h) in
    ap (λ z. z ∷ v) x ∙ ap (λ z. b ∷ z) y

-- ---- the test: `bottom` is no part at all, `act` what a mark does, and by rule `needs` what it takes and `results` what it may leave

module _ (bottom : Heights) (act : ℕ → Heights → Option Heights) (needs : List (List ℕ)) (results : List (List Outcome)) where
  abbrev pub need : ℕ → List ℕ
  need n = get_or needs n []

  abbrev pub result : ℕ → List Outcome
  result n = get_or results n []

  abbrev leaves : Outcome → Option ℕ → Heights → Bool
  leaves o st v = known_as o.state st && if_some (pushes o.puts bottom) (same v)

  abbrev any_leaves : List Outcome → Option ℕ → Heights → Bool
  any_leaves [] st v = false
  any_leaves (o ∷ os) st v = leaves o st v || any_leaves os st v

  abbrev each : List Outcome → Heights → (Option ℕ → Heights → Bool) → Bool
  each [] w k = true
  each (o ∷ os) w k = if_some (pushes o.puts w) (k o.state) && each os w k

  abbrev called : ℕ → Heights → (Option ℕ → Heights → Bool) → Bool
  called n v k = if_some (pops (need n) v) (λ w. each (result n) w k)

  abbrev turns : Option ℕ → ℕ → Heights → (Option ℕ → Heights → Bool) → Bool
  turns None n v k = false
  turns (Some q) n v k = called (n + turned q) v k

  abbrev pub goes : List Outcome → List Symbol → Option ℕ → Heights → Bool
  goes outs [] st v = any_leaves outs st v
  goes outs (S.Take c ∷ s) st v = goes outs s st v
  goes outs (S.TakeKeep a b ∷ s) st v = goes outs s None v
  goes outs (S.TakeUpTo a b ∷ s) st v = goes outs s st v
  goes outs (S.Refuse a b ∷ s) st v = true
  goes outs (S.Mark a ∷ s) st v = if_some (act a v) (goes outs s st)
  goes outs (S.Keep j ∷ s) st v = goes outs s (Some j) v
  goes outs (S.Rule n ∷ s) st v = called n v (λ st' v'. goes outs s st' v')
  goes outs (S.Turn n ∷ s) st v = turns st n v (λ st' v'. goes outs s st' v')

  abbrev pub typed : Grammar → ℕ → Bool
  typed g p = if_some (unpops (need (rule_of g p)) bottom) (goes (result (rule_of g p)) (right g p) None)

  -- ---- what is still to be derived, as what it does to the stacks

  module _ (final : Heights) where
    abbrev pub Continues : List Outcome → Heights → (ℕ → Heights → Type 0) → Type 0
    Continues [] w R = Unit {0}
    Continues (o ∷ os) w R = ((u : Heights) × (pushes o.puts w ≡ Some u) × ((k : ℕ) → Fits o.state k → R k u)) × Continues os w R

    abbrev pub Runs : List Symbol → ℕ → Heights → Type 0
    Runs [] q v = v ≡ final
    Runs (S.Take c ∷ s) q v = Runs s q v
    Runs (S.TakeKeep a b ∷ s) q v = (c : ℕ) → Runs s c v
    Runs (S.TakeUpTo a b ∷ s) q v = Runs s q v
    Runs (S.Refuse a b ∷ s) q v = Unit {0}
    Runs (S.Mark a ∷ s) q v = (w : Heights) × (act a v ≡ Some w) × Runs s q w
    Runs (S.Keep j ∷ s) q v = Runs s j v
    Runs (S.Rule n ∷ s) q v = (w : Heights) × (pops (need n) v ≡ Some w) × Continues (result n) w (λ k u. Runs s k u)
    Runs (S.Turn n ∷ s) q v = (w : Heights) × (pops (need (n + turned q)) v ≡ Some w) × Continues (result (n + turned q)) w (λ k u. Runs s k u)

    module _ (act_framed : (a : ℕ) (v f : Heights) → Framed f (act a v) (act a (joined v f))) where
      left : (outs : List Outcome) (st : Option ℕ) (q : ℕ) (v f : Heights) (s : List Symbol) → blank f ≡ bottom → T (any_leaves outs st v) → Fits st q → Continues outs f (λ k u. Runs s k u) → Runs s q (joined v f)
      left [] st q v f s b h e c = absurd h
      left (o ∷ os) st q v f s b h e c = elim (or_cases (leaves o st v) (any_leaves os st v) h) [
        | inl x ↦
            let i = opened (pushes o.puts bottom) (same v) (and_right (known_as o.state st) (if_some (pushes o.puts bottom) (same v)) x) in
            let made : pushes o.puts bottom ≡ Some v = i.1 ∙ ap Some (sym (heights_are v i.0 i.2)) in
            let above : pushes o.puts (joined bottom f) ≡ Some (joined v f) = framed f v (pushes o.puts bottom) (pushes o.puts (joined bottom f)) (pushes_framed o.puts bottom f) made in
            let whole_f : joined bottom f ≡ f = ap (λ z. joined z f) (sym b) ∙ joined_blank f in
            let there : pushes o.puts f ≡ Some (joined v f) = ap (pushes o.puts) (sym whole_f) ∙ above in
            let is : c.0.0 ≡ joined v f = some_is (sym c.0.1 ∙ there) in
            subst (λ z. Runs s q z) is (c.0.2 q (known o.state st q (and_left (known_as o.state st) (if_some (pushes o.puts bottom) (same v)) x) e))
        | inr x ↦ left os st q v f s b x e c.1
      ]

      each_runs : (os : List Outcome) (w f : Heights) (k : Option ℕ → Heights → Bool) (R : ℕ → Heights → Type 0) → T (each os w k) → ((st : Option ℕ) (u : Heights) (j : ℕ) → T (k st u) → Fits st j → R j (joined u f)) → Continues os (joined w f) R
      each_runs [] w f k R h g = tt
      each_runs (o ∷ os) w f k R h g =
          let i = opened (pushes o.puts w) (k o.state) (and_left (if_some (pushes o.puts w) (k o.state)) (each os w k) h) in (
            (joined i.0 f, framed f i.0 (pushes o.puts w) (pushes o.puts (joined w f)) (pushes_framed o.puts w f) i.1, λ j e. g o.state i.0 j i.2 e),
            each_runs os w f k R (and_right (if_some (pushes o.puts w) (k o.state)) (each os w k) h) g,
          )

      rule_runs : (n : ℕ) (v f : Heights) (k : Option ℕ → Heights → Bool) (R : ℕ → Heights → Type 0) → T (called n v k) → ((st : Option ℕ) (u : Heights) (j : ℕ) → T (k st u) → Fits st j → R j (joined u f))
          → (w : Heights) × (pops (need n) (joined v f) ≡ Some w) × Continues (result n) w R
      rule_runs n v f k R h g =
          let i = opened (pops (need n) v) (λ w. each (result n) w k) h in
          (joined i.0 f, framed f i.0 (pops (need n) v) (pops (need n) (joined v f)) (pops_framed (need n) v f) i.1, each_runs (result n) i.0 f k R i.2 g)

      turn_runs : (st : Option ℕ) (n q : ℕ) (v f : Heights) (k : Option ℕ → Heights → Bool) (R : ℕ → Heights → Type 0) → T (turns st n v k) → Fits st q → ((st : Option ℕ) (u : Heights) (j : ℕ) → T (k st u) → Fits st j → R j (joined u f))
          → (w : Heights) × (pops (need (n + turned q)) (joined v f) ≡ Some w) × Continues (result (n + turned q)) w R
      turn_runs None n q v f k R h e g = absurd h
      turn_runs (Some i) n q v f k R h e g = rule_runs (n + turned q) v f k R (subst (λ z. T (called (n + turned z) v k)) e h) g

      -- what the test says of a production, on top of other stacks
      along : (outs : List Outcome) (a : List Symbol) (st : Option ℕ) (q : ℕ) (v f : Heights) (s : List Symbol) → blank f ≡ bottom → T (goes outs a st v) → Fits st q → Continues outs f (λ k u. Runs s k u) → Runs (a ++ s) q (joined v f)
      along outs [] st q v f s b h e c = left outs st q v f s b h e c
      along outs (S.Take x ∷ a) st q v f s b h e c = along outs a st q v f s b h e c
      along outs (S.TakeKeep x y ∷ a) st q v f s b h e c = λ d. along outs a None d v f s b h tt c
      along outs (S.TakeUpTo x y ∷ a) st q v f s b h e c = along outs a st q v f s b h e c
      along outs (S.Refuse x y ∷ a) st q v f s b h e c = tt
      along outs (S.Mark x ∷ a) st q v f s b h e c =
          let i = opened (act x v) (goes outs a st) h in
          (joined i.0 f, framed f i.0 (act x v) (act x (joined v f)) (act_framed x v f) i.1, along outs a st q i.0 f s b i.2 e c)
      along outs (S.Keep j ∷ a) st q v f s b h e c = along outs a (Some j) j v f s b h refl c
      along outs (S.Rule n ∷ a) st q v f s b h e c = rule_runs n v f (λ st' v'. goes outs a st' v') (λ k u. Runs (a ++ s) k u) h (λ st' u j h' e'. along outs a st' j u f s b h' e' c)
      along outs (S.Turn n ∷ a) st q v f s b h e c = turn_runs st n q v f (λ st' v'. goes outs a st' v') (λ k u. Runs (a ++ s) k u) h e (λ st' u j h' e'. along outs a st' j u f s b h' e' c)

      -- a rule gives way to a production of it
      pub given : (g : Grammar) (p n q : ℕ) (v : Heights) (s : List Symbol) → T (typed g p) → rule_of g p ≡ n → blank v ≡ bottom → Runs (S.Rule n ∷ s) q v → Runs (right g p ++ s) q v
      given g p n q v s h e b r =
          let m = rule_of g p in
          let i = opened (unpops (need m) bottom) (goes (result m) (right g p) None) h in
          let r' : Runs (S.Rule m ∷ s) q v = subst (λ z. Runs (S.Rule z ∷ s) q v) (sym e) r in
          let back = put_back (need m) v r'.0 r'.1 in
          let empty : blank r'.0 ≡ bottom = back.1 ∙ b in
          let whole_w : joined bottom r'.0 ≡ r'.0 = ap (λ z. joined z r'.0) (sym empty) ∙ joined_blank r'.0 in
          let above : unpops (need m) (joined bottom r'.0) ≡ Some (joined i.0 r'.0) = framed r'.0 i.0 (unpops (need m) bottom) (unpops (need m) (joined bottom r'.0)) (unpops_framed (need m) bottom r'.0) i.1 in
          let is : joined i.0 r'.0 ≡ v = some_is (sym above ∙ ap (unpops (need m)) whole_w ∙ back.0) in
          subst (λ z. Runs (right g p ++ s) q z) is (along (result m) (right g p) None q i.0 r'.0 s empty i.2 tt r'.2)
