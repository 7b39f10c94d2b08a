-- What the literal grammar writes is derived by the table's grammar, steps included, but for what is meant otherwise: a test of each
-- literal production by a script, and what it shows.
use Rattle.std.proofs.Common.{◌≡◌, ℕ, zero, suc, ◌+◌, ◌<◌, ◌≤◌, Bool, true, false, ◌&&◌, eqb, ltb, leb, T, Option, Some, None, List, [], ◌∷◌, ◌++◌, length, get_or, refl, sym, subst, arith, append_assoc, ◌⊎◌, inl, inr}
use Rattle.std.proofs.Math.Facts.{eqb_yes, ltb_yes, leb_yes}
use Rattle.hs_grammar.proofs.Sets.{and_left, and_right}
use Rattle.hs_grammar.specs.declared.types.Symbol.{Symbol}
use Rattle.hs_grammar.specs.declared.types.Symbol.TheVariants as S
use Rattle.hs_grammar.specs.declared.types.Item.{Item}
use Rattle.hs_grammar.specs.declared.types.Item.TheVariants as I
use Rattle.hs_grammar.specs.Grammar.{Grammar, right, rule_of, turned, Extent, whole, refused, Derives}
use Rattle.hs_grammar.specs.Grammar as D
use Rattle.hs_syntax.specs.Marks as mark_of
use Rattle.hs_syntax.specs.Names.{comma, number_0, number_1, number_38}
use Rattle.hs_syntax.specs.Literal.{Part, word, span, scaled, mark, rule, productions, production, Writes, ends, takes, takes_one, takes_scaled, builds, goes_on}
use Rattle.hs_syntax.specs.Meant.{MeantAs, same}
use Rattle.hs_syntax.proofs.Meant.{item_eq, item_same, items_eq, items_same, exchanged, old, new, marks_of}
use Rattle.hs_syntax.proofs.Script.{Fits, known_as, known}
use Rattle.hs_syntax.proofs.SymbolsEqual.{symbols_eq, symbols_same, stripped, stripped_same}

-- ---- what a rule of the literal grammar does to the table's stack

-- from each state that fits, some items are derived as which the owed ones, those that the literal grammar has written and the table
-- has not, and then w are meant
abbrev pub Can : Grammar → Extent → Option ℕ → List Item → List Symbol → List Item → Type 0
Can g ext st o s w = (q : ℕ) → Fits st q → (m : List Item) × Derives g ext s q m × MeantAs (o ++ w) m

-- a way on: the items that are owed, the symbols that are left, and the state, if it is known
pub record Exit : Type 0 where
  pub owes : List Item
  pub left : List Symbol
  pub known : Option ℕ

abbrev pub to_any : List Symbol → Exit
to_any a = record { owes = []; left = a; known = None }

abbrev pub owing : List ℕ → List Symbol → Exit
owing o a = record { owes = marks_of o; left = a; known = None }

abbrev pub to_state : ℕ → Exit
to_state k = record { owes = []; left = []; known = Some k }

-- from these items and symbols, one of these ways on
pub record Claim : Type 0 where
  pub owes : List Item
  pub entry : List Symbol
  pub exits : List Exit

abbrev pub claim : List ℕ → List Symbol → List Exit → Claim
claim o a e = record { owes = marks_of o; entry = a; exits = e }

-- what is read from z to u leads from these to a way on
abbrev pub Leads : Grammar → Option ℕ → List Item → List Symbol → Exit → List Item → List Item → Type 0
Leads g st o a e u z = (ext : Extent) (s : List Symbol) → Can g ext e.known e.owes (e.left ++ s) u → Can g ext st o (a ++ s) z

abbrev pub LeadsOn : Grammar → List Exit → Option ℕ → List Item → List Symbol → List Item → List Item → Type 0
LeadsOn g [] st o a u z = ⊥
LeadsOn g (e ∷ es) st o a u z = Leads g st o a e u z ⊎ LeadsOn g es st o a u z

abbrev pub Holds : Grammar → List Claim → List Item → List Item → Type 0
Holds g [] u z = Unit {0}
Holds g (c ∷ cs) u z = LeadsOn g c.exits None c.owes c.entry u z × Holds g cs u z

-- a precision, a comma and a scale
abbrev pub two_numbers : ℕ → ℕ → List Item → List Item
two_numbers p d y = I.Token p ∷ I.Mark mark_of.number ∷ I.Token comma ∷ I.Token d ∷ I.Mark mark_of.number ∷ y

-- the same of parts
abbrev pub Parts : (ℕ → List Item → List Item → Type 0) → List Part → List Item → List Item → Type 0
Parts M [] u z = z ≡ u
Parts M (word c ∷ s) u z = (y : List Item) × (z ≡ I.Token c ∷ y) × Parts M s u y
Parts M (span a b ∷ s) u z = (c : ℕ) × (y : List Item) × (z ≡ I.Token c ∷ y) × (a ≤ c) × (c ≤ b) × Parts M s u y
Parts M (scaled ∷ s) u z = (p : ℕ) × (d : ℕ) × (y : List Item) × (z ≡ two_numbers p d y) × (number_1 ≤ p) × (p ≤ number_38) × (number_0 ≤ d) × (d ≤ p) × Parts M s u y
Parts M (mark k ∷ s) u z = (y : List Item) × (z ≡ I.Mark k ∷ y) × Parts M s u y
Parts M (rule n ∷ s) u z = (y : List Item) × M n y z × Parts M s u y

pub cut : (M : ℕ → List Item → List Item → Type 0) (a s : List Part) (u z : List Item) → Parts M (a ++ s) u z → (y : List Item) × Parts M a y z × Parts M s u y
cut M [] s u z h = (z, refl, h)
cut M (word c ∷ a) s u z h = let i = cut M a s u h.0 h.2 in (i.0, (h.0, h.1, i.1), i.2)
cut M (span b d ∷ a) s u z h = let i = cut M a s u h.1 h.5 in (i.0, (h.0, h.1, h.2, h.3, h.4, i.1), i.2)
cut M (scaled ∷ a) s u z h = let i = cut M a s u h.2 h.8 in (i.0, (h.0, h.1, h.2, h.3, h.4, h.5, h.6, h.7, i.1), i.2)
cut M (mark k ∷ a) s u z h = let i = cut M a s u h.0 h.2 in (i.0, (h.0, h.1, i.1), i.2)
cut M (rule n ∷ a) s u z h = let i = cut M a s u h.0 h.2 in (i.0, (h.0, h.1, i.1), i.2)

pub parted : (M : ℕ → List Item → List Item → Type 0) → ((p : ℕ) → p < length productions → (u z : List Item) → Parts M (production p).parts u z → M (production p).from u z)
    → {s : List Part} {w : List Item} → Writes whole s w → Parts M s [] w
parted M h ends = refl
parted M h (takes {w} d) = (w, refl, parted M h d)
parted M h (takes_one {c} {w} l k d) = (c, w, refl, l, k, parted M h d)
parted M h (takes_scaled {p} {d = i} {w} a b c e d) = (p, i, w, refl, a, b, c, e, parted M h d)
parted M h (builds {w} d) = (w, refl, parted M h d)
parted M h (goes_on {n} {s} {w} p l f d) =
    let c = cut M (production p).parts s [] w (parted M h d) in
    (c.0, subst (λ b. M b c.0 w) f (h p l c.0 w c.1), c.2)

-- ---- the test

pub data Run : Type 0 where
  finish : ℕ → Run  -- this way on is reached
  by : ℕ → Run → Run  -- the first symbol, a rule, gives way by this production
  take : Run → Run  -- the next part is a token or a step
  turn : ℕ → Run → Run  -- what is owed is a spot, of the first kind or the second, and is meant otherwise
  claimed : ℕ → Run → Run  -- the next part is a rule, of which this claim is used; what follows has a run for each way on
  both : Run → Run → Run
  no : Run

abbrev pub reached : List Exit → ℕ → List Item → List Symbol → Option ℕ → Bool
reached [] i o a st = false
reached (e ∷ es) zero o a st = (items_eq e.owes o && symbols_eq e.left a) && known_as e.known st
reached (e ∷ es) (suc i) o a st = reached es i o a st

abbrev pub claim_at : List Claim → ℕ → Option Claim
claim_at [] i = None
claim_at (c ∷ cs) zero = Some c
claim_at (c ∷ cs) (suc i) = claim_at cs i

-- where a run is: before these symbols, in a state, with these items owed; or where each of these ways on, and then the rest, has to be gone
pub data Spot : Type 0 where
  here : List Item → List Symbol → Option ℕ → Spot
  split : List Exit → List Symbol → Spot

abbrev pub on_here : Spot → (List Item → List Symbol → Option ℕ → Bool) → Bool
on_here (here o a st) f = f o a st
on_here (split es r) f = false

abbrev pub on_rule : List Symbol → (ℕ → List Symbol → Bool) → Bool
on_rule (S.Rule n ∷ r) f = f n r
on_rule _ f = false

abbrev pub on_take_keep : List Item → List Symbol → (ℕ → ℕ → List Symbol → Bool) → Bool
on_take_keep [] (S.TakeKeep b d ∷ r) f = f b d r
on_take_keep _ _ f = false

abbrev pub on_item : List Part → (Item → List Part → Bool) → (ℕ → ℕ → List Part → Bool) → Bool
on_item (word c ∷ ps) f k = f (I.Token c) ps
on_item (mark c ∷ ps) f k = f (I.Mark c) ps
on_item (span i j ∷ ps) f k = k i j ps
on_item _ f k = false

abbrev pub on_part : List Part → (ℕ → List Part → Bool) → Bool
on_part (rule m ∷ ps) f = f m ps
on_part _ f = false

abbrev pub is_none : List Part → Bool
is_none [] = true
is_none (x ∷ ps) = false

abbrev pub with_rest : List Exit → Option (List Symbol) → (Spot → Bool) → Bool
with_rest es None f = false
with_rest es (Some r) f = f (split es r)

abbrev pub with_claim : Option Claim → List Item → List Symbol → (Spot → Bool) → Bool
with_claim None o a f = false
with_claim (Some c) o a f = items_eq c.owes o && with_rest c.exits (stripped c.entry a) f

abbrev pub then : Exit → List Symbol → Exit
then e r = record { owes = e.owes; left = e.left ++ r; known = e.known }

abbrev pub on_split : Spot → (Exit → Bool) → (Spot → Bool) → Bool
on_split (split (e ∷ es) r) f k = f (then e r) && k (split es r)
on_split _ f k = false

abbrev pub all_split : Spot → Bool
all_split (split [] r) = true
all_split _ = false

abbrev pub if_so : Bool → Spot → Spot → Spot
if_so true x y = x
if_so false x y = y

-- where the table has written what it can of what is owed
abbrev pub settled : List Item → List Symbol → Option ℕ → Spot
settled o [] st = here o [] st
settled o (S.Keep k ∷ a) st = settled o a (Some k)
settled o (S.Turn n ∷ a) (Some q) = here o (S.Rule (n + turned q) ∷ a) (Some q)
settled o (S.Turn n ∷ a) None = here o (S.Turn n ∷ a) None
settled [] (S.Mark k ∷ a) st = here [] (S.Mark k ∷ a) st
settled (x ∷ o) (S.Mark k ∷ a) st = if_so (item_eq x (I.Mark k)) (settled o a st) (here (x ∷ o) (S.Mark k ∷ a) st)
settled [] (S.Take c ∷ a) st = here [] (S.Take c ∷ a) st
settled (x ∷ o) (S.Take c ∷ a) st = if_so (item_eq x (I.Token c)) (settled o a st) (here (x ∷ o) (S.Take c ∷ a) st)
settled o (S.TakeKeep b d ∷ a) st = here o (S.TakeKeep b d ∷ a) st
settled o (S.TakeUpTo b d ∷ a) st = here o (S.TakeUpTo b d ∷ a) st
settled o (S.Refuse b d ∷ a) st = here o (S.Refuse b d ∷ a) st
settled o (S.Rule n ∷ a) st = here o (S.Rule n ∷ a) st

module _ (g : Grammar) (claims : List (List Claim)) where
  abbrev pub of_rule : ℕ → List Claim
  of_rule n = get_or claims n []

  abbrev pub gives_way : ℕ → ℕ → Bool
  gives_way p n = (ltb 0 p && ltb p (length g.productions)) && eqb (rule_of g p) n

  abbrev pub runs : List Exit → Run → List Part → Spot → Bool
  runs es (finish i) ps at = on_here at (λ o a st. is_none ps && reached es i o a st)
  runs es (by p x) ps at = on_here at (λ o a st. on_rule a (λ n r. gives_way p n && runs es x ps (settled o (right g p ++ r) st)))
  runs es (take x) ps at = on_here at (λ o a st. on_item ps
      (λ y ps'. runs es x ps' (settled (o ++ y ∷ []) a st))
      (λ i j ps'. on_take_keep o a (λ b d r. (leb b i && leb j d) && runs es x ps' (settled [] r None))))
  runs es (turn i x) ps at = on_here at (λ o a st. items_eq o (old i) && runs es x ps (settled (new i) a st))
  runs es (claimed k x) ps at = on_here at (λ o a st. on_part ps (λ m ps'. with_claim (claim_at (of_rule m) k) o a (λ at'. runs es x ps' at')))
  runs es (both x y) ps at = on_split at (λ e. runs es x ps (settled e.owes e.left e.known)) (λ at'. runs es y ps at')
  runs es no ps at = all_split at

-- ---- what it shows

module _ (g : Grammar) where
  abbrev pub CanAt : Extent → Spot → List Symbol → List Item → Type 0
  CanAt ext (here o a st) s z = Can g ext st o (a ++ s) z
  CanAt ext (split es r) s z = ⊥

  pub settles : (ext : Extent) (o : List Item) (b s : List Symbol) (st : Option ℕ) (z : List Item) → CanAt ext (settled o b st) s z → Can g ext st o (b ++ s) z
  settles ext o [] s st z h = h
  settles ext o (S.Keep k ∷ b) s st z h = λ q f. let r = settles ext o b s (Some k) z h k refl in (r.0, D.keep r.1, r.2)
  settles ext o (S.Turn n ∷ b) s None z h = h
  settles ext o (S.Turn n ∷ b) s (Some i) z h = λ q f.
      let r = h q f in (r.0, D.turn (subst (λ k. Derives g ext (S.Rule (n + turned k) ∷ (b ++ s)) q r.0) f r.1), r.2)
  settles ext [] (S.Mark k ∷ b) s st z h = h
  settles ext (x ∷ o) (S.Mark k ∷ b) s st z h =
      (elim (item_eq x (I.Mark k)) as (λ t. item_eq x (I.Mark k) ≡ t → CanAt ext (if_so t (settled o b st) (here (x ∷ o) (S.Mark k ∷ b) st)) s z → Can g ext st (x ∷ o) (S.Mark k ∷ (b ++ s)) z) [
        | true ↦ λ e i q f. let r = settles ext o b s st z i q f in
            (I.Mark k ∷ r.0, D.mark r.1, subst (λ y. MeantAs (y ∷ (o ++ z)) (I.Mark k ∷ r.0)) (sym (item_same x (I.Mark k) (subst T (sym e) tt))) (same r.2))
        | false ↦ λ e i. i
      ]) refl h
  settles ext [] (S.Take c ∷ b) s st z h = h
  settles ext (x ∷ o) (S.Take c ∷ b) s st z h =
      (elim (item_eq x (I.Token c)) as (λ t. item_eq x (I.Token c) ≡ t → CanAt ext (if_so t (settled o b st) (here (x ∷ o) (S.Take c ∷ b) st)) s z → Can g ext st (x ∷ o) (S.Take c ∷ (b ++ s)) z) [
        | true ↦ λ e i q f. let r = settles ext o b s st z i q f in
            (I.Token c ∷ r.0, D.take r.1, subst (λ y. MeantAs (y ∷ (o ++ z)) (I.Token c ∷ r.0)) (sym (item_same x (I.Token c) (subst T (sym e) tt))) (same r.2))
        | false ↦ λ e i. i
      ]) refl h
  settles ext o (S.TakeKeep c d ∷ b) s st z h = h
  settles ext o (S.TakeUpTo c d ∷ b) s st z h = h
  settles ext o (S.Refuse c d ∷ b) s st z h = h
  settles ext o (S.Rule n ∷ b) s st z h = h

  pub before : (es : List Exit) (st st' : Option ℕ) (o o' : List Item) (a b : List Symbol) (u y z : List Item)
      → ((ext : Extent) (s : List Symbol) → Can g ext st' o' (b ++ s) y → Can g ext st o (a ++ s) z)
      → LeadsOn g es st' o' b u y → LeadsOn g es st o a u z
  before [] st st' o o' a b u y z h l = l
  before (e ∷ es) st st' o o' a b u y z h (inl l) = inl (λ ext s c. h ext s (l ext s c))
  before (e ∷ es) st st' o o' a b u y z h (inr l) = inr (before es st st' o o' a b u y z h l)

  abbrev pub IsHere : Spot → Type 0
  IsHere x = (o : List Item) × (b : List Symbol) × (st : Option ℕ) × (x ≡ here o b st)

  either_here : (t : Bool) (x : Spot) → IsHere x → (o : List Item) (b : List Symbol) (st : Option ℕ) → IsHere (if_so t x (here o b st))
  either_here true x h o b st = h
  either_here false x h o b st = (o, b, st, refl)

  pub settled_here : (o : List Item) (b : List Symbol) (st : Option ℕ) → IsHere (settled o b st)
  settled_here o [] st = (o, [], st, refl)
  settled_here o (S.Keep k ∷ b) st = settled_here o b (Some k)
  settled_here o (S.Turn n ∷ b) None = (_, _, _, refl)
  settled_here o (S.Turn n ∷ b) (Some i) = (_, _, _, refl)
  settled_here [] (S.Mark k ∷ b) st = (_, _, _, refl)
  settled_here (x ∷ o) (S.Mark k ∷ b) st =
      either_here (item_eq x (I.Mark k)) (settled o b st) (settled_here o b st) (x ∷ o) (S.Mark k ∷ b) st
  settled_here [] (S.Take c ∷ b) st = (_, _, _, refl)
  settled_here (x ∷ o) (S.Take c ∷ b) st =
      either_here (item_eq x (I.Token c)) (settled o b st) (settled_here o b st) (x ∷ o) (S.Take c ∷ b) st
  settled_here o (S.TakeKeep c d ∷ b) st = (_, _, _, refl)
  settled_here o (S.TakeUpTo c d ∷ b) st = (_, _, _, refl)
  settled_here o (S.Refuse c d ∷ b) st = (_, _, _, refl)
  settled_here o (S.Rule n ∷ b) st = (_, _, _, refl)

  pub by_rule : (ext : Extent) (p n : ℕ) (st : Option ℕ) (o : List Item) (s : List Symbol) (z : List Item) → 0 < p → p < length g.productions → rule_of g p ≡ n
      → Can g ext st o (right g p ++ s) z → Can g ext st o (S.Rule n ∷ s) z
  by_rule ext p n st o s z l k e h = λ q f. let r = h q f in (r.0, D.rule p l k e r.1, r.2)

  -- what is read next is owed
  pub by_item : (ext : Extent) (x : Item) (st : Option ℕ) (o : List Item) (s : List Symbol) (y z : List Item) → z ≡ x ∷ y → Can g ext st (o ++ x ∷ []) s y → Can g ext st o s z
  by_item ext x st o s y z e h = λ q f. let r = h q f in
      (r.0, r.1, subst (λ b. MeantAs (o ++ b) r.0) (sym e) (subst (λ b. MeantAs b r.0) (append_assoc o (x ∷ []) y) r.2))

  pub by_take_keep : (ext : Extent) (b d c : ℕ) (st : Option ℕ) (s : List Symbol) (y z : List Item) → b ≤ c → c ≤ d → z ≡ I.Token c ∷ y → Can g ext None [] s y → Can g ext st [] (S.TakeKeep b d ∷ s) z
  by_take_keep ext b d c st s y z l k e h = λ q f. let r = h c tt in (I.Token c ∷ r.0, D.take_keep l k r.1, subst (λ b. MeantAs b (I.Token c ∷ r.0)) (sym e) (same r.2))

  pub by_turn : (ext : Extent) (i : ℕ) (st : Option ℕ) (o : List Item) (s : List Symbol) (z : List Item) → o ≡ old i → Can g ext st (new i) s z → Can g ext st o s z
  by_turn ext i st o s z e h = λ q f. let r = h q f in (r.0, r.1, subst (λ b. MeantAs (b ++ z) r.0) (sym e) (exchanged i z r.0 r.2))

  pub in_any : (ext : Extent) (st : Option ℕ) (o : List Item) (s : List Symbol) (z : List Item) → Can g ext None o s z → Can g ext st o s z
  in_any ext st o s z h = λ q f. h q tt

pub rule_at : (a : List Symbol) (f : ℕ → List Symbol → Bool) → T (on_rule a f) → (n : ℕ) × (r : List Symbol) × (a ≡ S.Rule n ∷ r) × T (f n r)
rule_at [] f h = absurd h
rule_at (S.Rule n ∷ r) f h = (n, r, refl, h)
rule_at (S.Take _ ∷ r) f h = absurd h
rule_at (S.TakeKeep _ _ ∷ r) f h = absurd h
rule_at (S.TakeUpTo _ _ ∷ r) f h = absurd h
rule_at (S.Refuse _ _ ∷ r) f h = absurd h
rule_at (S.Turn _ ∷ r) f h = absurd h
rule_at (S.Mark _ ∷ r) f h = absurd h
rule_at (S.Keep _ ∷ r) f h = absurd h

pub take_keep_at : (o : List Item) (a : List Symbol) (f : ℕ → ℕ → List Symbol → Bool) → T (on_take_keep o a f)
    → (b : ℕ) × (d : ℕ) × (r : List Symbol) × (a ≡ S.TakeKeep b d ∷ r) × (o ≡ []) × T (f b d r)
take_keep_at (x ∷ o) a f h = absurd h
take_keep_at [] [] f h = absurd h
take_keep_at [] (S.TakeKeep b d ∷ r) f h = (b, d, r, refl, refl, h)
take_keep_at [] (S.Rule _ ∷ r) f h = absurd h
take_keep_at [] (S.Take _ ∷ r) f h = absurd h
take_keep_at [] (S.TakeUpTo _ _ ∷ r) f h = absurd h
take_keep_at [] (S.Refuse _ _ ∷ r) f h = absurd h
take_keep_at [] (S.Turn _ ∷ r) f h = absurd h
take_keep_at [] (S.Mark _ ∷ r) f h = absurd h
take_keep_at [] (S.Keep _ ∷ r) f h = absurd h

pub claim_of : (k : Option Claim) (o : List Item) (a : List Symbol) (f : Spot → Bool) → T (with_claim k o a f)
    → (c : Claim) × (r : List Symbol) × (k ≡ Some c) × (o ≡ c.owes) × (a ≡ c.entry ++ r) × T (f (split c.exits r))
claim_of None o a f h = absurd h
claim_of (Some c) o a f h =
    let owed = sym (items_same c.owes o (and_left (items_eq c.owes o) (with_rest c.exits (stripped c.entry a) f) h)) in
    (elim (stripped c.entry a) as (λ k. stripped c.entry a ≡ k → T (with_rest c.exits k f) → (d : Claim) × (r : List Symbol) × (Some c ≡ Some d) × (o ≡ d.owes) × (a ≡ d.entry ++ r) × T (f (split d.exits r)))
    [ None ↦ λ e k. absurd k | Some r ↦ λ e k. (c, r, refl, owed, stripped_same c.entry a r e, k) ]) refl (and_right (items_eq c.owes o) (with_rest c.exits (stripped c.entry a) f) h)

module _ (g : Grammar) where
  pub claim_holds : (cs : List Claim) (k : ℕ) (c : Claim) (u z : List Item) → claim_at cs k ≡ Some c → Holds g cs u z → LeadsOn g c.exits None c.owes c.entry u z
  claim_holds [] k c u z e h = cc
  claim_holds (d ∷ cs) zero c u z e h = let same : d ≡ c = cc in subst (λ b. LeadsOn g b.exits None b.owes b.entry u z) same h.0
  claim_holds (d ∷ cs) (suc k) c u z e h = claim_holds cs k c u z e h.1

  reaches : (es : List Exit) (i : ℕ) (o : List Item) (a : List Symbol) (st : Option ℕ) (u z : List Item) → T (reached es i o a st) → z ≡ u → LeadsOn g es st o a u z
  reaches [] i o a st u z h e = absurd h
  reaches (x ∷ es) zero o a st u z h e =
      let front = items_eq x.owes o && symbols_eq x.left a in
      let owed = items_same x.owes o (and_left (items_eq x.owes o) (symbols_eq x.left a) (and_left front (known_as x.known st) h)) in
      let left = symbols_same x.left a (and_right (items_eq x.owes o) (symbols_eq x.left a) (and_left front (known_as x.known st) h)) in
      let fit = and_right front (known_as x.known st) h in
      inl (λ ext s c q f.
      let r = c q (known x.known st q q fit f refl) in
      (r.0, subst (λ b. Derives g ext (b ++ s) q r.0) left r.1, subst (λ b. MeantAs (b ++ z) r.0) owed (subst (λ b. MeantAs (x.owes ++ b) r.0) (sym e) r.2)))
  reaches (x ∷ es) (suc i) o a st u z h e = inr (reaches es i o a st u z h e)

module _ (g : Grammar) (claims : List (List Claim)) where
  abbrev pub M : ℕ → List Item → List Item → Type 0
  M n u z = Holds g (of_rule g claims n) u z

  abbrev pub Shows : List Exit → List Part → Spot → List Item → Type 0
  Shows es ps (here o a st) u = (z : List Item) → Parts M ps u z → LeadsOn g es st o a u z
  Shows es ps (split xs r) u = (o : List Item) (c : List Symbol) (y z : List Item) → LeadsOn g xs None o c y z → Parts M ps u y → (st : Option ℕ) → LeadsOn g es st o (c ++ r) u z

  pub unsettled : (es : List Exit) (ps : List Part) (o : List Item) (b : List Symbol) (st : Option ℕ) (u : List Item) → Shows es ps (settled o b st) u
      → (z : List Item) → Parts M ps u z → LeadsOn g es st o b u z
  unsettled es ps o b st u h z m =
      let i = settled_here g o b st in
      before g es st i.2 o i.0 b i.1 u z z (λ ext s c. settles g ext o b s st z (subst (λ y. CanAt g ext y s z) (sym i.3) c))
      ((subst (λ y. Shows es ps y u) i.3 h) z m)

  pub shown : (x : Run) (es : List Exit) (ps : List Part) (at : Spot) (u : List Item) → T (runs g claims es x ps at) → Shows es ps at u
  shown (finish i) es [] (here o a st) u h = λ z m. reaches g es i o a st u z h m
  shown (finish i) es (p ∷ ps) (here o a st) u h = absurd h
  shown (finish i) es ps (split xs r) u h = absurd h
  shown (by p x) es ps (split xs r) u h = absurd h
  shown (by p x) es ps (here o a st) u h = λ z m.
      let i = rule_at a (λ n r. gives_way g claims p n && runs g claims es x ps (settled o (right g p ++ r) st)) h in
      let n = i.0 in let r = i.1 in
      let way = and_left (gives_way g claims p n) (runs g claims es x ps (settled o (right g p ++ r) st)) i.3 in
      let on = and_right (gives_way g claims p n) (runs g claims es x ps (settled o (right g p ++ r) st)) i.3 in
      let both_in = and_left (ltb 0 p && ltb p (length g.productions)) (eqb (rule_of g p) n) way in
      let b = right g p ++ r in
      subst (λ k. LeadsOn g es st o k u z) (sym i.2)
      (before g es st st o o (S.Rule n ∷ r) b u z z
      (λ ext s c. by_rule g ext p n st o (r ++ s) z (ltb_yes (and_left (ltb 0 p) (ltb p (length g.productions)) both_in)) (ltb_yes (and_right (ltb 0 p) (ltb p (length g.productions)) both_in))
      (eqb_yes (and_right (ltb 0 p && ltb p (length g.productions)) (eqb (rule_of g p) n) way))
      (subst (λ k. Can g ext st o k z) (append_assoc (right g p) r s) c))
      (unsettled es ps o b st u (shown x es ps (settled o b st) u on) z m))
  shown (take x) es ps (split xs r) u h = absurd h
  shown (take x) es [] (here o a st) u h = absurd h
  shown (take x) es (word c ∷ ps) (here o a st) u h = λ z m.
      let w = o ++ I.Token c ∷ [] in
      before g es st st o w a a u m.0 z (λ ext s k. by_item g ext (I.Token c) st o (a ++ s) m.0 z m.1 k)
      (unsettled es ps w a st u (shown x es ps (settled w a st) u h) m.0 m.2)
  shown (take x) es (mark c ∷ ps) (here o a st) u h = λ z m.
      let w = o ++ I.Mark c ∷ [] in
      before g es st st o w a a u m.0 z (λ ext s k. by_item g ext (I.Mark c) st o (a ++ s) m.0 z m.1 k)
      (unsettled es ps w a st u (shown x es ps (settled w a st) u h) m.0 m.2)
  shown (take x) es (span lo hi ∷ ps) (here o a st) u h = λ z m.
      let i = take_keep_at o a (λ b d r. (leb b lo && leb hi d) && runs g claims es x ps (settled [] r None)) h in
      let b = i.0 in let d = i.1 in let r = i.2 in
      let range = and_left (leb b lo && leb hi d) (runs g claims es x ps (settled [] r None)) i.5 in
      let on = and_right (leb b lo && leb hi d) (runs g claims es x ps (settled [] r None)) i.5 in
      let low : b ≤ lo = leb_yes (and_left (leb b lo) (leb hi d) range) in
      let high : hi ≤ d = leb_yes (and_right (leb b lo) (leb hi d) range) in
      let from : b ≤ m.0 = omega (arith, low, m.3) in let to : m.0 ≤ d = omega (arith, high, m.4) in
      subst (λ k. LeadsOn g es st k a u z) (sym i.4)
      (subst (λ k. LeadsOn g es st [] k u z) (sym i.3)
      (before g es st None [] [] (S.TakeKeep b d ∷ r) r u m.1 z
      (λ ext s k. by_take_keep g ext b d m.0 st (r ++ s) m.1 z from to m.2 k)
      (unsettled es ps [] r None u (shown x es ps (settled [] r None) u on) m.1 m.5)))
  shown (take x) es (scaled ∷ ps) (here o a st) u h = absurd h
  shown (take x) es (rule m ∷ ps) (here o a st) u h = absurd h
  shown (turn i x) es ps (split xs r) u h = absurd h
  shown (turn i x) es ps (here o a st) u h = λ z m.
      let is = items_same o (old i) (and_left (items_eq o (old i)) (runs g claims es x ps (settled (new i) a st)) h) in
      let on = and_right (items_eq o (old i)) (runs g claims es x ps (settled (new i) a st)) h in
      before g es st st o (new i) a a u z z (λ ext s k. by_turn g ext i st o (a ++ s) z is k)
      (unsettled es ps (new i) a st u (shown x es ps (settled (new i) a st) u on) z m)
  shown (claimed k x) es ps (split xs r) u h = absurd h
  shown (claimed k x) es [] (here o a st) u h = absurd h
  shown (claimed k x) es (word c ∷ ps) (here o a st) u h = absurd h
  shown (claimed k x) es (span i j ∷ ps) (here o a st) u h = absurd h
  shown (claimed k x) es (scaled ∷ ps) (here o a st) u h = absurd h
  shown (claimed k x) es (mark i ∷ ps) (here o a st) u h = absurd h
  shown (claimed k x) es (rule n ∷ ps) (here o a st) u h = λ z m.
      let i = claim_of (claim_at (of_rule g claims n) k) o a (λ at. runs g claims es x ps at) h in
      let c = i.0 in
      subst (λ b. LeadsOn g es st b a u z) (sym i.3)
      (subst (λ b. LeadsOn g es st c.owes b u z) (sym i.4)
      (shown x es ps (split c.exits i.1) u i.5 c.owes c.entry m.0 z (claim_holds g (of_rule g claims n) k c m.0 z i.2 m.1) m.2 st))
  shown (both x y) es ps (here o a st) u h = absurd h
  shown (both x y) es ps (split [] r) u h = absurd h
  shown (both x y) es ps (split (e ∷ xs) r) u h = λ o c w z l m st.
      let first = runs g claims es x ps (settled e.owes (e.left ++ r) e.known) in
      let later = runs g claims es y ps (split xs r) in
      elim l [
        | inl l ↦ before g es st e.known o e.owes (c ++ r) (e.left ++ r) u w z
            (λ ext s k. in_any g ext st o ((c ++ r) ++ s) z (subst (λ b. Can g ext None o b z) (sym (append_assoc c r s))
            (l ext (r ++ s) (subst (λ b. Can g ext e.known e.owes b w) (append_assoc e.left r s) k))))
            (unsettled es ps e.owes (e.left ++ r) e.known u (shown x es ps (settled e.owes (e.left ++ r) e.known) u (and_left first later h)) w m)
        | inr l ↦ shown y es ps (split xs r) u (and_right first later h) o c w z l m st
      ]
  shown no es ps (here o a st) u h = absurd h
  shown no es ps (split [] r) u h = λ o c y z l. absurd l
  shown no es ps (split (e ∷ xs) r) u h = absurd h
