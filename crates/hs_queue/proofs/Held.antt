-- Lists of what holds entries, against lists of entries.
use Rattle.std.proofs.Common.{◌≡◌, ℕ, ◌<◌, ◌≤◌, Bool, true, false, List, [], ◌∷◌, ◌++◌, length, map, get_or, refl, sym, ap, ◌∙◌, subst, arith}
use Rattle.std.specs.Prelude.{Option, None, Some, IfSome, IfNone, IsSome, slice_set, option_to_list}
use Rattle.std.proofs.lemmas.List.{get_or-map, length-map, map-set}
use Rattle.std.proofs.Math.ListN.{length-set}
use Rattle.std.proofs.Math.Seq.{map-set_same}
use Rattle.hs_turns.specs.Each.{Each}
use Rattle.hs_queue.specs.Entries.{queued_of}
use Rattle.hs_queue.specs.Lanes.{Queued, backlog}
use Rattle.hs_queue.specs.declared.lanes.Ticketed.{Ticketed}
use Rattle.hs_queue.proofs.Lists.{each_put}

-- ---- options

pub none_of : {X : Type 0} (r : Option X) (P : Type 0) → (r ≡ None → P) → IfNone r P
none_of None P h = h refl
none_of (Some x) P h = tt

pub some_of : {X : Type 0} (r : Option X) (P : X → Type 0) → ((x : X) → r ≡ Some x → P x) → IfSome r P
some_of None P h = tt
some_of (Some x) P h = h x refl

no_some : (r : Option Ticketed) → r ≡ None → IsSome r → ⊥
no_some None is some = let h : ◌≡◌ {A = Bool} false true = some in absurd cc
no_some (Some x) is some = absurd cc

pub empty_by : (items : List Ticketed) (len : ℕ) (r : Option Ticketed) → len ≡ length items → (0 < len → IsSome r) → r ≡ None → items ≡ []
empty_by [] len r e some is = refl
empty_by (x ∷ xs) len r e some is = absurd (no_some r is (some (omega (arith, e))))

-- what is taken from the front
pub some_front : (x : Ticketed) (old new : List Ticketed) (r : Option Ticketed) → old ≡ option_to_list r ++ new → r ≡ Some x → map queued_of old ≡ queued_of x ∷ map queued_of new
some_front x old new r is e = ap (map queued_of) (is ∙ ap (λ (r : Option Ticketed). option_to_list r ++ new) e)

pub rest_each : (P : Queued → Type 0) (r : Option Ticketed) (old new : List Ticketed) → old ≡ option_to_list r ++ new → Each P (map queued_of old) → Each P (map queued_of new)
rest_each P None old new is all = subst (λ (l : List Ticketed). Each P (map queued_of l)) is all
rest_each P (Some x) old new is all = let h : Each P (map queued_of (x ∷ new)) = subst (λ (l : List Ticketed). Each P (map queued_of l)) is all in h.1

module _ {X : Type 0} (f : X → List Queued) (lists : List X) (seen : List (List Queued)) (is : map f lists ≡ seen) (at : ℕ) (lt : at < length seen) where
  within : at < length lists
  within = omega (arith, length-map lists f, ap (λ (l : List (List Queued)). length l) is, lt)

  -- the list at a place
  pub at_place : (x : X) → x ≡ get_or lists at x → backlog seen at ≡ f x
  at_place x e = ap (λ (l : List (List Queued)). backlog l at) (sym is) ∙ get_or-map f lists at x [] within ∙ ap f (sym e)

  -- another is put there
  pub put : (x : X) → map f (slice_set lists at x) ≡ slice_set seen at (f x)
  put x = map-set f lists at x ∙ ap (λ (l : List (List Queued)). slice_set l at (f x)) is

  pub put_same : (x y : X) → x ≡ get_or lists at x → f y ≡ f x → map f (slice_set lists at y) ≡ seen
  put_same x y e same = map-set_same f lists at y x (same ∙ ap f e) ∙ is

  pub each_at : (P : ℕ → Queued → Type 0) (x : X) → ((place : ℕ) → Each (P place) (backlog (map f lists) place)) → Each (P at) (f x) → (place : ℕ) → Each (P place) (backlog (map f (slice_set lists at x)) place)
  each_at P x all of place =
      subst (λ (l : List (List Queued)). Each (P place) (backlog l place)) (sym (map-set f lists at x))
      (each_put P (map f lists) at (f x) (omega (arith, length-map lists f, within)) all of place)

  pub of_place : (P : ℕ → Queued → Type 0) (x : X) → x ≡ get_or lists at x → ((place : ℕ) → Each (P place) (backlog (map f lists) place)) → Each (P at) (f x)
  of_place P x e all = subst (λ (l : List Queued). Each (P at) l) (ap (λ (l : List (List Queued)). backlog l at) is ∙ at_place x e) (all at)

  pub few_at : (x : X) → length lists ≤ 64 → length (slice_set lists at x) ≤ 64
  few_at x few = omega (arith, length-set lists at x, few)
