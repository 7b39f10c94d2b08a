-- What statements of a session read.
use Rattle.std.proofs.Common.{◌≡◌, inl, inr, ◌∷◌, [], ℕ, ◌==◌, Bool, true, false, List, length, take, refl, sym, ap, ◌∙◌, subst, arith}
use Rattle.std.specs.Prelude.{Option, None, Some, option_map, is_some, if◌then◌else◌}
use Rattle.std.proofs.lemmas.List.{take_all}
use Rattle.hs_base.specs.declared.numbers.CommitNo.{CommitNo}
use Rattle.hs_claims.specs.declared.model.ControlKind.{ControlKind}
use Rattle.hs_claims.specs.Wants.{reads_start_of}
use Rattle.hs_sessions.specs.declared.session.Transaction.{Transaction}
use Rattle.hs_turns.specs.Histories.{Commit, Open, own}
use Rattle.hs_turns.proofs.Opened.{has}
use Rattle.hs_holding.specs.declared.seat.Own.{Own}
use Rattle.hs_holding.specs.Held.{IsNumber, seat_of}
use Rattle.hs_holding.specs.Seats.{is_open_seat, own_in, start_in}
use Rattle.hs_seams.specs.World.{World}
use Rattle.hs_snapshots.specs.Places.{IsPlace, has_start}
use Rattle.hs_tied.specs.Holds.{IsOwn}
use Rattle.hs_tied.specs.Kept.{Kept, fresh_for, own_for, set_in}
use Rattle.hs_tied.proofs.Lists.{own_none}
use Rattle.hs_tied.proofs.Moving.{known_here, own_is, own_kept, own_mine}
use Rattle.hs_moves.specs.Fits.{IsHere, Rests}
use Rattle.hs_moves.specs.Parts.{Parts}
use Rattle.hs_moves.specs.Spanned.{IsLent, is_live, read_by}
use Rattle.hs_moves.proofs.Seating.{number_of}
use Rattle.hs_moves.proofs.Spanned.{own_lent}
use Rattle.hs_transactions.specs.Standing.{IsPlaced}

-- what is the same of two new ones is the same of the session's
own_any : {A : Type 0} (f : Open → A) (s : ℕ) (new new' : Open) → f new ≡ f new' → (xs : List Open) → f (own s new xs) ≡ f (own s new' xs)
own_any f s new new' e [] = e
own_any f s new new' e (x ∷ xs) = by (x.session == s) (own_any f s new new' e xs)
  where
    by : (t : Bool) → f (own s new xs) ≡ f (own s new' xs) → f (if t then x else own s new xs) ≡ f (if t then x else own s new' xs)
    by true h = refl
    by false h = h

start_shut : (x : Option Transaction) → is_some x ≡ false → option_map (λ now. now.start) x ≡ None
start_shut None e = refl
start_shut (Some now) e = absurd cc

number_in : Option CommitNo → ℕ
number_in None = 0
number_in (Some start) = start.0

-- what is read behind all commits
whole : (b : Bool) (n : ℕ) (commits : List Commit) → n ≡ length commits → (if b then take n commits else commits) ≡ commits
whole true n commits e = take_all n commits (omega (arith, e))
whole false n commits e = refl

module _ {S : Type 0} (t : Parts S) (w : World) (k : Kept) (rests : Rests t w k) (s : ℕ) (here : IsHere t s) where
  number : IsNumber (length k.settings) s
  number = number_of t k s rests.holds here

  abbrev auto : Bool
  auto = (set_in k.settings s).autocommit

  -- its transaction, or the one that a data statement would begin
  abbrev pub its : Open
  its = own_for s auto k

  abbrev was : Option CommitNo
  was = start_in (seat_of t.holding s)

  its_own : IsOwn k.kind (seat_of t.holding s) its
  its_own = own_is t.holding t.holding k rests.holds s number auto (record { 0 = length k.commits }) refl

  pub its_lent : IsLent t.spans.live k.kind (length k.commits) its
  its_lent = own_lent t.spans w.run.made k.kind k.commits k.open_ rests.spanned s (fresh_for s auto k) refl

  abbrev reads : Bool
  reads = reads_start_of t.spans.kind (own_in t.spans.kind (seat_of t.holding s)).level (own_in t.spans.kind (seat_of t.holding s)).read_only

  reads_is : reads ≡ reads_start_of k.kind its.level its.read_only
  reads_is = ap (λ (kind : ControlKind). reads_start_of kind (own_in kind (seat_of t.holding s)).level (own_in kind (seat_of t.holding s)).read_only) rests.spanned.kind_is ∙ ap (λ (x : Own). reads_start_of k.kind x.level x.read_only) its_own.own

  any_auto : (a : Bool) → read_by k.kind k.commits its ≡ read_by k.kind k.commits (own_for s a k)
  any_auto a = own_any (read_by k.kind k.commits) s (fresh_for s auto k) (fresh_for s a k) refl k.open_

  -- ---- its start

  has_is : has s k.open_ ≡ is_open_seat (seat_of t.holding s)
  has_is = known_here t.holding t.holding k rests.holds s number auto (record { 0 = length k.commits })

  kept_start : has s k.open_ ≡ true → was ≡ Some (record { 0 = its.start })
  kept_start e =
      let kept = own_kept t.holding t.holding k rests.holds s number auto (record { 0 = length k.commits }) e in
      subst (λ (x : ℕ). start_in (seat_of t.holding x) ≡ Some (record { 0 = its.start })) (own_mine t.holding t.holding k rests.holds s number auto (record { 0 = length k.commits })) kept.start

  none_start : has s k.open_ ≡ false → was ≡ None
  none_start e = start_shut (seat_of t.holding s).session.transaction (sym has_is ∙ e)

  -- it has none: the transaction would begin now
  pub start_now : was ≡ None → its.start ≡ length k.commits
  start_now none = by (has s k.open_) refl
    where
      by : (b : Bool) → has s k.open_ ≡ b → its.start ≡ length k.commits
      by true e = absurd (let clash : Some (record { 0 = its.start }) ≡ None = sym (kept_start e) ∙ none in cc)
      by false e = ap (λ (o : Open). o.start) (own_none s (fresh_for s auto k) k.open_ e)

  pub start_then : (n : CommitNo) → was ≡ Some n → its.start ≡ n.0
  unfolding number_in
  start_then n is = by (has s k.open_) refl
    where
      by : (b : Bool) → has s k.open_ ≡ b → its.start ≡ n.0
      by true e = ap number_in (sym (kept_start e) ∙ is)
      by false e = absurd (let clash : None ≡ Some n = sym (none_start e) ∙ is in cc)

  -- ---- the present

  at_present : k.commits ≡ read_by k.kind k.commits its → IsPlaced None s k
  at_present e a = e ∙ any_auto a

  pub placed_present : reads ≡ false → IsPlaced None s k
  placed_present none = at_present (sym (ap (λ (b : Bool). if b then take its.start k.commits else k.commits) (sym reads_is ∙ none)))

  pub placed_new : was ≡ None → IsPlaced None s k
  placed_new none = at_present (sym (whole (reads_start_of k.kind its.level its.read_only) its.start k.commits (start_now none)))

  -- no commit came since
  pub placed_late : (n : CommitNo) → reads ≡ true → was ≡ Some n → has_start n.0 t.spans.live ≡ false → IsPlaced None s k
  placed_late n reads_it is none = at_present (elim (its_lent.lent (sym reads_is ∙ reads_it)) [
    | inl at ↦ sym (whole (reads_start_of k.kind its.level its.read_only) its.start k.commits at)
    | inr live ↦ absurd (let clash : false ≡ true = sym none ∙ ap (λ (x : ℕ). is_live x t.spans.live) (sym (start_then n is)) ∙ live in cc)
  ])

  -- ---- a snapshot

  pub placed_at : (n : CommitNo) → reads ≡ true → was ≡ Some n → IsPlaced (Some n.0) s k
  placed_at n reads_it is a = ap (λ (x : ℕ). take x k.commits) (sym (start_then n is))
      ∙ sym (ap (λ (b : Bool). if b then take its.start k.commits else k.commits) (sym reads_is ∙ reads_it)) ∙ any_auto a

  pub placed_then : (n : CommitNo) → reads ≡ true → was ≡ Some n → IsPlaced (if has_start n.0 t.spans.live then Some n.0 else None) s k
  placed_then n reads_it is = by (has_start n.0 t.spans.live) refl
    where
      by : (b : Bool) → has_start n.0 t.spans.live ≡ b → IsPlaced (if b then Some n.0 else None) s k
      by true e = placed_at n reads_it is
      by false e = placed_late n reads_it is e

-- there is such a place
pub is_place : (n : ℕ) (starts : List ℕ) → IsPlace (if has_start n starts then Some n else None) starts
is_place n starts = by (has_start n starts) refl
  where
    by : (b : Bool) → has_start n starts ≡ b → IsPlace (if b then Some n else None) starts
    by true e = e
    by false e = tt
