-- What is kept for transactions that read their start, and for those that may conflict.
use Rattle.std.proofs.Common.{◌≡◌, inl, inr, ℕ, ◌+◌, ◌-◌, ◌≤◌, ◌==◌, ◌||◌, not, Bool, true, false, cond, List, [], ◌∷◌, ◌++◌, length, drop, filter, refl, sym, ap, ◌∙◌, subst, arith, eq-eqb, eqb-true}
use Rattle.std.specs.Prelude.{Option, None, Some}
use Rattle.std.specs.List.{list_any}
use Rattle.std.proofs.lemmas.List.{length-drop}
use Rattle.std.proofs.lemmas.List.Folds.{list_any-append}
use Rattle.hs_base.specs.declared.numbers.CommitNo.{CommitNo}
use Rattle.hs_claims.specs.declared.claim.Claim.{Claim}
use Rattle.hs_claims.specs.declared.model.ControlKind.{ControlKind}
use Rattle.hs_claims.specs.Session.{IsSession}
use Rattle.hs_claims.specs.Wants.{reads_start_of}
use Rattle.hs_plan.specs.declared.change.Change.{Change}
use Rattle.hs_turns.specs.Each.{Each}
use Rattle.hs_turns.specs.Histories.{Commit, Open, others}
use Rattle.hs_turns.proofs.Lists.{each_both, each_filter, each_map}
use Rattle.hs_holding.specs.declared.holding.Holding.{Holding}
use Rattle.hs_holding.specs.Held.{seat_of}
use Rattle.hs_holding.specs.Seats.{reads_from}
use Rattle.hs_holding.specs.Starts.{IsLeastStart, IsReadFrom}
use Rattle.hs_seams.specs.World.{World}
use Rattle.hs_snapshots.specs.Places.{has_start}
use Rattle.hs_conflicts.specs.Conflicts.{AreTied}
use Rattle.hs_tied.specs.Kept.{Kept}
use Rattle.hs_tied.specs.Holds.{Holds, IsKept}
use Rattle.hs_tied.specs.Starts.{IsUnread}
use Rattle.hs_tied.proofs.Starts.{all_unread, claimers_of, claimers_since, claimers_within, others_unread}
use Rattle.hs_moves.specs.Fits.{Fits, Rests, changes_of}
use Rattle.hs_moves.specs.Parts.{Parts, Spans}
use Rattle.hs_moves.specs.Spanned.{IsLent, IsSince, IsSpanned, is_live, may_conflict}
use Rattle.hs_moves.proofs.Spanned.{spanned_cleared, spanned_dropped, spanned_released}
use Rattle.hs_transactions.specs.Settled.{AreKept, IsKeptFor}

-- ---- what is kept is other, and all else is the same

pub spans_fits : {S : Type 0} (At : S → World → List Commit → List Change → Type 0) (old new : Parts S) (w : World) (k : Kept) → Rests old w k → new.holding ≡ old.holding → new.seated ≡ old.seated → new.commits ≡ old.commits
    → IsSpanned new.spans w.run.made k.kind k.commits k.open_ → At new.store w k.commits (changes_of old old.seated.0) → Fits At new w k
spans_fits At old new w k rests holding seated commits spanned at = record {
  store = subst (λ (cs : List Change). At new.store w k.commits cs) (ap (λ x. changes_of old x.0) (sym seated) ∙ ap (λ (h : Holding). (seat_of h new.seated.0).session.changes) (sym holding)) at;
  rests = record {
    holds = subst (λ (h : Holding). Holds h k) (sym holding) rests.holds;
    seat = subst (λ x. IsSession x.0) (sym seated) rests.seat;
    count = commits ∙ rests.count;
    few = rests.few;
    spanned = spanned;
  };
}

-- ---- a snapshot of the present

live_append : (n m : ℕ) (live : List ℕ) → is_live n live ≡ true → is_live n (live ++ m ∷ []) ≡ true
live_append n m live e = list_any-append (λ x. x == n) live (m ∷ []) ∙ ap (λ (b : Bool). b || list_any (λ x. x == n) (m ∷ [])) e

live_last : (n m : ℕ) (live : List ℕ) → m ≡ n → is_live n (live ++ m ∷ []) ≡ true
live_last n m live e = list_any-append (λ x. x == n) live (m ∷ []) ∙ ap (λ (b : Bool). list_any (λ x. x == n) live || (b || false)) (eq-eqb m n e) ∙ or_last (list_any (λ x. x == n) live)
  where
    or_last : (a : Bool) → (a || (true || false)) ≡ true
    or_last true = refl
    or_last false = refl

pub spanned_more : (s new : Spans) (made : ℕ) (kind : ControlKind) (commits : List Commit) (open_ : List Open) (n : ℕ) → IsSpanned s made kind commits open_ → new.kind ≡ s.kind → new.made ≡ s.made → new.count ≡ s.count → new.first ≡ s.first → new.claims ≡ s.claims → new.live ≡ s.live ++ n ∷ []
    → IsSpanned new made kind commits open_
spanned_more s new made kind commits open_ n r kind' made' count' first claims live = record {
  kind_is = kind' ∙ r.kind_is;
  made_is = made' ∙ r.made_is;
  count_is = count' ∙ r.count_is;
  lent = each_map (IsLent s.live kind (length commits)) (IsLent new.live kind (length commits))
      (λ o lent. record {
        begun = lent.begun;
        lent = λ reads. elim (lent.lent reads) [
          | inl at ↦ inl at
          | inr is ↦ inr (subst (λ (l : List ℕ). is_live o.start l ≡ true) (sym live) (live_append o.start n s.live is))
        ];
      }) open_ r.lent;
  first = let before = r.first in omega (arith, first, before);
  tied = subst (λ (cs : List (List Claim)). AreTied kind cs (drop new.first commits)) (sym claims) (subst (λ (x : ℕ). AreTied kind s.claims (drop x commits)) (sym first) r.tied);
  since = subst (λ (x : ℕ). Each (IsSince x) open_) (sym first) r.since;
}

module _ {S : Type 0} (t : Parts S) (w : World) (k : Kept) (rests : Rests t w k) (s : ℕ) where
  others_lent : Each (IsLent t.spans.live k.kind (length k.commits)) (others s k.open_)
  others_lent = each_filter (IsLent t.spans.live k.kind (length k.commits)) (λ o. not (o.session == s)) k.open_ rests.spanned.lent

  -- each other transaction that reads its start finds it
  kept_by : (live : List ℕ) → ((o : Open) → is_live o.start t.spans.live ≡ true → is_live o.start live ≡ true) → ((o : Open) → o.start ≡ length k.commits → is_live o.start live ≡ true) → IsKeptFor s k live
  kept_by live before now = each_map (IsLent t.spans.live k.kind (length k.commits)) (λ o. reads_start_of k.kind o.level o.read_only ≡ true → is_live o.start live ≡ true)
      (λ o lent reads. elim (lent.lent reads) [
        | inl at ↦ now o at
        | inr is ↦ before o is
      ]) (others s k.open_) others_lent

  -- there is a snapshot of the present
  pub kept_there : has_start t.spans.count t.spans.live ≡ true → IsKeptFor s k t.spans.live
  kept_there is = kept_by t.spans.live (λ o live. live) (λ o at. ap (λ (x : ℕ). is_live x t.spans.live) (at ∙ sym rests.spanned.count_is) ∙ is)

  -- one comes
  pub kept_new : (live : List ℕ) → live ≡ t.spans.live ++ t.spans.count ∷ [] → IsKeptFor s k live
  kept_new live is = subst (IsKeptFor s k) (sym is) (kept_by (t.spans.live ++ t.spans.count ∷ []) (λ o before. live_append o.start t.spans.count t.spans.live before) (λ o at. live_last o.start t.spans.count t.spans.live (rests.spanned.count_is ∙ sym at)))

  -- nobody else reads the present
  pub kept_unread : IsReadFrom t.spans.kind t.spans.count s t.holding false → IsKeptFor s k t.spans.live
  kept_unread none =
      let unread : IsUnread k.kind t.spans.count (others s k.open_) = others_unread t.holding k rests.holds s t.spans.count (subst (λ (kind : ControlKind). IsReadFrom kind t.spans.count s t.holding false) rests.spanned.kind_is none) in
      each_both (IsLent t.spans.live k.kind (length k.commits)) (λ o. reads_start_of k.kind o.level o.read_only ≡ true → (o.start == t.spans.count) ≡ false) (λ o. reads_start_of k.kind o.level o.read_only ≡ true → is_live o.start t.spans.live ≡ true)
      (λ o lent apart reads. elim (lent.lent reads) [
        | inl at ↦ absurd (let clash : true ≡ false = sym (eq-eqb o.start t.spans.count (at ∙ sym rests.spanned.count_is)) ∙ apart reads in cc)
        | inr is ↦ is
      ]) (others s k.open_) others_lent unread

  -- ---- claims of a commit

  pub none_kept : (its : List Claim) → IsLeastStart t.spans.kind s t.holding None → AreKept s k its None
  none_kept its none = claimers_of t.holding k rests.holds s None (subst (λ (kind : ControlKind). IsLeastStart kind s t.holding None) rests.spanned.kind_is none)

-- ---- what nobody needs any more

tied_length : (kind : ControlKind) → (claims : List (List Claim)) (commits : List Commit) → AreTied kind claims commits → length claims ≡ length commits
tied_length kind [] [] h = refl
tied_length kind [] (k ∷ ks) h = absurd h
tied_length kind (c ∷ cs) [] h = absurd h
tied_length kind (c ∷ cs) (k ∷ ks) h = let rest = tied_length kind cs ks h.1 in omega (arith, rest)

-- the claims are those of the last commits
pub spanned_length : (s : Spans) (made : ℕ) (kind : ControlKind) (commits : List Commit) (open_ : List Open) → IsSpanned s made kind commits open_ → s.first + length s.claims ≡ length commits
spanned_length s made kind commits open_ r =
    let same = tied_length kind s.claims (drop s.first commits) r.tied in
    let len = length-drop s.first commits in
    let few = r.first in
    omega (arith, same, len, few)

-- what holds of those of all sessions but none holds of each
all_of : (P : Open → Type 0) → (xs : List Open) → Each (λ o. 1 ≤ o.session) xs → Each P (others 0 xs) → Each P xs
all_of P [] some h = tt
all_of P (x ∷ xs) some h = by (x.session == 0) refl h (all_of P xs some.1)
  where
    by : (b : Bool) → (x.session == 0) ≡ b → Each P (cond (not b) (x ∷ others 0 xs) (others 0 xs)) → (Each P (others 0 xs) → Each P xs) → Each P (x ∷ xs)
    by true e h rest = absurd (let none = eqb-true x.session 0 e in let one = some.0 in omega (arith, none, one))
    by false e h rest = (h.0, rest h.1)

module _ {S : Type 0} (t : Parts S) (w : World) (k : Kept) (rests : Rests t w k) where
  earliest : (least : Option CommitNo) → IsLeastStart t.spans.kind 0 t.holding least → IsLeastStart k.kind 0 t.holding least
  earliest least is = subst (λ (x : ControlKind). IsLeastStart x 0 t.holding least) rests.spanned.kind_is is

  session_some : Each (λ o. 1 ≤ o.session) k.open_
  session_some = each_map (IsKept k.kind t.holding (length k.settings)) (λ o. 1 ≤ o.session) (λ o kept. kept.number.0) k.open_ rests.holds.open_

  none_claims : IsLeastStart t.spans.kind 0 t.holding None → Each (λ o. may_conflict o ≡ false) k.open_
  none_claims none = all_of (λ o. may_conflict o ≡ false) k.open_ session_some (claimers_of t.holding k rests.holds 0 None (earliest None none))

  -- those of commits with which none of the transactions may conflict
  module _ (least : CommitNo) (is : IsLeastStart t.spans.kind 0 t.holding (Some least)) where
    pub least_later : t.spans.first ≤ least.0
    least_later = claimers_since t.holding k rests.holds 0 least (earliest (Some least) is) t.spans.first rests.spanned.since

    least_within : least.0 ≤ length k.commits
    least_within = claimers_within t.holding k rests.holds 0 least (earliest (Some least) is) (length k.commits)
        (each_map (IsLent t.spans.live k.kind (length k.commits)) (λ o. o.start ≤ length k.commits) (λ o lent. lent.begun) k.open_ rests.spanned.lent)

    pub least_last : least.0 ≤ t.spans.first + length t.spans.claims
    least_last = let within = least_within in let len = spanned_length t.spans w.run.made k.kind k.commits k.open_ rests.spanned in omega (arith, within, len)

    least_since : Each (IsSince least.0) k.open_
    least_since = all_of (IsSince least.0) k.open_ session_some (claimers_of t.holding k rests.holds 0 (Some least) (earliest (Some least) is))

module _ {S : Type 0} (At : S → World → List Commit → List Change → Type 0) (old new : Parts S) (w : World) (k : Kept) (fits : Fits At old w k) (holding : new.holding ≡ old.holding) (seated : new.seated ≡ old.seated) (commits : new.commits ≡ old.commits)
    (kind : new.spans.kind ≡ old.spans.kind) (made : new.spans.made ≡ old.spans.made) (count : new.spans.count ≡ old.spans.count) (store : At new.store w k.commits (changes_of old old.seated.0)) where
  abbrev spanned : IsSpanned old.spans w.run.made k.kind k.commits k.open_
  spanned = fits.rests.spanned

  -- a snapshot
  pub released_fits : (gone : ℕ) → list_any (reads_from old.spans.kind gone) old.holding.seats.items ≡ false → new.spans.first ≡ old.spans.first → new.spans.claims ≡ old.spans.claims → new.spans.live ≡ filter (λ x. not (x == gone)) old.spans.live → Fits At new w k
  released_fits gone unread first claims live = spans_fits At old new w k fits.rests holding seated commits
      (spanned_released old.spans w.run.made k.kind k.commits k.open_ spanned new.spans gone kind made count first claims live
      (all_unread old.holding k fits.rests.holds gone (subst (λ (x : ControlKind). list_any (reads_from x gone) old.holding.seats.items ≡ false) spanned.kind_is unread))) store

  -- claims
  pub cleared_fits : IsLeastStart old.spans.kind 0 old.holding None → new.spans.live ≡ old.spans.live → new.spans.first ≡ old.spans.count → new.spans.claims ≡ [] → Fits At new w k
  cleared_fits none live first claims = spans_fits At old new w k fits.rests holding seated commits
      (spanned_cleared old.spans w.run.made k.kind k.commits k.open_ spanned new.spans kind made count live first claims (none_claims old w k fits.rests none)) store

  pub dropped_fits : (least : CommitNo) → IsLeastStart old.spans.kind 0 old.holding (Some least) → new.spans.live ≡ old.spans.live → new.spans.first ≡ least.0 → new.spans.claims ≡ drop (least.0 - old.spans.first) old.spans.claims → Fits At new w k
  dropped_fits least is live first claims =
      let later = least_later old w k fits.rests least is in
      let within = least_within old w k fits.rests least is in
      spans_fits At old new w k fits.rests holding seated commits
      (spanned_dropped old.spans w.run.made k.kind k.commits k.open_ spanned new.spans kind made count live (omega (arith, later, first)) (omega (arith, within, first))
      (claims ∙ ap (λ (n : ℕ). drop (n - old.spans.first) old.spans.claims) (sym first))
      (subst (λ (n : ℕ). Each (IsSince n) k.open_) (sym first) (least_since old w k fits.rests least is))) store
