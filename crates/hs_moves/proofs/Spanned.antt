-- What an engine keeps for transactions that read their start, as transactions begin, go on and end.
use Rattle.std.proofs.Common.{◌≡◌, ◌⊎◌, inl, inr, ℕ, ◌+◌, ◌-◌, ◌≤◌, ◌==◌, ◌||◌, not, Bool, true, false, cond, List, [], ◌∷◌, ◌++◌, length, drop, filter, refl, sym, ap, ◌∙◌, subst, arith, eqb-true, length-append}
use Rattle.std.proofs.lemmas.List.{drop_all, drop-append-le, drop-drop}
use Rattle.hs_claims.specs.declared.claim.Claim.{Claim}
use Rattle.hs_claims.specs.declared.model.ControlKind.{ControlKind}
use Rattle.hs_claims.specs.Wants.{reads_start_of}
use Rattle.hs_conflicts.specs.Conflicts.{AreTied, IsTied}
use Rattle.hs_conflicts.proofs.Tied.{tied_drop, tied_push}
use Rattle.hs_turns.specs.Each.{Each}
use Rattle.hs_turns.specs.Histories.{Commit, Open, others, own, put_open}
use Rattle.hs_turns.proofs.Lists.{each_both, each_filter, each_map, each_put}
use Rattle.hs_turns.proofs.Sound.{own_each}
use Rattle.hs_moves.specs.Parts.{Spans}
use Rattle.hs_moves.specs.Spanned.{IsLent, IsSince, IsSpanned, is_live, may_conflict}

-- what is dropped one time after another
dropped_again : {X : Type 0} → (m n : ℕ) → m ≤ n → (xs : List X) → drop (n - m) (drop m xs) ≡ drop n xs
dropped_again m n le xs = let whole : m + (n - m) ≡ n = omega (arith, le) in drop-drop (n - m) m xs ∙ ap (λ (k : ℕ). drop k xs) whole

module _ (s : Spans) (made : ℕ) (kind : ControlKind) (commits : List Commit) (open_ : List Open) (r : IsSpanned s made kind commits open_) where
  -- a transaction ends without a commit
  pub spanned_others : (who : ℕ) → IsSpanned s made kind commits (others who open_)
  spanned_others who = record {
    kind_is = r.kind_is;
    made_is = r.made_is;
    count_is = r.count_is;
    lent = each_filter (IsLent s.live kind (length commits)) (λ o. not (o.session == who)) open_ r.lent;
    first = r.first;
    tied = r.tied;
    since = each_filter (IsSince s.first) (λ o. not (o.session == who)) open_ r.since;
  }

  -- one is put in its place
  pub spanned_put : (who : ℕ) (o : Open) → IsLent s.live kind (length commits) o → IsSince s.first o → IsSpanned s made kind commits (put_open who o open_)
  spanned_put who o lent since = record {
    kind_is = r.kind_is;
    made_is = r.made_is;
    count_is = r.count_is;
    lent = each_put (IsLent s.live kind (length commits)) who o lent open_ (spanned_others who).lent;
    first = r.first;
    tied = r.tied;
    since = each_put (IsSince s.first) who o since open_ (spanned_others who).since;
  }

  -- that of a session, or the one that it begins
  pub own_lent : (who : ℕ) (new : Open) → new.start ≡ length commits → IsLent s.live kind (length commits) (own who new open_)
  own_lent who new is = own_each (IsLent s.live kind (length commits)) who new (record { begun = omega (arith, is); lent = λ reads. inl is }) open_ r.lent

  pub own_since : (who : ℕ) (new : Open) → new.start ≡ length commits → IsSince s.first (own who new open_)
  own_since who new is = own_each (IsSince s.first) who new (λ may. let before = r.first in omega (arith, is, before)) open_ r.since

  pub spanned_opened : (who : ℕ) (new : Open) → new.start ≡ length commits → IsSpanned s made kind commits (put_open who (own who new open_) open_)
  spanned_opened who new is = spanned_put who (own who new open_) (own_lent who new is) (own_since who new is)

  -- ---- one commit more

  module _ (new : Spans) (who : ℕ) (k : Commit) (kind' : new.kind ≡ s.kind) (made' : new.made ≡ s.made) (count' : new.count ≡ s.count + 1) (lent : Each (λ o. reads_start_of kind o.level o.read_only ≡ true → is_live o.start new.live ≡ true) (others who open_)) where
    more : length (commits ++ k ∷ []) ≡ length commits + 1
    more = length-append commits (k ∷ [])

    lent_more : Each (IsLent new.live kind (length (commits ++ k ∷ []))) (others who open_)
    lent_more = each_both (IsLent s.live kind (length commits)) (λ o. reads_start_of kind o.level o.read_only ≡ true → is_live o.start new.live ≡ true) (IsLent new.live kind (length (commits ++ k ∷ [])))
        (λ o before now. record { begun = let b = before.begun in omega (arith, b, more); lent = λ reads. inr (now reads) }) (others who open_) (spanned_others who).lent lent

    -- its claims are kept behind those before
    pub spanned_kept : (claims : List Claim) → IsTied kind claims k → new.first ≡ s.first → new.claims ≡ s.claims ++ claims ∷ [] → IsSpanned new made kind (commits ++ k ∷ []) (others who open_)
    spanned_kept claims tied first is = record {
      kind_is = kind' ∙ r.kind_is;
      made_is = made' ∙ r.made_is;
      count_is = let before = r.count_is in omega (arith, count', before, more);
      lent = lent_more;
      first = let before = r.first in omega (arith, first, before, more);
      tied = subst (λ (n : ℕ). AreTied kind new.claims (drop n (commits ++ k ∷ []))) (sym first)
          (subst (λ (cs : List Commit). AreTied kind new.claims cs) (sym (drop-append-le s.first commits (k ∷ []) r.first))
          (subst (λ (cs : List (List Claim)). AreTied kind cs (drop s.first commits ++ k ∷ [])) (sym is) (tied_push kind s.claims (drop s.first commits) claims k r.tied tied)));
      since = subst (λ (n : ℕ). Each (IsSince n) (others who open_)) (sym first) (spanned_others who).since;
    }

    -- no claims are kept, as no other transaction may conflict
    pub spanned_forgot : Each (λ o. may_conflict o ≡ false) (others who open_) → new.first ≡ length commits + 1 → new.claims ≡ [] → IsSpanned new made kind (commits ++ k ∷ []) (others who open_)
    spanned_forgot none first is = record {
      kind_is = kind' ∙ r.kind_is;
      made_is = made' ∙ r.made_is;
      count_is = let before = r.count_is in omega (arith, count', before, more);
      lent = lent_more;
      first = omega (arith, first, more);
      tied = subst (λ (cs : List (List Claim)). AreTied kind cs (drop new.first (commits ++ k ∷ []))) (sym is) (subst (λ (cs : List Commit). AreTied kind [] cs) (sym (drop_all new.first (commits ++ k ∷ []) (omega (arith, first, more)))) tt);
      since = each_map (λ o. may_conflict o ≡ false) (IsSince new.first) (λ o isnt may. absurd (let clash : true ≡ false = sym may ∙ isnt in cc)) (others who open_) none;
    }

  -- ---- what nobody needs any more is dropped

  or_cases : (a b : Bool) → (a || b) ≡ true → (a ≡ true) ⊎ (b ≡ true)
  or_cases true b h = inl refl
  or_cases false b h = inr h

  or_true : (a : Bool) {b : Bool} → b ≡ true → (a || b) ≡ true
  or_true true e = refl
  or_true false e = e

  still_live : (n gone : ℕ) → (n == gone) ≡ false → (live : List ℕ) → is_live n live ≡ true → is_live n (filter (λ x. not (x == gone)) live) ≡ true
  still_live n gone apart [] h = absurd cc
  still_live n gone apart (x ∷ live) h = by (x == gone) refl (or_cases (x == n) (is_live n live) h) (still_live n gone apart live)
    where
      same : x ≡ n → (x == gone) ≡ (n == gone)
      same e = ap (λ (y : ℕ). y == gone) e

      by : (t : Bool) → (x == gone) ≡ t → ((x == n) ≡ true) ⊎ (is_live n live ≡ true) → (is_live n live ≡ true → is_live n (filter (λ y. not (y == gone)) live) ≡ true) → is_live n (cond (not t) (x ∷ filter (λ y. not (y == gone)) live) (filter (λ y. not (y == gone)) live)) ≡ true
      by true is (inl e) rest = absurd (let clash : true ≡ false = sym is ∙ same (eqb-true x n e) ∙ apart in cc)
      by true is (inr e) rest = rest e
      by false is (inl e) rest = ap (λ (b : Bool). b || is_live n (filter (λ y. not (y == gone)) live)) e
      by false is (inr e) rest = or_true (x == n) (rest e)

  -- a snapshot from which no open transaction reads
  pub spanned_released : (new : Spans) (gone : ℕ) → new.kind ≡ s.kind → new.made ≡ s.made → new.count ≡ s.count → new.first ≡ s.first → new.claims ≡ s.claims → new.live ≡ filter (λ x. not (x == gone)) s.live
      → Each (λ o. reads_start_of kind o.level o.read_only ≡ true → (o.start == gone) ≡ false) open_ → IsSpanned new made kind commits open_
  spanned_released new gone kind' made' count' first claims live unread = record {
    kind_is = kind' ∙ r.kind_is;
    made_is = made' ∙ r.made_is;
    count_is = count' ∙ r.count_is;
    lent = each_both (IsLent s.live kind (length commits)) (λ o. reads_start_of kind o.level o.read_only ≡ true → (o.start == gone) ≡ false) (IsLent new.live kind (length commits))
        (λ o lent apart. record {
          begun = lent.begun;
          lent = λ reads. elim (lent.lent reads) [
            | inl at ↦ inl at
            | inr is ↦ inr (subst (λ (l : List ℕ). is_live o.start l ≡ true) (sym live) (still_live o.start gone (apart reads) s.live is))
          ];
        }) open_ r.lent unread;
    first = let before = r.first in omega (arith, first, before);
    tied = subst (λ (cs : List (List Claim)). AreTied kind cs (drop new.first commits)) (sym claims) (subst (λ (n : ℕ). AreTied kind s.claims (drop n commits)) (sym first) r.tied);
    since = subst (λ (n : ℕ). Each (IsSince n) open_) (sym first) r.since;
  }

  -- the claims of commits before the least start of those that may conflict
  pub spanned_dropped : (new : Spans) → new.kind ≡ s.kind → new.made ≡ s.made → new.count ≡ s.count → new.live ≡ s.live → s.first ≤ new.first → new.first ≤ length commits → new.claims ≡ drop (new.first - s.first) s.claims
      → Each (IsSince new.first) open_ → IsSpanned new made kind commits open_
  spanned_dropped new kind' made' count' live later few claims since = record {
    kind_is = kind' ∙ r.kind_is;
    made_is = made' ∙ r.made_is;
    count_is = count' ∙ r.count_is;
    lent = subst (λ (l : List ℕ). Each (IsLent l kind (length commits)) open_) (sym live) r.lent;
    first = few;
    tied = subst (λ (cs : List (List Claim)). AreTied kind cs (drop new.first commits)) (sym claims)
        (subst (λ (cs : List Commit). AreTied kind (drop (new.first - s.first) s.claims) cs) (dropped_again s.first new.first later commits) (tied_drop kind (new.first - s.first) s.claims (drop s.first commits) r.tied));
    since = since;
  }

  -- all claims, where no open transaction may conflict
  pub spanned_cleared : (new : Spans) → new.kind ≡ s.kind → new.made ≡ s.made → new.count ≡ s.count → new.live ≡ s.live → new.first ≡ s.count → new.claims ≡ [] → Each (λ o. may_conflict o ≡ false) open_ → IsSpanned new made kind commits open_
  spanned_cleared new kind' made' count' live first claims none =
      let before = r.count_is in
      record {
        kind_is = kind' ∙ r.kind_is;
        made_is = made' ∙ r.made_is;
        count_is = count' ∙ r.count_is;
        lent = subst (λ (l : List ℕ). Each (IsLent l kind (length commits)) open_) (sym live) r.lent;
        first = omega (arith, first, before);
        tied = subst (λ (cs : List (List Claim)). AreTied kind cs (drop new.first commits)) (sym claims) (subst (λ (cs : List Commit). AreTied kind [] cs) (sym (drop_all new.first commits (omega (arith, first, before)))) tt);
        since = each_map (λ o. may_conflict o ≡ false) (IsSince new.first) (λ o isnt may. absurd (let clash : true ≡ false = sym may ∙ isnt in cc)) open_ none;
      }

-- a definition, before which no transaction is open
pub spanned_defined : (new : Spans) (made : ℕ) (kind : ControlKind) (commits : List Commit) (open_ : List Open) → open_ ≡ [] → new.kind ≡ kind → new.made ≡ made → new.count ≡ length commits → new.first ≡ length commits → new.claims ≡ [] → IsSpanned new made kind commits open_
spanned_defined new made kind commits open_ none kind' made' count' first claims = record {
  kind_is = kind';
  made_is = made';
  count_is = count';
  lent = subst (λ (os : List Open). Each (IsLent new.live kind (length commits)) os) (sym none) tt;
  first = omega (arith, first);
  tied = subst (λ (cs : List (List Claim)). AreTied kind cs (drop new.first commits)) (sym claims) (subst (λ (cs : List Commit). AreTied kind [] cs) (sym (drop_all new.first commits (omega (arith, first)))) tt);
  since = subst (λ (os : List Open). Each (IsSince new.first) os) (sym none) tt;
}
