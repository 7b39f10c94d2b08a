-- From which states open transactions read, as the sessions tell it.
use Rattle.std.proofs.Common.{◌≡◌, ℕ, ◌-◌, ◌<◌, ◌≤◌, ◌==◌, ◌&&◌, not, Bool, true, false, List, length, get_or, refl, sym, ap, ap₂, ◌∙◌, subst, arith, eqb-true}
use Rattle.std.specs.Prelude.{Option, None, Some}
use Rattle.std.specs.List.{list_any}
use Rattle.std.proofs.lemmas.Bool.{and_parts}
use Rattle.std.proofs.lemmas.List.Folds.{list_any_at}
use Rattle.hs_base.specs.declared.numbers.CommitNo.{CommitNo}
use Rattle.hs_claims.specs.declared.model.Level.{Level}
use Rattle.hs_claims.specs.declared.model.Level.TheVariants.{Rc, Ser, Snap}
use Rattle.hs_claims.specs.Wants.{reads_start_of}
use Rattle.hs_turns.specs.Each.{Each}
use Rattle.hs_turns.specs.Histories.{Open, is_snap, others}
use Rattle.hs_turns.proofs.Lists.{each_both, each_map, some_of}
use Rattle.hs_turns.proofs.Opened.{has, is_of}
use Rattle.hs_holding.specs.declared.holding.Holding.{Holding}
use Rattle.hs_holding.specs.declared.seat.Own.{Own}
use Rattle.hs_holding.specs.declared.seat.Seat.{Seat}
use Rattle.hs_holding.specs.Held.{IsNumber, IsSeat, seat_of}
use Rattle.hs_holding.specs.Seats.{is_at_snapshot, is_open_seat, is_start, may_conflict, nobody_seat, reads_from, start_in}
use Rattle.hs_holding.specs.Starts.{IsLeastStart, IsNoEarlier, IsReadFrom}
use Rattle.hs_tied.specs.Holds.{Holds, IsKept}
use Rattle.hs_tied.specs.Kept.{Kept}
use Rattle.hs_tied.specs.Starts.{IsEarliest, IsUnread, is_claimer}
use Rattle.hs_tied.proofs.Blocking.{session_of}
use Rattle.hs_tied.proofs.Lists.{each_others}

snap_is : (level : Level) → is_at_snapshot level ≡ is_snap level
snap_is Rc = refl
snap_is Ser = refl
snap_is Snap = refl

not_both : (a r : Bool) → (a && r) ≡ false → r ≡ true → a ≡ false
not_both true r h e = sym e ∙ h
not_both false r h e = refl

none_at : (p : Seat → Bool) (xs : List Seat) (i : ℕ) → i < length xs → list_any p xs ≡ false → p (get_or xs i nobody_seat) ≡ false
none_at p xs i less none = by (p (get_or xs i nobody_seat)) refl
  where
    by : (t : Bool) → p (get_or xs i nobody_seat) ≡ t → p (get_or xs i nobody_seat) ≡ false
    by true e = e ∙ sym (list_any_at p xs i nobody_seat less e) ∙ none
    by false e = e

start_number : Option CommitNo → ℕ
start_number None = 0
start_number (Some start) = start.0

module _ (h : Holding) (k : Kept) (holds : Holds h k) where
  seat_is : (b : ℕ) → IsNumber (length k.settings) b → IsSeat h b
  seat_is b n = subst (λ (x : ℕ). IsNumber x b) (sym holds.len) n

  reads_is : (start : ℕ) (u : Open) → IsKept k.kind h (length k.settings) u → reads_from k.kind start (seat_of h u.session) ≡ ((u.start == start) && reads_start_of k.kind u.level u.read_only)
  reads_is start u kept = ap₂ (λ (began : Option CommitNo) (own : Own). is_start start began && reads_start_of k.kind own.level own.read_only) kept.start kept.own.own

  claims_is : (u : Open) → IsKept k.kind h (length k.settings) u → may_conflict k.kind (seat_of h u.session) ≡ is_claimer u
  claims_is u kept = ap₂ (λ (open_ : Bool) (own : Own). open_ && (is_at_snapshot own.level && not own.read_only)) kept.opens kept.own.own ∙ ap (λ (snap : Bool). snap && not u.read_only) (snap_is u.level)

  -- ---- who reads the state behind so many commits

  unread_one : (start : ℕ) (u : Open) → IsKept k.kind h (length k.settings) u → reads_from k.kind start (seat_of h u.session) ≡ false → reads_start_of k.kind u.level u.read_only ≡ true → (u.start == start) ≡ false
  unread_one start u kept none reads = not_both (u.start == start) (reads_start_of k.kind u.level u.read_only) (sym (reads_is start u kept) ∙ none) reads

  -- none of the other transactions, where no other session does
  pub readers_of : (s start : ℕ) → ((b : ℕ) → IsNumber (length k.settings) b → (b == s) ≡ false → reads_from k.kind start (seat_of h b) ≡ false) → IsUnread k.kind start (others s k.open_)
  readers_of s start none = each_others (IsKept k.kind h (length k.settings)) (λ o. reads_start_of k.kind o.level o.read_only ≡ true → (o.start == start) ≡ false) s
      (λ u other kept reads. unread_one start u kept (none u.session kept.number other) reads) k.open_ holds.open_

  pub others_unread : (s start : ℕ) → IsReadFrom k.kind start s h false → IsUnread k.kind start (others s k.open_)
  others_unread s start none = readers_of s start (λ b n other. none b (seat_is b n) other)

  -- none at all, where no session does
  pub users_of : (start : ℕ) → ((b : ℕ) → IsNumber (length k.settings) b → reads_from k.kind start (seat_of h b) ≡ false) → IsUnread k.kind start k.open_
  users_of start none = each_map (IsKept k.kind h (length k.settings)) (λ o. reads_start_of k.kind o.level o.read_only ≡ true → (o.start == start) ≡ false)
      (λ u kept reads. unread_one start u kept (none u.session kept.number) reads) k.open_ holds.open_

  pub all_unread : (start : ℕ) → list_any (reads_from k.kind start) h.seats.items ≡ false → IsUnread k.kind start k.open_
  all_unread start none = users_of start (λ b n. let seat = seat_is b n in none_at (reads_from k.kind start) h.seats.items (b - 1) (omega (arith, seat.0, seat.1)) none)

  -- ---- the least start of those that may conflict

  pub claimers_of : (s : ℕ) (least : Option CommitNo) → IsLeastStart k.kind s h least → IsEarliest (others s k.open_) least
  claimers_of s None none = each_others (IsKept k.kind h (length k.settings)) (λ o. is_claimer o ≡ false) s
      (λ u other kept. sym (claims_is u kept) ∙ none u.session (seat_is u.session kept.number) other) k.open_ holds.open_
  claimers_of s (Some least) is = each_others (IsKept k.kind h (length k.settings)) (λ o. is_claimer o ≡ true → least.0 ≤ o.start) s
      (λ u other kept claims. subst (IsNoEarlier least.0) kept.start (is.0 u.session (seat_is u.session kept.number) other (claims_is u kept ∙ claims))) k.open_ holds.open_

  abbrev kept_within : ℕ → Open → Type 0
  kept_within n o = IsKept k.kind h (length k.settings) o × (o.start ≤ n)

  -- it is the start of one of them
  pub claimers_within : (s : ℕ) (least : CommitNo) → IsLeastStart k.kind s h (Some least) → (n : ℕ) → Each (λ o. o.start ≤ n) k.open_ → least.0 ≤ n
  unfolding start_number
  claimers_within s least is n within =
      let its = is.1 in
      let b = its.0 in
      let number : IsNumber (length k.settings) b = subst (λ (x : ℕ). IsNumber x b) holds.len its.1 in
      let opens : is_open_seat (seat_of h b) ≡ true = (and_parts (is_open_seat (seat_of h b)) _ its.3).0 in
      some_of (kept_within n) (is_of b) (least.0 ≤ n) (λ u both same. of_one b u both.0 both.1 (eqb-true u.session b same) its.4) k.open_
      (each_both (IsKept k.kind h (length k.settings)) (λ o. o.start ≤ n) (kept_within n) (λ u kept less. (kept, less)) k.open_ holds.open_ within)
      (holds.known b (session_of h k holds b number) ∙ opens)
    where
      of_one : (b : ℕ) (u : Open) → IsKept k.kind h (length k.settings) u → u.start ≤ n → u.session ≡ b → start_in (seat_of h b) ≡ Some least → least.0 ≤ n
      of_one b u kept less same start = subst (λ (x : ℕ). x ≤ n) (ap start_number (sym kept.start ∙ ap (λ (x : ℕ). start_in (seat_of h x)) same ∙ start)) less

  abbrev kept_since : ℕ → Open → Type 0
  kept_since n o = IsKept k.kind h (length k.settings) o × (is_claimer o ≡ true → n ≤ o.start)

  -- and one of those that may conflict
  pub claimers_since : (s : ℕ) (least : CommitNo) → IsLeastStart k.kind s h (Some least) → (n : ℕ) → Each (λ o. is_claimer o ≡ true → n ≤ o.start) k.open_ → n ≤ least.0
  unfolding start_number
  claimers_since s least is n since =
      let its = is.1 in
      let b = its.0 in
      let number : IsNumber (length k.settings) b = subst (λ (x : ℕ). IsNumber x b) holds.len its.1 in
      let opens : is_open_seat (seat_of h b) ≡ true = (and_parts (is_open_seat (seat_of h b)) _ its.3).0 in
      some_of (kept_since n) (is_of b) (n ≤ least.0) (λ u both same. of_since b u both.0 both.1 (eqb-true u.session b same) its.3 its.4) k.open_
      (each_both (IsKept k.kind h (length k.settings)) (λ o. is_claimer o ≡ true → n ≤ o.start) (kept_since n) (λ u kept since. (kept, since)) k.open_ holds.open_ since)
      (holds.known b (session_of h k holds b number) ∙ opens)
    where
      of_since : (b : ℕ) (u : Open) → IsKept k.kind h (length k.settings) u → (is_claimer u ≡ true → n ≤ u.start) → u.session ≡ b → may_conflict k.kind (seat_of h b) ≡ true → start_in (seat_of h b) ≡ Some least → n ≤ least.0
      of_since b u kept since same may start = subst (λ (x : ℕ). n ≤ x) (ap start_number (sym kept.start ∙ ap (λ (x : ℕ). start_in (seat_of h x)) same ∙ start))
          (since (sym (claims_is u kept) ∙ ap (λ (x : ℕ). may_conflict k.kind (seat_of h x)) same ∙ may))
