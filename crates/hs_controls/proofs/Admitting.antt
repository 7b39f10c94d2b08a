-- A session more.
use Rattle.std.proofs.Common.{◌≡◌, ◌⊎◌, inl, inr, ◌≤◌, ◌<◌, ◌+◌, ◌-◌, ℕ, zero, suc, false, List, [], ◌∷◌, ◌++◌, length, get_or, refl, sym, ap, ◌∙◌, subst, arith, length-append}
use Rattle.std.proofs.lemmas.Bool.{cases_lt}
use Rattle.std.proofs.lemmas.List.{get_or_append_left, get_or-append_right, get_or_past, get_or_push}
use Rattle.hs_ast.specs.declared.session.Isolation.{Isolation}
use Rattle.hs_ast.specs.declared.session.Isolation.TheVariants.{ReadCommitted}
use Rattle.hs_claims.specs.declared.claim.Claim.{Claim}
use Rattle.hs_claims.specs.Blockers.{has as has_set}
use Rattle.hs_claims.specs.Held.{held_by}
use Rattle.hs_claims.specs.Session.{IsSession}
use Rattle.hs_plan.specs.declared.change.Change.{Change}
use Rattle.hs_sessions.specs.Settings.{fresh}
use Rattle.hs_turns.specs.Histories.{Commit, Open}
use Rattle.hs_turns.proofs.Lists.{each_map}
use Rattle.hs_seams.specs.Stores.{present}
use Rattle.hs_seams.specs.World.{World}
use Rattle.hs_sides.specs.Sides.{Side, with_new}
use Rattle.hs_turns.specs.Machine.{Settings, new_settings, settings_in}
use Rattle.hs_turns.specs.Waiting.{Waits}
use Rattle.hs_waits.specs.Waits.{waits_of}
use Rattle.hs_holding.specs.declared.holding.Holding.{Holding}
use Rattle.hs_holding.specs.declared.seat.Seat.{Seat}
use Rattle.hs_holding.specs.Held.{IsNumber, seat_of}
use Rattle.hs_holding.specs.Seats.{is_open_seat, nobody_seat, start_in}
use Rattle.hs_tied.specs.Holds.{AreClaims, Holds, IsKept, IsOwn}
use Rattle.hs_tied.specs.Kept.{Kept, set_in}
use Rattle.hs_tied.specs.Waiting.{Ways}
use Rattle.hs_moves.specs.Fits.{Fits, Rests, changes_of, kept_of}
use Rattle.hs_moves.specs.Parts.{Parts, Spans}
use Rattle.hs_moves.specs.Spanned.{IsSpanned}
use Rattle.hs_controls.specs.Called.{IsAdmitted}

-- no transaction is open in either, or the same one
pub record Same (x y : Seat) : Type 0 where
  pub opens : is_open_seat x ≡ is_open_seat y
  pub changes : x.session.changes ≡ y.session.changes
  pub savepoints : x.session.savepoints ≡ y.session.savepoints

abbrev fresh_seat : Isolation → Seat
fresh_seat level = record { session = fresh level; auto = false }

beyond : (level : Isolation) (j : ℕ) → Same (get_or (fresh_seat level ∷ []) j nobody_seat) nobody_seat
beyond level zero = record { opens = refl; changes = refl; savepoints = refl }
beyond level (suc j) = record { opens = refl; changes = refl; savepoints = refl }

module _ (h h' : Holding) (level : Isolation) (i : IsAdmitted level h h') where
  -- the seat of one of those that there were
  seat_before : (b : ℕ) → IsNumber (length h.seats.items) b → seat_of h' b ≡ seat_of h b
  seat_before b n = ap (λ (xs : List Seat). get_or xs (b - 1) nobody_seat) i.seats
      ∙ get_or_append_left h.seats.items (fresh_seat level ∷ []) nobody_seat (b - 1) (omega (arith, n.0, n.1))

  seat_by : (b : ℕ) → IsSession b → (b < length h.seats.items + 1) ⊎ (length h.seats.items + 1 ≤ b) → Same (seat_of h' b) (seat_of h b)
  seat_by b at (inl low) =
      let e = seat_before b (at.0, omega (arith, low)) in
      record { opens = ap is_open_seat e; changes = ap (λ (x : Seat). x.session.changes) e; savepoints = ap (λ (x : Seat). x.session.savepoints) e }
  seat_by b at (inr high) =
      let n = length h.seats.items in
      let new : seat_of h' b ≡ get_or (fresh_seat level ∷ []) (b - 1 - n) nobody_seat =
      ap (λ (xs : List Seat). get_or xs (b - 1) nobody_seat) i.seats ∙ get_or-append_right h.seats.items (fresh_seat level ∷ []) n (b - 1) nobody_seat refl (omega (arith, high)) in
      let none : seat_of h b ≡ nobody_seat = get_or_past h.seats.items (b - 1) nobody_seat (omega (arith, high)) in
      let same = beyond level (b - 1 - n) in
      record {
        opens = ap is_open_seat new ∙ same.opens ∙ ap is_open_seat (sym none);
        changes = ap (λ (x : Seat). x.session.changes) new ∙ same.changes ∙ ap (λ (x : Seat). x.session.changes) (sym none);
        savepoints = ap (λ (x : Seat). x.session.savepoints) new ∙ same.savepoints ∙ ap (λ (x : Seat). x.session.savepoints) (sym none);
      }

  pub seat_same : (b : ℕ) → IsSession b → Same (seat_of h' b) (seat_of h b)
  seat_same b at = seat_by b at (cases_lt b (length h.seats.items + 1))

  same_claims : (b : ℕ) → held_by h'.claims b ≡ held_by h.claims b
  same_claims b = ap (λ (c : List (List Claim)). held_by c b) i.claims

  module _ (k : Kept) (holds : Holds h k) (few : length k.settings < 64) where
    abbrev n : ℕ
    n = length k.settings

    abbrev settings : List Settings
    settings = k.settings ++ new_settings level ∷ []

    long : length settings ≡ n + 1
    long = length-append k.settings (new_settings level ∷ [])

    before : (b : ℕ) → IsNumber n b → seat_of h' b ≡ seat_of h b
    before b m = seat_before b (subst (λ (x : ℕ). IsNumber x b) (sym holds.len) m)

    settings_by : (b : ℕ) → 1 ≤ b → (b < n + 1) ⊎ (n + 1 ≤ b) → b ≤ n + 1 → set_in settings b ≡ settings_in (seat_of h' b).session
    settings_by b some (inl low) most =
        let m : IsNumber n b = (some, omega (arith, low)) in
        get_or_append_left k.settings (new_settings level ∷ []) (new_settings ReadCommitted) (b - 1) (omega (arith, some, low)) ∙ holds.settings b m ∙ ap (λ (x : Seat). settings_in x.session) (sym (before b m))
    settings_by b some (inr high) most =
        let len = holds.len in
        get_or_push k.settings (new_settings level) (new_settings ReadCommitted) (b - 1) (omega (arith, high, most))
        ∙ ap (λ (x : Seat). settings_in x.session) (sym (ap (λ (xs : List Seat). get_or xs (b - 1) nobody_seat) i.seats ∙ get_or_push h.seats.items (fresh_seat level) nobody_seat (b - 1) (omega (arith, high, most, len))))

    still_kept : (u : Open) → IsKept k.kind h n u → IsKept k.kind h' (length settings) u
    still_kept u kept =
        let same = before u.session kept.number in
        record {
          number = (kept.number.0, let top = kept.number.1 in let l = long in omega (arith, top, l));
          opens = ap is_open_seat same ∙ kept.opens;
          own = subst (λ (x : Seat). IsOwn k.kind x u) (sym same) kept.own;
          claims = subst (AreClaims k.kind u) (sym (same_claims u.session)) kept.claims;
          start = ap start_in same ∙ kept.start;
        }

    pub admitted_holds : Holds h' (record k { settings = settings })
    admitted_holds = record {
      len = ap length i.seats ∙ length-append h.seats.items (fresh_seat level ∷ []) ∙ ap (λ (x : ℕ). x + 1) holds.len ∙ sym long;
      most = let l = long in omega (arith, l, few);
      settings = λ b m. settings_by b m.0 (cases_lt b (n + 1)) (let top = m.1 in let l = long in omega (arith, top, l));
      open_ = each_map (IsKept k.kind h n) (IsKept k.kind h' (length settings)) still_kept k.open_ holds.open_;
      known = λ b at. holds.known b at ∙ sym (seat_same b at).opens;
      idle = λ b at none. let idle = holds.idle b at none in let same = seat_same b at in record {
        changes = same.changes ∙ idle.changes;
        savepoints = same.savepoints ∙ idle.savepoints;
        claims_none = same_claims b ∙ idle.claims_none;
      };
      waits = λ a b p q. holds.waits a b p q ∙ sym (ap (λ (r : List ℕ). has_set (waits_of r a) b) i.waits);
    }

pub fits_admitted : {S : Type 0} (At : S → World → List Commit → List Change → Type 0) (w : World) (side : Side) (old new : Parts S) (level : Isolation) → Rests old w (kept_of side) → length side.settings < 64 → level ≡ (present w side.history.commits).level
    → IsAdmitted level old.holding new.holding → new.seated ≡ old.seated → new.commits ≡ old.commits → new.spans ≡ old.spans → At new.store w side.history.commits (changes_of old old.seated.0) → Fits At new w (kept_of (with_new w.run side))
fits_admitted At w side old new level rests few is i seated commits spans at =
    subst (λ (x : Isolation). Fits At new w (kept_of (record side { settings = side.settings ++ new_settings x ∷ [] }))) is (record {
      store = subst (λ (cs : List Change). At new.store w side.history.commits cs) (sym (ap (λ x. changes_of new x.0) seated ∙ (seat_same old.holding new.holding level i old.seated.0 rests.seat).changes)) at;
      rests = record {
        holds = admitted_holds old.holding new.holding level i (kept_of side) rests.holds few;
        seat = subst (λ x. IsSession x.0) (sym seated) rests.seat;
        count = commits ∙ rests.count;
        few = rests.few;
        spanned = subst (λ (x : Spans). IsSpanned x w.run.made side.history.kind side.history.commits side.history.open_) (sym spans) rests.spanned;
      };
    })

-- ---- who waits for whom

pub more_ways : (n m : ℕ) (waits : Waits) → n ≤ m → Ways n waits → Ways m waits
more_ways n m waits le ways = record {
  from = λ a b e. (let from = ways.from a b e in from.0, let from = ways.from a b e in omega (arith, from.1, le));
  to = λ a b e. (let to = ways.to a b e in to.0, let to = ways.to a b e in omega (arith, to.1, le));
  ranked = record {
    rank = ways.ranked.rank;
    rises = ways.ranked.rises;
    below = λ a b e. let below = ways.ranked.below a b e in omega (arith, below, le);
  };
}

pub new_ways : (w : World) (side : Side) → Ways (length side.settings) side.waits → Ways (length (with_new w.run side).settings) (with_new w.run side).waits
new_ways w side ways =
    let level = (present w side.history.commits).level in
    let len = length-append side.settings (new_settings level ∷ []) in
    more_ways (length side.settings) (length (side.settings ++ new_settings level ∷ [])) side.waits (omega (arith, len)) ways
