-- How the reads of a call follow one another.
use Rattle.std.proofs.Common.{◌≡◌, ◌⊎◌, inl, inr, ℕ, ◌≤◌, ◌<◌, ◌||◌, ◌&&◌, nat_lt, Bool, true, false, List, [], ◌∷◌, ◌++◌, length, take, Option, None, Some, Result, Ok, Err, IsErrAnd, MatchResult, refl, sym, ap, subst, append_assoc, append-nil, ◌∙◌, arith}
use Rattle.std.proofs.lemmas.List.{take_all}
use Rattle.std.proofs.lemmas.Bool.Decides.{nat_tests}
use Rattle.hs_entries.specs.declared.input_fault.InputFault.{InputFault}
use Rattle.hs_entries.specs.declared.item.Item.{Item}
use Rattle.hs_entries.specs.declared.place.Place.{Place}
use Rattle.hs_entries.specs.declared.place.Place.TheVariants.{Between}
use Rattle.hs_entries.specs.declared.window.Window.{Window}
use Rattle.hs_entries.specs.Window.{left_of, ahead_of, room_of, IsSound}
use Rattle.hs_entries.specs.Left.{Left, whole_of, Continues, Takes}
use Rattle.hs_entries.specs.Items.{items_from, no_items, whole_items, has_item}
use Rattle.hs_entries.specs.Asking.{given_by, all_gave, AreNeeded, Asks, Gets, NeedsMore, Gathers, Asked}
use Rattle.hs_entries.proofs.LeftSteps.{left_at, continues_takes, continues_trans}
use Rattle.hs_entries.proofs.Looking.{none_at_hand, none_at_hand_within}

pub or_false : (a b : Bool) → a ≡ false → b ≡ false → (a || b) ≡ false
or_false a b first second = rw (first, second) refl

or_first : (a b : Bool) → (a || b) ≡ false → a ≡ false
or_first true b h = h
or_first false b h = refl

or_second : (a b : Bool) → (a || b) ≡ false → b ≡ false
or_second true b h = cc
or_second false b h = h

and_true_false : (a : Bool) → (a && true) ≡ false → a ≡ false
and_true_false true h = h
and_true_false false h = refl

true_false : {b : Bool} → b ≡ true → b ≡ false → ⊥
true_false is isnt = let no : true ≡ false = sym is ∙ isnt in cc

-- what holds at an `Err`
pub match_err : {A B : Type 0} (result : Result A B) (P : B → Type 0) (Q : A → Type 0) (R : Type 0) → IsErrAnd result P → R → MatchResult result Q (λ _. R)
match_err (Ok a) P Q R h r = absurd h
match_err (Err e) P Q R h r = r

-- what is left needs more bytes where what it comes to needs them
pub needs_on : (a b : Left) → Continues a b → NeedsMore b → NeedsMore a
needs_on a b on needs =
    let first : nat_lt b.room (length b.input) ≡ false = or_first _ _ needs in
    let within : length b.input ≤ b.room = grind (arith, nat_tests, first) in
    let here : length a.input ≤ a.room = omega (arith, on.room, within) in
    or_false (nat_lt a.room (length a.input)) (has_item (whole_of a)) (grind (arith, nat_tests, here)) (ap has_item on.whole ∙ or_second _ _ needs)

-- nothing at hand needs more
pub empty_needs : (n : ℕ) (p : Place) (begun : List ℕ) (room : ℕ) (input : List ℕ) → input ≡ [] → NeedsMore (left_at n p begun room (input ++ []))
empty_needs n p begun room input none =
    let within : 0 ≤ room = omega arith in
    let P : List ℕ → Type 0 = λ l. NeedsMore (left_at n p begun room (l ++ [])) in
    subst P (sym none) (or_false (nat_lt room 0) (has_item (items_from no_items n p begun (take room []))) (grind (arith, nat_tests, within))
    (ap (λ (l : List ℕ). has_item (items_from no_items n p begun l)) (take_all room [] (omega arith))))

-- a window that has looked at all its bytes needs more
pub looked_needs : (n : ℕ) (w : Window) → IsSound w → left_of w ≡ [] → NeedsMore (left_at n Between [] (room_of w) (ahead_of w ++ []))
looked_needs n w sound looked =
    let P : List ℕ → Type 0 = λ l. NeedsMore (left_at n Between [] (room_of w) l) in
    subst P (sym (append-nil (ahead_of w))) (or_false (nat_lt (room_of w) (length (ahead_of w))) (has_item (whole_items n (take (room_of w) (ahead_of w))))
    (none_at_hand_within w sound n looked) (ap has_item (none_at_hand w sound n looked)))

module _ {T : Type 0} (reads : T → T → List ℕ → Type 0) where
  pub asks_none : (Needs : List ℕ → Type 0) (rests : Bool) (a c : T) → c ≡ a → Asks reads Needs rests a c
  asks_none Needs rests a c same = record { made = []; needed = same; rest = λ none. absurd cc }

  pub asks_once : (Needs : List ℕ → Type 0) (rests : Bool) (a c : T) (bytes : List ℕ) → Needs [] → reads a c bytes → (nat_lt 0 (length bytes) ≡ false → rests ≡ true)
      → Asks reads Needs rests a c
  asks_once Needs rests a c bytes needs read rest =
      record { made = (a, bytes) ∷ []; needed = (refl, ((needs, refl), read)); rest = λ none. rest (and_true_false (nat_lt 0 (length bytes)) none) }

  pub asks_at_most_once : (Needs : List ℕ → Type 0) (a c : T) → Needs [] → (c ≡ a) ⊎ reads a c [] → Asks reads Needs true a c
  asks_at_most_once Needs a c needs (inl same) = asks_none Needs true a c same
  asks_at_most_once Needs a c needs (inr read) = asks_once Needs true a c [] needs read (λ none. refl)

  pub needed_weaker : (M N : List ℕ → Type 0) (made : List (T × List ℕ)) (a c : T) → ((given : List ℕ) → M given → N given)
      → AreNeeded reads M made a c → AreNeeded reads N made a c
  needed_weaker M N [] a c f same = same
  needed_weaker M N (read ∷ before) a c f x = (needed_weaker M N before a read.0 f x.0, ((f (given_by before) x.1.0.0, x.1.0.1), x.1.1))

  pub asks_weaker : (M N : List ℕ → Type 0) (old new : Bool) (a c : T) → ((given : List ℕ) → M given → N given) → (old ≡ true → new ≡ true) → Asks reads M old a c
      → Asks reads N new a c
  asks_weaker M N old new a c f more asks = record { made = asks.made; needed = needed_weaker M N asks.made a c f asks.needed; rest = λ none. more (asks.rest none) }

  given_then : (then first : List (T × List ℕ)) → given_by (then ++ first) ≡ given_by first ++ given_by then
  given_then [] first = sym (append-nil (given_by first))
  given_then (read ∷ before) first =
      ap (λ (l : List ℕ). l ++ read.1) (given_then before first) ∙ append_assoc (given_by first) (given_by before) read.1

  gave_then : (then first : List (T × List ℕ)) → all_gave first ≡ true → all_gave (then ++ first) ≡ all_gave then
  gave_then [] first gave = gave
  gave_then (read ∷ before) first gave = ap (λ (b : Bool). nat_lt 0 (length read.1) && b) (gave_then before first gave)

  -- reads behind others
  needed_then : (M N : List ℕ → Type 0) (first then : List (T × List ℕ)) (a b c : T) → ((given : List ℕ) → M given → N (given_by first ++ given))
      → all_gave first ≡ true → AreNeeded reads N first a b → AreNeeded reads M then b c → AreNeeded reads N (then ++ first) a c
  needed_then M N first [] a b c f gave x same = let P : T → Type 0 = λ t. AreNeeded reads N first a t in subst P (sym same) x
  needed_then M N first (read ∷ before) a b c f gave x y = (
    needed_then M N first before a b read.0 f gave x y.0,
    ((subst N (sym (given_then before first)) (f (given_by before) y.1.0.0), gave_then before first gave ∙ y.1.0.1), y.1.1),
  )

  pub gathers_none : (l : List ℕ → Left) (a : T) → Gathers reads l l a a
  gathers_none l a = record { made = []; needed = refl; gave = refl; on = λ rest. record { items = refl; whole = refl; room = refl } }

  pub gathers_once : (old new : List ℕ → Left) (a c : T) (bytes : List ℕ) → NeedsMore (old []) → reads a c bytes → 0 < length bytes
      → ((rest : List ℕ) → Continues (old (bytes ++ rest)) (new rest)) → Gathers reads old new a c
  gathers_once old new a c bytes needs read some on =
      record { made = (a, bytes) ∷ []; needed = (refl, ((needs, refl), read)); gave = grind (arith, nat_tests, some); on = on }

  -- the reads alone
  pub gathers_asks : (old new : List ℕ → Left) (rests : Bool) (a c : T) → Gathers reads old new a c → Asks reads (λ given. NeedsMore (old given)) rests a c
  gathers_asks old new rests a c g = record { made = g.made; needed = g.needed; rest = λ none. absurd (true_false g.gave none) }

  -- the same are left without a read
  pub gathers_on : (old mid new : List ℕ → Left) (a c : T) → Gathers reads old mid a c → ((rest : List ℕ) → Continues (mid rest) (new rest))
      → Gathers reads old new a c
  gathers_on old mid new a c g on =
      record { made = g.made; needed = g.needed; gave = g.gave; on = λ rest. continues_trans _ _ _ (g.on rest) (on rest) }

  pub gathers_then_asks : (old mid : List ℕ → Left) (rests : Bool) (a b c : T) → Gathers reads old mid a b → Asks reads (λ given. NeedsMore (mid given)) rests b c
      → Asks reads (λ given. NeedsMore (old given)) rests a c
  gathers_then_asks old mid rests a b c g asks =
      record {
        made = asks.made ++ g.made;
        needed = needed_then (λ given. NeedsMore (mid given)) (λ given. NeedsMore (old given)) g.made asks.made a b c
            (λ given. needs_on (old (given_by g.made ++ given)) (mid given) (g.on given)) g.gave g.needed asks.needed;
        rest = λ none. asks.rest (sym (gave_then asks.made g.made g.gave) ∙ none);
      }

  -- an item is taken of what was gathered, or the input has ended
  pub gathers_gets : (old mid new : List ℕ → Left) (item : Item) (rests : Bool) (a c : T) → Gathers reads old mid a c → ((rest : List ℕ) → Takes (mid rest) item (new rest)) → Gets reads old item new rests a c
  gathers_gets old mid new item rests a c g takes =
      record { made = g.made; needed = g.needed; rest = λ none. absurd (true_false g.gave none); takes = λ on rest. continues_takes _ _ _ item (g.on rest) (takes rest) }

  pub gets_over : (old new : List ℕ → Left) (item : Item) (rests : Bool) (a c : T) → rests ≡ true → Asks reads (λ given. NeedsMore (old given)) rests a c → Gets reads old item new rests a c
  gets_over old new item rests a c over asks = record { made = asks.made; needed = asks.needed; rest = asks.rest; takes = λ on rest. absurd (true_false over on) }

  pub gets_asks : (old new : List ℕ → Left) (item : Item) (rests : Bool) (a c : T) → Gets reads old item new rests a c → Asks reads (λ given. NeedsMore (old given)) rests a c
  gets_asks old new item rests a c gets = record { made = gets.made; needed = gets.needed; rest = gets.rest }

  pub gathers_then_gets : (old mid new : List ℕ → Left) (item : Item) (rests : Bool) (a b c : T) → Gathers reads old mid a b → Gets reads mid item new rests b c → Gets reads old item new rests a c
  gathers_then_gets old mid new item rests a b c g h =
      record {
        made = h.made ++ g.made;
        needed = needed_then (λ given. NeedsMore (mid given)) (λ given. NeedsMore (old given)) g.made h.made a b c
            (λ given. needs_on (old (given_by g.made ++ given)) (mid given) (g.on given)) g.gave g.needed h.needed;
        rest = λ none. h.rest (sym (gave_then h.made g.made g.gave) ∙ none);
        takes = λ on rest.
            let all : given_by (h.made ++ g.made) ++ rest ≡ given_by g.made ++ (given_by h.made ++ rest) =
            ap (λ (l : List ℕ). l ++ rest) (given_then h.made g.made) ∙ append_assoc (given_by g.made) (given_by h.made) rest in
            let P : List ℕ → Type 0 = λ l. Takes (old l) item (new rest) in
            subst P (sym all) (continues_takes _ _ _ item (g.on (given_by h.made ++ rest)) (h.takes on rest));
      }

  pub gathers_then : (old mid new : List ℕ → Left) (a b c : T) → Gathers reads old mid a b → Gathers reads mid new b c → Gathers reads old new a c
  gathers_then old mid new a b c g h =
      record {
        made = h.made ++ g.made;
        needed = needed_then (λ given. NeedsMore (mid given)) (λ given. NeedsMore (old given)) g.made h.made a b c
            (λ given. needs_on (old (given_by g.made ++ given)) (mid given) (g.on given)) g.gave g.needed h.needed;
        gave = gave_then h.made g.made g.gave ∙ h.gave;
        on = λ rest.
            let all : given_by (h.made ++ g.made) ++ rest ≡ given_by g.made ++ (given_by h.made ++ rest) =
            ap (λ (l : List ℕ). l ++ rest) (given_then h.made g.made) ∙ append_assoc (given_by g.made) (given_by h.made) rest in
            let P : List ℕ → Type 0 = λ l. Continues (old l) (new rest) in
            subst P (sym all) (continues_trans _ _ _ (g.on (given_by h.made ++ rest)) (h.on rest));
      }

  pub gathers_then_asked : (old mid new : List ℕ → Left) (rests : Bool) (result : Result (Option Item) InputFault) (a b c : T) → Gathers reads old mid a b
      → Asked reads mid new rests result b c → Asked reads old new rests result a c
  gathers_then_asked old mid new rests (Ok None) a b c g h = gathers_then old mid new a b c g h
  gathers_then_asked old mid new rests (Ok (Some i)) a b c g h = gathers_then_gets old mid new i rests a b c g h
  gathers_then_asked old mid new rests (Err e) a b c g h = gathers_then_asks old mid true a b c g h

  -- what a call that failed asked for
  pub asked_err : (old new : List ℕ → Left) (rests : Bool) (result : Result (Option Item) InputFault) (a c : T) (P : InputFault → Type 0) → IsErrAnd result P
      → Asks reads (λ given. NeedsMore (old given)) true a c → Asked reads old new rests result a c
  asked_err old new rests (Ok item) a c P h asks = absurd h
  asked_err old new rests (Err e) a c P h asks = asks

  pub asked_some : (old new : List ℕ → Left) (rests : Bool) (item : Option Item) (i : Item) (a c : T) → item ≡ Some i → Asked reads old new rests (Ok item) a c
      → Gets reads old i new rests a c
  asked_some old new rests None i a c is g = absurd cc
  asked_some old new rests (Some j) i a c is gets = let same : j ≡ i = cc in subst (λ (x : Item). Gets reads old x new rests a c) same gets

  pub asked_none : (old new : List ℕ → Left) (rests : Bool) (item : Option Item) (a c : T) → item ≡ None → Asked reads old new rests (Ok item) a c
      → Gathers reads old new a c
  asked_none old new rests None a c is g = g
  asked_none old new rests (Some i) a c is gets = absurd cc
