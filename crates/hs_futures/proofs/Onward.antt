-- Turns look at the items that are left only where one is read.
use Rattle.std.proofs.Common.{◌≡◌, ℕ, ◌+◌, Bool, true, false, List, [], ◌∷◌, length, refl, sym, ap, ◌∙◌}
use Rattle.std.specs.Prelude.{Option, None, Some, if◌then◌else◌, codes, nat_lt}
use Rattle.hs_entries.specs.declared.item.Item.{Item}
use Rattle.hs_entries.specs.declared.item.Item.TheVariants as item
use Rattle.hs_schema.specs.Catalogue.{Text}
use Rattle.hs_sessions.specs.Book.{number_from}
use Rattle.hs_seams.specs.World.{World}
use Rattle.hs_sides.specs.Sides.{attempted, in_place, side_of}
use Rattle.hs_sides.proofs.Alone.{its_own}
use Rattle.hs_turns.specs.Attempts.{Attempt, present}
use Rattle.hs_turns.specs.Dialect.{refused_words}
use Rattle.hs_turns.specs.Lines.{OfItem, Replies}
use Rattle.hs_turns.specs.Machine.{Machine, with_session}
use Rattle.hs_turns.specs.Turns.{Turned, admits, after_pass, begins, begun_by, from_input, from_queue, in_pass, of_session, quietly, ready_among, retried_by, retries, whole_text}
use Rattle.hs_turns.specs.Waiting.{Entry, is_waiting}
use Rattle.hs_futures.specs.Futures.{Rests, Stirs, attempts, ends, is_empty, over, over_turned, rests, rests_after, rests_by, rests_in, takes, turns}

module _ (w : World) where
  abbrev pub tried : Bool → Entry → Machine → Attempt
  tried is_first entry m = attempted w.run m.names is_first entry (side_of m)

  pub begins_is : (entry : Entry) (m : Machine) → begins w.run.dialect w.run.opening w.run.made entry m ≡ begun_by (tried true entry m).final entry (in_place m (tried true entry m))
  begins_is entry m = ap (λ (a : Attempt). begun_by a.final entry a) (its_own w.run true entry m)

  pub retries_is : (entry : Entry) (m : Machine) → retries w.run.dialect w.run.opening w.run.made entry m ≡ retried_by (tried false entry m).final entry (in_place m (tried false entry m))
  retries_is entry m = ap (λ (a : Attempt). retried_by a.final entry a) (its_own w.run false entry m)

  begun_over : (b : Bool) (items : List Item) (entry : Entry) (m : Machine) (a : Attempt) → begun_by b entry (in_place (over items m) a) ≡ over_turned items (begun_by b entry (in_place m a))
  begun_over true items entry m a = refl
  begun_over false items entry m a = refl

  retried_over : (b : Bool) (items : List Item) (entry : Entry) (m : Machine) (a : Attempt) → retried_by b entry (in_place (over items m) a) ≡ over_turned items (retried_by b entry (in_place m a))
  retried_over true items entry m a = refl
  retried_over false items entry m a = refl

  begins_over : (items : List Item) (entry : Entry) (m : Machine) → begins w.run.dialect w.run.opening w.run.made entry (over items m) ≡ over_turned items (begins w.run.dialect w.run.opening w.run.made entry m)
  begins_over items entry m =
      let a = tried true entry m in
      begins_is entry (over items m) ∙ begun_over a.final items entry m a ∙ sym (ap (over_turned items) (begins_is entry m))

  pub attempts_over : (is_first : Bool) (items : List Item) (entry : Entry) (m : Machine) → attempts w is_first entry (over items m) ≡ over_turned items (attempts w is_first entry m)
  unfolding attempts
  attempts_over true items entry m = begins_over items entry m
  attempts_over false items entry m =
      let a = tried false entry m in
      retries_is entry (over items m) ∙ retried_over a.final items entry m a ∙ sym (ap (over_turned items) (retries_is entry m))

  -- ---- items

  admits_over : (b : Bool) (items : List Item) (entry : Entry) (m : Machine) → admits w.run.dialect w.run.opening w.run.made b entry (over items m) ≡ over_turned items (admits w.run.dialect w.run.opening w.run.made b entry m)
  admits_over true items entry m = refl
  admits_over false items entry m = begins_over items entry m

  either_over : (b : Bool) (items : List Item) (x y : Turned) → (if b then over_turned items x else over_turned items y) ≡ over_turned items (if b then x else y)
  either_over true items x y = refl
  either_over false items x y = refl

  session_over : (found : Option ℕ) (number : ℕ) (name statement : Text) (items : List Item) (m : Machine)
      → of_session w.run.dialect w.run.opening w.run.made found number name statement (over items m) ≡ over_turned items (of_session w.run.dialect w.run.opening w.run.made found number name statement m)
  session_over (Some s) number name statement items m = admits_over (is_waiting s m.seen) items (record { number = number; session = s; text = whole_text name statement }) m
  session_over None number name statement items m =
      let entry : Entry = record { number = number; session = length m.names + 1; text = whole_text name statement } in
      let more = with_session name (present w.run.dialect w.run.opening w.run.made m).level m in
      let full : Turned = record { lines = OfItem number name (Replies (refused_words (codes "sessions")) None) ∷ []; next = m } in
      ap (λ (x : Turned). if nat_lt (length m.names) 64 then x else over_turned items full) (begins_over items entry more) ∙ either_over (nat_lt (length m.names) 64) items (begins w.run.dialect w.run.opening w.run.made entry more) full

  takes_over : (items : List Item) (i : Item) (m : Machine) → takes w i (over items m) ≡ over_turned items (takes w i m)
  unfolding takes
  takes_over items (item.Entry number name statement at) m = session_over (number_from 1 name m.names) number name statement items m
  takes_over items (item.Bad number) m = refl
  takes_over items (item.TooLong number) m = refl
  takes_over items item.End m = refl

  -- ---- which turn comes next

  pub stirs_pass : (m : Machine) (entry : Entry) (es : List Entry) → m.pass ≡ entry ∷ es → Stirs w m (attempts w false entry (record m { pass = es }))
  unfolding turns attempts
  stirs_pass m entry es is = record {
    goes = λ items. ap (λ (p : List Entry). rests_in p (over items m)) is;
    is = λ items. ap (λ (p : List Entry). in_pass w.run.dialect w.run.opening w.run.made p (over items m)) is ∙ ap (λ (t : Turned). Some t) (attempts_over false items entry (record m { pass = es }));
  }

  pub stirs_again : (m : Machine) → m.pass ≡ [] → m.again ≡ true → Stirs w m (quietly (record m { seen = []; pass = m.seen; again = false }))
  unfolding turns
  stirs_again m none is = record {
    goes = λ items. ap (λ (p : List Entry). rests_in p (over items m)) none ∙ ap (λ (b : Bool). rests_after b (over items m)) is;
    is = λ items. ap (λ (p : List Entry). in_pass w.run.dialect w.run.opening w.run.made p (over items m)) none ∙ ap (λ (b : Bool). after_pass w.run.dialect w.run.opening w.run.made b (over items m)) is;
  }

  pub stirs_queue : (m : Machine) (entry : Entry) (rest : List Entry) → m.pass ≡ [] → m.again ≡ false → ready_among m.seen m.queue ≡ Some (entry, rest) → Stirs w m (attempts w true entry (record m { queue = rest }))
  unfolding turns attempts
  stirs_queue m entry rest none quiet is = record {
    goes = λ items. ap (λ (p : List Entry). rests_in p (over items m)) none ∙ ap (λ (b : Bool). rests_after b (over items m)) quiet ∙ ap (λ (r : Option (Entry × List Entry)). rests_by r (over items m)) is;
    is = λ items.
        ap (λ (p : List Entry). in_pass w.run.dialect w.run.opening w.run.made p (over items m)) none
        ∙ ap (λ (b : Bool). after_pass w.run.dialect w.run.opening w.run.made b (over items m)) quiet
        ∙ ap (λ (r : Option (Entry × List Entry)). from_queue w.run.dialect w.run.opening w.run.made r (over items m)) is
        ∙ ap (λ (t : Turned). Some t) (attempts_over true items entry (record m { queue = rest }));
  }

  rest_is : (items : List Item) (m : Machine) → m.pass ≡ [] → m.again ≡ false → ready_among m.seen m.queue ≡ None → rests (over items m) ≡ is_empty items
  rest_is items m none quiet is = ap (λ (p : List Entry). rests_in p (over items m)) none ∙ ap (λ (b : Bool). rests_after b (over items m)) quiet ∙ ap (λ (r : Option (Entry × List Entry)). rests_by r (over items m)) is

  input_is : (items : List Item) (m : Machine) → m.pass ≡ [] → m.again ≡ false → ready_among m.seen m.queue ≡ None → turns w (over items m) ≡ from_input w.run.dialect w.run.opening w.run.made items (over items m)
  unfolding turns
  input_is items m none quiet is =
      ap (λ (p : List Entry). in_pass w.run.dialect w.run.opening w.run.made p (over items m)) none
      ∙ ap (λ (b : Bool). after_pass w.run.dialect w.run.opening w.run.made b (over items m)) quiet
      ∙ ap (λ (r : Option (Entry × List Entry)). from_queue w.run.dialect w.run.opening w.run.made r (over items m)) is

  pub at_rest_ : (m : Machine) → m.pass ≡ [] → m.again ≡ false → ready_among m.seen m.queue ≡ None → Rests w m
  unfolding takes ends
  at_rest_ m none quiet is = record {
    rests_ = rest_is [] m none quiet is;
    goes = λ i items. rest_is (i ∷ items) m none quiet is;
    taken = λ i items. input_is (i ∷ items) m none quiet is ∙ ap (λ (t : Turned). Some t) (takes_over items i m);
    ended = input_is [] m none quiet is;
  }
