-- How a turn goes on with what is ahead of a run.
use Rattle.std.proofs.Common.{◌≡◌, ◌+◌, List, [], ◌∷◌, length, refl, sym, ap, ◌∙◌, arith, length-append}
use Rattle.std.specs.Prelude.{None, Some}
use Rattle.hs_entries.specs.declared.item.Item.{Item}
use Rattle.hs_run.specs.declared.gathered.Gathered.{Gathered}
use Rattle.hs_run.specs.Future.{ClosesOn, Counts, Future, StepsOn, TakesOn}
use Rattle.hs_run.specs.Pieces.{Piece}
use Rattle.hs_seams.specs.World.{World, texts_since}
use Rattle.hs_turns.specs.Machine.{Machine}
use Rattle.hs_turns.specs.Turns.{Turned}
use Rattle.hs_futures.specs.Futures.{Gathers, Rests, Stirs, ahead, ends, future_of, over, over_turned, piece_of, takes, turns}
use Rattle.hs_futures.proofs.Ahead.{ahead_first, ahead_none, all_ahead, at_rest_first, at_rest_none, goes_on, rest_first, rest_none, stops}
use Rattle.hs_futures.proofs.Texts.{length-added}

module _ (w : World) (At : Future → Type 0) (m : Machine) (t : Turned) (old new : Gathered) (g : Gathers w m t old new) (at : At (future_of w t.next)) where
  counted : Counts (future_of w m) (future_of w t.next) old new
  unfolding future_of
  counted = omega (arith, length-added w m.history.commits g.more t.next.history.commits g.commits, ap length g.made, length-append old.made (texts_since w m.history.commits t.next.history.commits))

  pub steps_on : Stirs w m t → StepsOn At (future_of w m) old new
  unfolding future_of
  steps_on s = record {
    next = future_of w t.next;
    at = at;
    piece = λ items. record { piece = piece_of w m t; is = rest_first w (over items m) (over_turned items t) (goes_on w (over items m) (over_turned items t) (s.goes items) (s.is items)); told = g.told; made = g.made };
    closing = λ items. ap (ahead w) (sym (at_rest_first w (over items m) (over_turned items t) (goes_on w (over items m) (over_turned items t) (s.goes items) (s.is items))));
    commits = counted;
  }

  pub takes_on : (i : Item) → Rests w m → takes w i m ≡ t → TakesOn At (future_of w m) i old new
  unfolding future_of
  takes_on i r is = record {
    next = future_of w t.next;
    at = at;
    piece = λ items. record {
      piece = piece_of w m t;
      is = rest_first w (over (i ∷ items) m) (over_turned items t) (goes_on w (over (i ∷ items) m) (over_turned items t) (r.goes i items) (r.taken i items ∙ ap (λ (x : Turned). Some (over_turned items x)) is));
      told = g.told;
      made = g.made;
    };
    closing = λ items. ap (ahead w) (sym (at_rest_first w (over (i ∷ items) m) (over_turned items t) (goes_on w (over (i ∷ items) m) (over_turned items t) (r.goes i items) (r.taken i items ∙ ap (λ (x : Turned). Some (over_turned items x)) is))));
    commits = counted;
  }

  bare : (n : Machine) → n.unread ≡ [] → over [] n ≡ n
  bare n none = ap (λ (items : List Item). over items n) (sym none)

  pub closes_on : Rests w m → m.unread ≡ [] → t.next.unread ≡ [] → ends w m ≡ Some t → ClosesOn At (future_of w m) old new
  unfolding future_of
  closes_on r none none_next is = record {
    next = future_of w t.next;
    at = at;
    piece = record {
      piece = piece_of w m t;
      is =
          ap (ahead w) (at_rest_none w (over [] m) (stops w (over [] m) r.rests_)) ∙ ap (ahead w) (bare m none)
          ∙ ahead_first w m t (sym (ap (turns w) (bare m none)) ∙ r.ended ∙ ap (ends w) (bare m none) ∙ is)
          ∙ ap (λ (l : List Piece). piece_of w m t ∷ l) (sym (all_ahead w (over [] t.next) ∙ ap (ahead w) (bare t.next none_next)));
      told = g.told;
      made = g.made;
    };
    commits = counted;
  }

-- where no more of the input is needed and none is left, nothing is ahead before the end
pub none_taken : (w : World) (m : Machine) → Rests w m → (future_of w m).taken [] ≡ []
unfolding future_of
none_taken w m r = rest_none w (over [] m) (stops w (over [] m) r.rests_)

-- where nothing comes at the end either, all is over
pub none_closing : (w : World) (m : Machine) → Rests w m → ends w (over [] m) ≡ None → (future_of w m).closing [] ≡ []
unfolding future_of
none_closing w m r is = ap (ahead w) (at_rest_none w (over [] m) (stops w (over [] m) r.rests_)) ∙ ahead_none w (over [] m) (r.ended ∙ is)

pub commits_of : (w : World) (m : Machine) → (future_of w m).commits ≡ w.run.made + length m.history.commits
unfolding future_of
commits_of w m = refl
