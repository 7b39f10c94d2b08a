use Rattle.std.proofs.Common.{◌≡◌, ℕ, ◌+◌, List, [], ◌++◌, map, ap, sym, ◌∙◌, subst}
use Rattle.std.specs.Prelude.{option_to_list}
use Rattle.hs_turns.specs.Each.{Each}
use Rattle.hs_queue.specs.Entries.{queued_of}
use Rattle.hs_queue.specs.Lanes.{Queued}
use Rattle.hs_queue.proofs.Held.{at_place, each_at, empty_by, few_at, none_of, of_place, put, put_same, rest_each, some_front, some_of}
use Rattle.hs_queue.proofs.lanes.Lanes.pop_at.Goals as goal

abbrev Own : ℕ → Queued → Type 0
Own place entry = entry.entry.session ≡ place + 1

pub invariant_of-self : goal.invariant_of-self
invariant_of-self c =
    let of : Each (Own c.args.at) (map queued_of c.index_mut-list.result.now.items) = of_place (λ l. map queued_of l.items) c.self.inside.lists.items c.args.self.now c.self.view_is c.args.at c.requires Own c.index_mut-list.result.now c.index_mut-list.ensures.value c.self.invariant.0 in (
      each_at (λ l. map queued_of l.items) c.self.inside.lists.items c.args.self.now c.self.view_is c.args.at c.requires Own c.pop_front.new.self c.self.invariant.0
          (rest_each (Own c.args.at) c.pop_front.result c.index_mut-list.result.now.items c.pop_front.new.self.items c.pop_front.ensures.items of),
      few_at (λ l. map queued_of l.items) c.self.inside.lists.items c.args.self.now c.self.view_is c.args.at c.requires c.pop_front.new.self c.self.invariant.1,
    )

pub returns-clause-none : goal.returns-clause-none
returns-clause-none c =
    let old = c.index_mut-list.result.now in
    none_of c.pop_front.result _ (λ e.
    let none : old.items ≡ [] = empty_by old.items old.len c.pop_front.result old.ok.0 c.pop_front.ensures.variant.1 e in
    let rest : c.pop_front.new.self.items ≡ [] = sym (c.pop_front.ensures.items ∙ ap (λ r. option_to_list r ++ c.pop_front.new.self.items) e) ∙ none in (
      at_place (λ l. map queued_of l.items) c.self.inside.lists.items c.args.self.now c.self.view_is c.args.at c.requires old c.index_mut-list.ensures.value ∙ ap (map queued_of) none,
      put_same (λ l. map queued_of l.items) c.self.inside.lists.items c.args.self.now c.self.view_is c.args.at c.requires old c.pop_front.new.self c.index_mut-list.ensures.value (ap (map queued_of) (rest ∙ sym none)),
    ))

pub returns-clause-some : goal.returns-clause-some
returns-clause-some c =
    let old = c.index_mut-list.result.now in
    some_of c.pop_front.result _ (λ x e. record {
      rest = map queued_of c.pop_front.new.self.items;
      was = at_place (λ l. map queued_of l.items) c.self.inside.lists.items c.args.self.now c.self.view_is c.args.at c.requires old c.index_mut-list.ensures.value ∙ some_front x old.items c.pop_front.new.self.items c.pop_front.result c.pop_front.ensures.items e;
      now = put (λ l. map queued_of l.items) c.self.inside.lists.items c.args.self.now c.self.view_is c.args.at c.requires c.pop_front.new.self;
    })

pub returns-clause-own : goal.returns-clause-own
returns-clause-own c =
    let old = c.index_mut-list.result.now in
    let of : Each (Own c.args.at) (map queued_of old.items) = of_place (λ l. map queued_of l.items) c.self.inside.lists.items c.args.self.now c.self.view_is c.args.at c.requires Own old c.index_mut-list.ensures.value c.self.invariant.0 in
    some_of c.pop_front.result _ (λ x e. (subst (λ (l : List Queued). Each (Own c.args.at) l) (some_front x old.items c.pop_front.new.self.items c.pop_front.result c.pop_front.ensures.items e) of).0)
