use Rattle.std.proofs.Common.{◌≡◌, ℕ, ◌+◌, List, [], ◌∷◌, ◌++◌, map, ap, sym, ◌∙◌, subst}
use Rattle.std.specs.Prelude.{slice_set}
use Rattle.std.proofs.lemmas.List.{map_push}
use Rattle.hs_turns.specs.Each.{Each}
use Rattle.hs_queue.specs.Entries.{queued_of}
use Rattle.hs_queue.specs.Lanes.{Queued}
use Rattle.hs_queue.specs.declared.lanes.Ticketed.{Ticketed}
use Rattle.hs_queue.proofs.Held.{at_place, each_at, few_at, of_place, put}
use Rattle.hs_queue.proofs.Lists.{each_of}
use Rattle.hs_queue.proofs.lanes.Lanes.push_at.Goals as goal

abbrev Own : ℕ → Queued → Type 0
Own place entry = entry.entry.session ≡ place + 1

pub invariant_of-self : goal.invariant_of-self
invariant_of-self c =
    let of : Each (Own c.args.at) (map queued_of c.index_mut-list.result.now.items) = of_place (λ l. map queued_of l.items) c.self.inside.lists.items c.args.self.now c.self.view_is c.args.at c.requires.within Own c.index_mut-list.result.now c.index_mut-list.ensures.value c.self.invariant.0 in (
      each_at (λ l. map queued_of l.items) c.self.inside.lists.items c.args.self.now c.self.view_is c.args.at c.requires.within Own c.push_back.new.self c.self.invariant.0
          (subst (λ (l : List Ticketed). Each (Own c.args.at) (map queued_of l)) (sym c.in_err-push_back.ensures.items) of),
      few_at (λ l. map queued_of l.items) c.self.inside.lists.items c.args.self.now c.self.view_is c.args.at c.requires.within c.push_back.new.self c.self.invariant.1,
    )

pub invariant_of-self-2 : goal.invariant_of-self-2
invariant_of-self-2 c =
    let old = c.index_mut-list.result.now in
    let of : Each (Own c.args.at) (map queued_of old.items) = of_place (λ l. map queued_of l.items) c.self.inside.lists.items c.args.self.now c.self.view_is c.args.at c.requires.within Own old c.index_mut-list.ensures.value c.self.invariant.0 in
    let now : map queued_of c.push_back.new.self.items ≡ map queued_of old.items ++ queued_of c.args.entry ∷ [] = ap (map queued_of) c.in_ok-push_back.ensures.items ∙ map_push queued_of old.items c.args.entry in (
      each_at (λ l. map queued_of l.items) c.self.inside.lists.items c.args.self.now c.self.view_is c.args.at c.requires.within Own c.push_back.new.self c.self.invariant.0
          (subst (λ (l : List Queued). Each (Own c.args.at) l) (sym now) (each_of (map queued_of old.items) (queued_of c.args.entry) (Own c.args.at) of c.requires.own)),
      few_at (λ l. map queued_of l.items) c.self.inside.lists.items c.args.self.now c.self.view_is c.args.at c.requires.within c.push_back.new.self c.self.invariant.1,
    )

pub returns-clause-ok : goal.returns-clause-ok
returns-clause-ok c =
    let old = c.index_mut-list.result.now in
    let now : map queued_of c.push_back.new.self.items ≡ map queued_of old.items ++ queued_of c.args.entry ∷ [] = ap (map queued_of) c.in_ok-push_back.ensures.items ∙ map_push queued_of old.items c.args.entry in
    put (λ l. map queued_of l.items) c.self.inside.lists.items c.args.self.now c.self.view_is c.args.at c.requires.within c.push_back.new.self
    ∙ ap (λ (l : List Queued). slice_set c.args.self.now c.args.at l) (now ∙ ap (λ (l : List Queued). l ++ queued_of c.args.entry ∷ []) (sym (at_place (λ l. map queued_of l.items) c.self.inside.lists.items c.args.self.now c.self.view_is c.args.at c.requires.within old c.index_mut-list.ensures.value)))
