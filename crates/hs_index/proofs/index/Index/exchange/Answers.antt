use Rattle.std.proofs.Common.{rules, cond, [], Some, inl, inr, sym, ap, subst, ◌∙◌}
use Rattle.std.proofs.lemmas.Map.Steps.{set_value_same}
use Rattle.std.proofs.lemmas.Result.{on_ok_weaker, on_err_weaker}
use Rattle.std.specs.Option.{unwrap_or}
use Rattle.hs_index.specs.Keys.{same_key}
use Rattle.hs_index.specs.RowSets.{IsAscending, with_row, without_row}
use Rattle.hs_index.specs.Rows.{Keyed, list_of, Exchanges}
use Rattle.hs_index.proofs.Stored.{exchanges_from, kept_after_exchange, kept_after_same, ok_or_err}
use Rattle.hs_index.proofs.index.Index.exchange.Goals as goal

pub exchange-requires : goal.exchange-requires
exchange-requires c = subst IsAscending (ap (λ o. unwrap_or o []) (sym c.in-Some.ensures.value)) (c.self.invariant.ascending c.args.key)

pub invariant_of-self : goal.invariant_of-self
invariant_of-self c =
    let old = c.self.inside.lists.entries in
    let new = (c.get_mut.follows.lender c.exchange.new.self).entries in
    let up = (c.get_mut.follows.holds c.exchange.new.self).3 (search rules) in
    elim (ok_or_err c.exchange.result c.exchange.ensures.ok c.exchange.ensures.err) [
      | inl more ↦ kept_after_exchange old new c.args.key c.args.from c.args.to c.exchange.new.self c.self.invariant up.0 (more ∙ ap (λ o. with_row c.args.to (without_row c.args.from (unwrap_or o []))) c.in-Some.ensures.value)
      | inr same ↦ kept_after_same old new c.args.key c.exchange.new.self c.self.invariant up.0 (sym c.in-Some.ensures.value ∙ ap (λ rows. Some rows) (sym same))
    ]

pub returns-in-Some-clause-ok : goal.returns-in-Some-clause-ok
returns-in-Some-clause-ok c =
    let new = (c.get_mut.follows.lender c.exchange.new.self).entries in
    let up = (c.get_mut.follows.holds c.exchange.new.self).3 (search rules) in
    on_ok_weaker c.exchange.result
    (λ more. subst (λ (old : Keyed). Exchanges old new c.args.key c.args.from c.args.to) c.self.view_is
    (exchanges_from c.self.inside.lists.entries new c.args.key c.args.from c.args.to c.exchange.new.self up.0 (more ∙ ap (λ o. with_row c.args.to (without_row c.args.from (unwrap_or o []))) c.in-Some.ensures.value)))
    c.exchange.ensures.ok

pub returns-in-Some-clause-err : goal.returns-in-Some-clause-err
returns-in-Some-clause-err c =
    on_err_weaker c.exchange.result
    (λ same. (c.get_mut.follows.holds c.exchange.new.self).0 ∙ set_value_same (same_key c.args.key) c.self.inside.lists.entries c.exchange.new.self (sym c.in-Some.ensures.value ∙ ap (λ rows. Some rows) (sym same)) ∙ c.self.view_is)
    c.exchange.ensures.err

pub invariant_of-self-2 : goal.invariant_of-self-2
invariant_of-self-2 c =
    let list = c.of.result in
    kept_after_exchange c.self.inside.lists.entries c.insert.new.self.entries c.args.key c.args.from c.args.to list c.self.invariant
    (λ k. c.in_ok-insert.ensures.updates.0 k ∙ ap (λ (m : _). cond (same_key c.args.key k) (Some list) (list_of m.entries k)) c.get_mut.follows.holds-at-none)
    (c.of.ensures ∙ ap (λ o. with_row c.args.to (without_row c.args.from (unwrap_or o []))) c.in_default.ensures.value)

pub returns-clause-ok : goal.returns-clause-ok
returns-clause-ok c =
    let list = c.of.result in
    subst (λ (old : Keyed). Exchanges old c.insert.new.self.entries c.args.key c.args.from c.args.to) c.self.view_is
    (exchanges_from c.self.inside.lists.entries c.insert.new.self.entries c.args.key c.args.from c.args.to list
    (λ k. c.in_ok-insert.ensures.updates.0 k ∙ ap (λ (m : _). cond (same_key c.args.key k) (Some list) (list_of m.entries k)) c.get_mut.follows.holds-at-none)
    (c.of.ensures ∙ ap (λ o. with_row c.args.to (without_row c.args.from (unwrap_or o []))) c.in_default.ensures.value))
