use Rattle.std.proofs.Common.{◌≡◌, true, List, sym, ap, subst, ◌∙◌}
use Rattle.hs_values.specs.declared.value.Value.{Value}
use Rattle.hs_index.specs.Keys.{key_in, has_null}
use Rattle.hs_index.specs.Rows.{Takes}
use Rattle.hs_index.proofs.Indexed.{index_take, index_take_null}
use Rattle.hs_keyed.proofs.indexes.KeyIndex.take.Goals as goal

pub returns-then-has_gap-clause-ok : goal.returns-then-has_gap-clause-ok
returns-then-has_gap-clause-ok c =
    let null : has_null (key_in c.args.self.now.columns c.args.values.now) ≡ true = ap (λ columns. has_null (key_in columns c.args.values.now)) (sym c.as_slice.ensures) ∙ sym c.has_gap.ensures ∙ c.if-has_gap.true in
    λ rows there is. index_take_null c.args.self.now.columns rows c.args.self.now.index is c.args.values.now c.args.row there null

pub returns-clause-ok : goal.returns-clause-ok
returns-clause-ok c =
    let own : c.in_ok-key.key ≡ key_in c.args.self.now.columns c.args.values.now = c.in_ok-key.ensures ∙ ap (λ columns. key_in columns c.args.values.now) c.as_slice-2.ensures in
    λ rows there is. index_take c.args.self.now.columns rows c.args.self.now.index is c.args.values.now c.args.row there c.remove.new.self c.remove.ensures.ascending
    (subst (λ (key : List Value). Takes c.args.self.now.index c.remove.new.self key c.args.row) own c.remove.ensures.taken)
