use Rattle.std.proofs.Common.{◌≡◌, true, false, List, sym, ap, subst, ◌∙◌}
use Rattle.std.proofs.lemmas.Result.{on_ok_weaker}
use Rattle.hs_values.specs.declared.value.Value.{Value}
use Rattle.hs_index.specs.Keys.{key_in, has_null}
use Rattle.hs_index.specs.Rows.{Puts}
use Rattle.hs_index.proofs.Indexed.{index_put, index_put_null}
use Rattle.hs_keyed.proofs.indexes.KeyIndex.put.Goals as goal

pub returns-then-has_gap-clause-ok : goal.returns-then-has_gap-clause-ok
returns-then-has_gap-clause-ok c =
    let null : has_null (key_in c.args.self.now.columns c.args.values.now) ≡ true = ap (λ columns. has_null (key_in columns c.args.values.now)) (sym c.as_slice.ensures) ∙ sym c.has_gap.ensures ∙ c.if-has_gap.true in
    λ rows none is. index_put_null c.args.self.now.columns rows c.args.self.now.index is c.args.values.now c.args.row none null

pub returns-clause-ok : goal.returns-clause-ok
returns-clause-ok c =
    let full : has_null (key_in c.args.self.now.columns c.args.values.now) ≡ false = ap (λ columns. has_null (key_in columns c.args.values.now)) (sym c.as_slice.ensures) ∙ sym c.has_gap.ensures ∙ c.if-has_gap.false in
    let own : c.in_ok-key.key ≡ key_in c.args.self.now.columns c.args.values.now = c.in_ok-key.ensures ∙ ap (λ columns. key_in columns c.args.values.now) c.as_slice-2.ensures in
    on_ok_weaker c.insert.result
    (λ puts rows none is. index_put c.args.self.now.columns rows c.args.self.now.index is c.args.values.now c.args.row c.insert.new.self none full
    (subst (λ (key : List Value). Puts c.args.self.now.index c.insert.new.self key c.args.row) own puts))
    c.insert.ensures.ok
