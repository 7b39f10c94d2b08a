use Rattle.std.proofs.Common.{◌≡◌, ◌+◌, [], ◌∷◌, ◌++◌, length, ap, sym, subst, ◌∙◌, arith, get_or}
use Rattle.std.proofs.lemmas.List.{length_push}
use Rattle.hs_lookups.specs.Asked.{Asks, AsksOne, Narrows}
use Rattle.hs_lookups.proofs.Asked.{asked_none, asked_next, narrowed}
use Rattle.hs_lookups.proofs.equalities.Equalities.key.Goals as goal

pub loop-column-init : goal.loop-column-init
loop-column-init c = record {
  long = ap length c.in_ok-key.ensures.items;
  asked = λ verdict asked. subst (Asks verdict c.args.columns.now) (sym c.in_ok-key.ensures.items) (asked_none verdict c.args.columns.now);
}

pub loop-column-preserved : goal.loop-column-preserved
loop-column-preserved c =
    let columns = c.args.columns.now in
    let column = get_or columns c.loop-column.column-index 0 in
    let value = c.in_ok-copy-in-Some.field-0 in
    let before = c.loop-column.invariant in
    let pushed : c.push.new.self.items ≡ c.loop-column.key.items ++ value ∷ [] = c.in_ok-push-in-Some.ensures.items in
    record {
      long = ap length pushed ∙ length_push c.loop-column.key.items value ∙ ap (λ n. n + 1) before.long;
      asked = λ verdict asked.
          subst (Asks verdict columns) (sym pushed)
          (asked_next verdict columns c.loop-column.key.items column value (omega arith) (ap (λ n. get_or columns n 0) (sym before.long)) (before.asked verdict asked)
          (subst (AsksOne verdict column) (sym c.in_ok-copy-in-Some.ensures) (c.in-Some.ensures verdict asked)));
    }

pub returns : goal.returns
returns c = λ verdict asked.
    subst (Narrows verdict c.args.columns.now) (sym c.from_vec.ensures) (narrowed verdict c.args.columns.now c.loop-column.key.items (omega arith) (c.loop-column.invariant.asked verdict asked))
