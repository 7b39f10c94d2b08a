use Rattle.std.proofs.Common.{◌≡◌, None, [], ◌∷◌, ◌++◌, sym, ap, subst, append_assoc, ◌∙◌}
use Rattle.std.proofs.lemmas.List.{append-nil}
use Rattle.std.proofs.lemmas.Map.Iter.{rest_more, rest_all}
use Rattle.std.specs.FinMap.{get, insert}
use Rattle.std.specs.List.Sorted.{IsStrictlySortedBy}
use Rattle.std.specs.Map.{keys_of}
use Rattle.std.specs.Map.Iter.{deref_pair}
use Rattle.std.specs.Ordering.{nat_cmp}
use Rattle.hs_index.specs.Table.{Rows}
use Rattle.hs_keyed.specs.Kept.{rows_of}
use Rattle.hs_keyed.proofs.Stored.{Entries, new_number, rows_pushed}
use Rattle.hs_keyed.proofs.copying.copied.Goals as goal

pub loop-number-init : goal.loop-number-init
loop-number-init c = record {
  front = [];
  all = c.into_iter-number-iterator.ensures.into_iter_gives.0;
  so_far = ap rows_of c.new-made.ensures.empty;
}

pub loop-number-preserved : goal.loop-number-preserved
loop-number-preserved c =
    let before = c.loop-number.invariant in
    let front : Entries = before.front in
    let n = c.in-Some.number.now in
    let row = c.in-Some.row.now in
    let rest = c.next.new.self in
    let entry : Entries = (n, row) ∷ [] in
    let head : c.loop-number.number-iterator ≡ (n, row) ∷ rest = rest_more deref_pair c.loop-number.number-iterator rest c.next.result (c.in-Some.number, c.in-Some.row) c.in-Some.is c.next.ensures.steps in
    let all : front ++ (n, row) ∷ rest ≡ c.args.rows.now.entries = ap (λ (es : Entries). front ++ es) (sym head) ∙ before.all in
    let new : get (rows_of front) n ≡ None = new_number front n row rest (subst (λ (es : Entries). IsStrictlySortedBy nat_cmp (keys_of es)) (sym all) c.into_iter-number-iterator.ensures.into_iter_gives.5) in
    record {
      front = front ++ entry;
      all = append_assoc front entry rest ∙ all;
      so_far =
          c.in_ok-put_copy.ensures
          ∙ ap (λ (m : Rows). insert m n row) before.so_far
          ∙ sym (rows_pushed front n row new);
    }

pub returns : goal.returns
returns c =
    let before = c.loop-number.invariant in
    let none : c.loop-number.number-iterator ≡ [] = rest_all deref_pair c.loop-number.number-iterator c.next.new.self c.next.result c.in-None.is c.next.ensures.steps in
    before.so_far ∙ ap rows_of (sym (append-nil before.front) ∙ ap (λ (es : Entries). before.front ++ es) (sym none) ∙ before.all)
