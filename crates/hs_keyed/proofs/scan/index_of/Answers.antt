use Rattle.std.proofs.Common.{◌≡◌, ℕ, None, List, [], ◌∷◌, ◌++◌, sym, ap, subst, append_assoc, ◌∙◌}
use Rattle.std.proofs.lemmas.Map.Iter.{rest_more}
use Rattle.std.specs.FinMap.{get, insert}
use Rattle.std.specs.List.Sorted.{IsStrictlySortedBy}
use Rattle.std.specs.Map.{keys_of}
use Rattle.std.specs.Map.Iter.{deref_pair}
use Rattle.std.specs.Ordering.{nat_cmp}
use Rattle.hs_values.specs.declared.value.Value.{Value}
use Rattle.hs_index.specs.Table.{Rows, IsIndexOf}
use Rattle.hs_index.proofs.Indexed.{index_empty}
use Rattle.hs_keyed.specs.Kept.{rows_of}
use Rattle.hs_keyed.proofs.Stored.{Entries, new_number, rows_pushed}
use Rattle.hs_keyed.proofs.scan.index_of.Goals as goal

pub loop-number-init : goal.loop-number-init
loop-number-init c = record {
  columns = c.in_ok-from_slice.ensures;
  front = [];
  all = c.into_iter-number-iterator.ensures.into_iter_gives.0;
  so_far = index_empty c.args.columns.now c.new.result c.new.ensures;
}

pub loop-number-preserved : goal.loop-number-preserved
loop-number-preserved c =
    let before = c.loop-number.invariant in
    let front : Entries = before.front in
    let columns = c.args.columns.now in
    let n = c.in-Some.number.now in
    let row = c.in-Some.row.now in
    let rest = c.next.new.self in
    let entry : Entries = (n, row) ∷ [] in
    let head : c.loop-number.number-iterator ≡ (n, row) ∷ rest = rest_more deref_pair c.loop-number.number-iterator rest c.next.result (c.in-Some.number, c.in-Some.row) c.in-Some.is c.next.ensures.steps in
    let all : front ++ (n, row) ∷ rest ≡ c.args.rows.now.entries = ap (λ (es : Entries). front ++ es) (sym head) ∙ before.all in
    let new : get (rows_of front) n ≡ None = new_number front n row rest (subst (λ (es : Entries). IsStrictlySortedBy nat_cmp (keys_of es)) (sym all) c.into_iter-number-iterator.ensures.into_iter_gives.5) in
    let old = subst (λ (cs : List ℕ). IsIndexOf cs (rows_of front) c.loop-number.made.index) (sym before.columns) before.so_far in
    let put = c.in_ok-put.ensures.ok (rows_of front) new old in
    record {
      columns = c.put.ensures.columns ∙ before.columns;
      front = front ++ entry;
      all = append_assoc front entry rest ∙ all;
      so_far =
          subst (λ (m : Rows). IsIndexOf columns m c.put.new.self.index) (sym (rows_pushed front n row new))
          (subst (λ (v : List Value). IsIndexOf columns (insert (rows_of front) n v) c.put.new.self.index) c.as_slice.ensures
          (subst (λ (cs : List ℕ). IsIndexOf cs (insert (rows_of front) n c.as_slice.result.now) c.put.new.self.index) before.columns put));
    }
