use Rattle.std.proofs.Common.{◌≡◌, [], ◌∷◌, ◌++◌, sym, ap, subst, append_assoc, ◌∙◌}
use Rattle.std.proofs.lemmas.List.{append-nil}
use Rattle.std.proofs.lemmas.Map.Iter.{rest_more, rest_all}
use Rattle.std.specs.FinMap.{empty}
use Rattle.std.specs.List.Sorted.{IsStrictlySortedBy}
use Rattle.std.specs.Map.{lookup, keys_of}
use Rattle.std.specs.Map.Iter.{deref_pair}
use Rattle.std.specs.Option.{unwrap_or}
use Rattle.std.specs.Ordering.{nat_cmp}
use Rattle.hs_draft.specs.Drafted.{is, rows_at}
use Rattle.hs_draft.proofs.Drafted.{Tables, one_table_more}
use Rattle.hs_draft.proofs.draft.copying.copied.Goals as goal

pub loop-number-init : goal.loop-number-init
loop-number-init c = record {
  front = [];
  all = c.into_iter-number-iterator.ensures.into_iter_gives.0;
  so_far = λ t. ap (lookup (is t)) c.new-made.ensures.empty;
}

pub loop-number-preserved : goal.loop-number-preserved
loop-number-preserved c =
    let before = c.loop-number.invariant in
    let front : Tables = before.front in
    let n = c.in-Some.number.now in
    let rows = c.in-Some.rows.now in
    let rest = c.next.new.self in
    let entry : Tables = (n, rows) ∷ [] in
    let head : c.loop-number.number-iterator ≡ (n, rows) ∷ rest = rest_more deref_pair c.loop-number.number-iterator rest c.next.result (c.in-Some.number, c.in-Some.rows) c.in-Some.is c.next.ensures.steps in
    let all : front ++ (n, rows) ∷ rest ≡ c.args.tables.now.entries = ap (λ (es : Tables). front ++ es) (sym head) ∙ before.all in
    let sorted : IsStrictlySortedBy nat_cmp (keys_of (front ++ (n, rows) ∷ rest)) = subst (λ (es : Tables). IsStrictlySortedBy nat_cmp (keys_of es)) (sym all) c.into_iter-number-iterator.ensures.into_iter_gives.5 in
    record {
      front = front ++ entry;
      all = append_assoc front entry rest ∙ all;
      so_far = one_table_more c.loop-number.made.entries c.put_copy.new.made.entries front rest n rows sorted c.in_ok-put_copy.ensures before.so_far;
    }

pub returns : goal.returns
returns c = λ t.
    let before = c.loop-number.invariant in
    let none : c.loop-number.number-iterator ≡ [] = rest_all deref_pair c.loop-number.number-iterator c.next.new.self c.next.result c.in-None.is c.next.ensures.steps in
    let whole : before.front ≡ c.args.tables.now.entries = sym (append-nil before.front) ∙ ap (λ (es : Tables). before.front ++ es) (sym none) ∙ before.all in
    ap (λ o. unwrap_or o empty) (before.so_far t) ∙ ap (λ (es : Tables). rows_at es t) whole
