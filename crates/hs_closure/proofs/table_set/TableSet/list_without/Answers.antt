use Rattle.std.proofs.Common.{not, nat_eq, sym, ap, ◌∙◌, subst}
use Rattle.std.proofs.lemmas.Result.{IfOk-weaker}
use Rattle.std.specs.List.{IsDistinct}
use Rattle.std.specs.List.Sorted.{IsSorted}
use Rattle.std.specs.Ordering.{nat_cmp}
use Rattle.hs_closure.specs.Sets.{is_in}
use Rattle.hs_closure.proofs.Lists.{ascends, exactly}
use Rattle.hs_closure.proofs.table_set.TableSet.list_without.Goals as goal

pub returns-clause-ascending : goal.returns-clause-ascending
returns-clause-ascending c =
    let keys = c.as_slice.result.now in
    IfOk-weaker c.numbers_without.result _ _
    (λ tables is. ascends (λ n. not (is_in c.args.other.now n)) keys tables (subst (IsSorted nat_cmp) (sym c.as_slice.ensures.keys) c.in_ok-sort.ensures.sorted) (subst (IsDistinct nat_eq) (sym c.as_slice.ensures.keys) c.as_slice.ensures.unique) is)
    c.numbers_without.ensures

pub returns-clause-members : goal.returns-clause-members
returns-clause-members c =
    let keys = c.as_slice.result.now in
    IfOk-weaker c.numbers_without.result _ _
    (λ tables is. exactly c.args.self keys c.args.other.now tables
    (λ n. ap (λ l. is_in l n) c.as_slice.ensures.keys ∙ c.in_ok-sort.ensures.reordered.2 n ∙ ap (λ l. is_in l n) c.self.view_is) is)
    c.numbers_without.ensures
