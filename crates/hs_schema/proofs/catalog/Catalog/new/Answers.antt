use Rattle.std.proofs.Common.{nat_eq, sym, subst, ap, ◌∙◌}
use Rattle.std.specs.Map.{lookup}
use Rattle.hs_schema.specs.Catalogue as spec
use Rattle.hs_schema.specs.Kept.{children_at}
use Rattle.hs_schema.specs.Texts.{texts}
use Rattle.hs_schema.specs.Whole.{IsWhole}
use Rattle.hs_schema.proofs.After.{whole_none}
use Rattle.hs_schema.proofs.catalog.Catalog.new.Goals as goal

pub invariant_of-result : goal.invariant_of-result
invariant_of-result c =
    let none = sym c.new.ensures.items in
    record {
      by_number = λ m. ap (lookup (nat_eq m.0)) c.new-2.ensures.empty ∙ ap (λ ts. spec.table_numbered ts m) none;
      by_name = ap texts c.new-3.ensures.empty ∙ ap spec.named none;
      by_constraint = ap texts c.new-4.ensures.empty ∙ ap spec.owned none;
      by_parent = λ n. ap (λ ls. children_at ls n) c.new-5.ensures ∙ ap (λ ts. spec.children_of ts n) none;
      whole = subst IsWhole none whole_none;
    }
