-- What a SELECT means is known where there is no fault.
use Rattle.std.proofs.Common.{◌≡◌, ℕ, Bool, List, [], ◌∷◌, ◌++◌, map, Option, Some, None}
use Rattle.std.specs.List.{enumerate_from, flat_map}
use Rattle.hs_statements.proofs.KnownExpressions.{IsPlacedKnown, OnExpression, all_in_met, condition_met, place_met}
use Rattle.hs_statements.proofs.KnownFrom.{OnElement, elements_met}
use Rattle.hs_statements.proofs.KnownParts.{Each, IsKnown, IsMet, OnPart, all_known, each_append, each_map, each_met, each_placed, each_to, if_written_met, known_map, left_none, right_none}
use Rattle.hs_statements.proofs.SeenColumns.{IsKind, IsSeen, every_seen}
use Rattle.hs_meaning.specs.Expressions.{all_in, condition}
use Rattle.hs_meaning.specs.From.{elements}
use Rattle.hs_meaning.specs.Layers.{BodyMeaning, BodyPart, ItemPart, Part, SelectLayer}
use Rattle.hs_meaning.specs.Parts.{known, tree_of}
use Rattle.hs_meaning.specs.Selects.{columns_of, condition_in, every_meaning, groups_in, is_grouped, items_in, placed_of, plan_by, select_over, select_step, shown_star, star, stars, trees_of}
use Rattle.hs_meaning.specs.Surroundings.{Surroundings, innermost, over_groups, over_rows}
use Rattle.hs_meaning.specs.declared.placed.Shown.{Shown}
use Rattle.hs_plan.specs.declared.expression.Expr.{Expr}
use Rattle.hs_plan.specs.declared.query.FromItem.{FromItem}
use Rattle.hs_scope.specs.Names.{every_column}
use Rattle.hs_scope.specs.declared.column.OutputColumn.{OutputColumn}
use Rattle.hs_typed.specs.declared.typed.Typed.{Typed}

-- ---- items

abbrev pub IsShown : Shown → Type 0
IsShown x = IsKnown x.part

abbrev pub OnItem : ItemPart → Type 0
OnItem i = (s : Surroundings) → IsSeen s → (i.item s).faults ≡ [] → Each IsShown (i.item s).shown

stars_met : (at : ℕ) (s : Surroundings) (cs : List (ℕ × OutputColumn)) → Each (λ c. IsKind c.1) cs → (stars at s cs).faults ≡ [] → Each IsShown (stars at s cs).shown
stars_met at s cs h none =
    each_map IsShown (shown_star at s) cs (each_met (star at s) cs (each_to (λ c. IsKind c.1) (λ c. IsMet (star at s c)) cs (λ c k. place_met at s 0 c.0 c.1.kind k) h) none)

pub every_met : (at : ℕ) (s : Surroundings) → IsSeen s → (every_meaning at s).faults ≡ [] → Each IsShown (every_meaning at s).shown
every_met at s seen none =
    stars_met at s (enumerate_from 0 (every_column (innermost s.scopes))) (each_placed IsKind 0 (every_column (innermost s.scopes)) (every_seen s seen)) none

pub items_met : (s : Surroundings) (items : List ItemPart) → IsSeen s → Each OnItem items → (items_in s items).faults ≡ [] → Each IsShown (items_in s items).shown
items_met s [] seen h none = tt
items_met s (i ∷ more) seen h none =
    let rest = flat_map (λ x. (x.item s).faults) more in
    each_append IsShown (i.item s).shown (flat_map (λ x. (x.item s).shown) more) (h.0 s seen (left_none (i.item s).faults rest none)) (items_met s more seen h.1 (right_none (i.item s).faults rest none))

pub columns_known : (shown : List Shown) → Each IsShown shown → Each IsPlacedKnown (columns_of shown)
columns_known shown h = each_map IsPlacedKnown placed_of shown (each_to IsShown (λ x. IsPlacedKnown (placed_of x)) shown (λ x k. known_map (λ t. t.kind) x.part k) h)

pub trees_known : (shown : List Shown) → Each IsShown shown → IsKnown (trees_of shown)
trees_known shown h = all_known (map (λ x. tree_of x.part) shown) (each_map (λ o. IsKnown o) (λ x. tree_of x.part) shown (each_to IsShown (λ x. IsKnown (tree_of x.part)) shown (λ x k. known_map (λ t. t.tree) x.part k) h))

-- ---- the whole

pub record IsBodyKnown (b : BodyMeaning) : Type 0 where
  pub plan : IsKnown b.plan
  pub columns : Each IsPlacedKnown b.columns
  pub keys : IsSeen b.keys

abbrev pub OnBody : BodyPart → Type 0
OnBody b = (s : Surroundings) → IsSeen s → (b s).faults ≡ [] → IsBodyKnown (b s)

pub record OnSelect (x : SelectLayer) : Type 0 where
  pub items : Each OnItem x.items
  pub from : Each OnElement x.from
  pub filter : OnPart OnExpression x.filter
  pub group_by : Each OnExpression x.group_by
  pub having : OnPart OnExpression x.having

condition_in_met : (s : Surroundings) (part : Option Part) → IsSeen s → OnPart OnExpression part → IsMet (condition_in s part)
condition_in_met s None seen h = λ none. tt
condition_in_met s (Some p) seen h = if_written_met (Some (condition s p)) (condition_met s p seen h)

plan_known : (distinct grouped : Bool) (items : Option (List Expr)) (from : Option (List FromItem)) (filter : Option (Option Typed)) (group_by : Option (List Typed)) (having : Option (Option Typed))
    → IsKnown items → IsKnown from → IsKnown filter → IsKnown group_by → IsKnown having → IsKnown (plan_by distinct grouped items from filter group_by having)
plan_known distinct grouped (Some items) (Some from) (Some filter) (Some group_by) (Some having) a b c d e = tt
plan_known distinct grouped (Some items) (Some from) (Some filter) (Some group_by) None a b c d e = absurd e
plan_known distinct grouped (Some items) (Some from) (Some filter) None having a b c d e = absurd d
plan_known distinct grouped (Some items) (Some from) None group_by having a b c d e = absurd c
plan_known distinct grouped (Some items) None filter group_by having a b c d e = absurd b
plan_known distinct grouped None from filter group_by having a b c d e = absurd a

pub select_met : (x : SelectLayer) → OnSelect x → OnBody (select_step x)
select_met x h = λ s seen none.
    let from = elements s [] x.from in
    let own = select_over x s from.tables (known from.items) in
    let its_from = elements_met s [] x.from seen tt h.from (left_none from.faults own.faults none) in
    let rows = over_rows from.tables s in
    let groups = over_groups from.tables (groups_in from.tables x) s in
    let seen_so : IsSeen rows = (its_from.tables, seen) in
    let filter = condition_in rows x.filter in
    let group_by = all_in rows x.group_by in
    let having = condition_in groups x.having in
    let items = items_in groups x.items in
    let four = right_none from.faults own.faults none in
    let three = left_none (filter.faults ++ group_by.faults ++ having.faults) items.faults four in
    let two = left_none (filter.faults ++ group_by.faults) having.faults three in
    let shown = items_met groups x.items seen_so h.items (right_none (filter.faults ++ group_by.faults ++ having.faults) items.faults four) in
    record {
      plan = plan_known x.distinct (is_grouped x) (trees_of items.shown) (known from.items) filter.part group_by.part having.part
          (trees_known items.shown shown)
          (all_known from.items its_from.items)
          (condition_in_met rows x.filter seen_so h.filter (left_none filter.faults group_by.faults two))
          (all_in_met rows x.group_by seen_so h.group_by (right_none filter.faults group_by.faults two))
          (condition_in_met groups x.having seen_so h.having (right_none (filter.faults ++ group_by.faults) having.faults three));
      columns = columns_known items.shown shown;
      keys = seen_so;
    }
