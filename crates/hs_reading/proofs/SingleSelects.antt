-- The faults of a SELECT name nothing with a line feed, if neither do those of its parts.
use Rattle.std.proofs.Common.{ℕ, List, [], ◌++◌, Option, Some, None, refl}
use Rattle.std.specs.List.{enumerate_from}
use Rattle.hs_meaning.specs.Expressions.{all_in}
use Rattle.hs_meaning.specs.From.{From, elements}
use Rattle.hs_meaning.specs.Layers.{BodyPart, ItemPart, Part, SelectLayer}
use Rattle.hs_meaning.specs.Parts.{known}
use Rattle.hs_meaning.specs.Selects.{condition_in, every_meaning, groups_in, items_in, select_over, select_step, star, stars}
use Rattle.hs_meaning.specs.Surroundings.{Surroundings, innermost, over_groups, over_rows}
use Rattle.hs_reading.proofs.SingleExpressions.{OnExpression, all_in_single, condition_single, place_single}
use Rattle.hs_reading.proofs.SingleFrom.{OnElement, elements_single}
use Rattle.hs_reading.proofs.SingleParts.{AreSingle, Each, OnPart, both, each_of, each_to, flat_single}
use Rattle.hs_scope.specs.Names.{every_column}
use Rattle.hs_scope.specs.declared.column.OutputColumn.{OutputColumn}

-- ---- items

abbrev pub OnItem : ItemPart → Type 0
OnItem i = (s : Surroundings) → AreSingle (i.item s).faults

stars_single : (at : ℕ) (s : Surroundings) (columns : List (ℕ × OutputColumn)) → AreSingle (stars at s columns).faults
stars_single at s columns = flat_single (λ c. (star at s c).faults) columns (each_of (λ c. AreSingle (star at s c).faults) columns (λ c. place_single at s 0 c.0 c.1.kind))

pub every_single : (at : ℕ) (s : Surroundings) → AreSingle (every_meaning at s).faults
every_single at s = stars_single at s (enumerate_from 0 (every_column (innermost s.scopes)))

items_single : (s : Surroundings) (items : List ItemPart) → Each OnItem items → AreSingle (items_in s items).faults
items_single s items h = flat_single (λ i. (i.item s).faults) items (each_to OnItem (λ i. AreSingle (i.item s).faults) items (λ i on. on s) h)

-- ---- the whole

abbrev pub OnBody : BodyPart → Type 0
OnBody b = (s : Surroundings) → AreSingle (b s).faults

pub record OnSelect (x : SelectLayer) : Type 0 where
  pub items : Each OnItem x.items
  pub from : Each OnElement x.from
  pub filter : OnPart OnExpression x.filter
  pub group_by : Each OnExpression x.group_by
  pub having : OnPart OnExpression x.having

condition_in_single : (s : Surroundings) (part : Option Part) → OnPart OnExpression part → AreSingle (condition_in s part).faults
condition_in_single s None h = refl
condition_in_single s (Some p) h = condition_single s p h

pub select_single : (x : SelectLayer) → OnSelect x → OnBody (select_step x)
select_single x h = λ s.
    let from : From = elements s [] x.from in
    let rows : Surroundings = over_rows from.tables s in
    let groups : Surroundings = over_groups from.tables (groups_in from.tables x) s in
    let filter = condition_in rows x.filter in
    let group_by = all_in rows x.group_by in
    let having = condition_in groups x.having in
    let items = items_in groups x.items in
    both from.faults (select_over x s from.tables (known from.items)).faults (elements_single s [] x.from h.from)
    (both (filter.faults ++ group_by.faults ++ having.faults) items.faults
    (both (filter.faults ++ group_by.faults) having.faults
    (both filter.faults group_by.faults (condition_in_single rows x.filter h.filter) (all_in_single rows x.group_by h.group_by))
    (condition_in_single groups x.having h.having))
    (items_single groups x.items h.items))
