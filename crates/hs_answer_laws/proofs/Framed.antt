-- Two states of the tables that agree on what a query names give it the same answer.
use Rattle.std.proofs.Common.{◌≡◌, Bool, List, [], ◌∷◌, ◌++◌, map, Option, None, Some, Ok, refl, sym, subst, ◌∙◌}
use Rattle.std.specs.FinMap.{values}
use Rattle.std.specs.Option.{option_map}
use Rattle.std.proofs.lemmas.List.Elements.{Contains-append_left, Contains-append_right}
use Rattle.hs_plan.specs.declared.expression.CaseArm.{CaseArm, roll-CaseArm}
use Rattle.hs_plan.specs.declared.expression.Expr.{Expr, roll-Expr, ind-Expr}
use Rattle.hs_plan.specs.declared.expression.ListItem.{ListItem, roll-ListItem}
use Rattle.hs_plan.specs.declared.query.FromItem.{FromItem, roll-FromItem}
use Rattle.hs_plan.specs.declared.query.Join.{Join, roll-Join}
use Rattle.hs_plan.specs.declared.query.Key.{Key, roll-Key}
use Rattle.hs_plan.specs.declared.query.Query.{Query, roll-Query, ind-Query}
use Rattle.hs_plan.specs.declared.query.QueryBody.{QueryBody, roll-QueryBody}
use Rattle.hs_plan.specs.declared.query.Select.{Select, roll-Select}
use Rattle.hs_plan.specs.declared.query.SortKey.{SortKey, roll-SortKey}
use Rattle.hs_plan.specs.declared.query.Source.{Source, roll-Source}
use Rattle.hs_plan.specs.declared.query.ValuesRow.{ValuesRow, roll-ValuesRow}
use Rattle.hs_plan.specs.declared.expression.Expr.TheFolds.{map-Expr, map-Join, map-Key, map-QueryBody, map-Source, map-CaseArm, map-ListItem, map-FromItem, map-Query, map-Select, map-SortKey, map-ValuesRow}
use Rattle.hs_plan.specs.declared.expression.Expr.TheOpen.{Expr-F, Join-F, Key-F, QueryBody-F, Source-F, CaseArm-F, ListItem-F, FromItem-F, Query-F, Select-F, SortKey-F, ValuesRow-F}
use Rattle.hs_plan.specs.Named as names
use Rattle.hs_plan.specs.Named.{Found, concat, if_written, named, named_in_join, named_in_key, named_in_body, named_in_source, named_in_arm, named_in_item, named_in_from, named_in_query, named_in_select, named_in_sort_key, named_in_row}
use Rattle.hs_changes.specs.Settings.{Maps}
use Rattle.hs_expression.specs.Expression.{Arm, Listed, of_arm, of_expression, of_item}
use Rattle.hs_expression.specs.Surroundings.{Answered, Valued}
use Rattle.hs_rel.proofs.Selecting.{at_head}
use Rattle.hs_answer.specs.Answer.{arm_in, body_in, element_in, item_in, join_in, key_in, query_in, row_in, select_in, sort_key_in, source_in, value_in}
use Rattle.hs_answer.specs.Bodies.{of_body, of_row}
use Rattle.hs_answer.specs.Frame.{Agree}
use Rattle.hs_answer.specs.From.{of_element, of_join, of_source}
use Rattle.hs_answer.specs.Layers.{Bodied, Joining, Keyed, SortBy, Sourced}
use Rattle.hs_answer.specs.Order.{of_key, of_query, of_sort_key}
use Rattle.hs_answer.specs.Selects.{of_select}
use Rattle.hs_answer_laws.proofs.Layers.{arm_gives, arm_names, body_gives, body_names, element_gives, element_names, item_gives, item_names, join_gives, join_names, key_gives, key_names, query_gives, query_names, row_gives, row_names, select_lists, select_shows, sort_key_gives, sort_key_names, source_gives, source_names, value_gives, value_names}

module _ (a b : Maps) where
  pub left_of : (xs ys : Found) → Agree a b (xs ++ ys) → Agree a b xs
  left_of xs ys h = λ table found. h table (Contains-append_left xs ys table found)

  pub right_of : (xs ys : Found) → Agree a b (xs ++ ys) → Agree a b ys
  right_of xs ys h = λ table found. h table (Contains-append_right xs ys table found)

  -- ---- lists of parts, and parts that may be left out

  module _ {T X : Type 0} (found : T → Found) (means : Maps → T → X) where
    abbrev pub Same : T → Type 0
    Same x = Agree a b (found x) → means a x ≡ means b x

    abbrev pub Part : Type 0
    Part = (x : T) × Same x

    abbrev pub part_of : Part → T
    part_of p = p.0

    pub all_same : (parts : List Part) → Agree a b (concat (map found (map part_of parts))) → map (means a) (map part_of parts) ≡ map (means b) (map part_of parts)
    all_same [] h = refl
    all_same (p ∷ parts) h =
        let first = p.1 (left_of (found p.0) (concat (map found (map part_of parts))) h) in
        let rest = all_same parts (right_of (found p.0) (concat (map found (map part_of parts))) h) in
        λ i. first i ∷ rest i

    pub one_same : (part : Option Part) → Agree a b (if_written (option_map found (option_map part_of part))) → option_map (means a) (option_map part_of part) ≡ option_map (means b) (option_map part_of part)
    one_same None h = refl
    one_same (Some p) h = let same = p.1 h in λ i. Some (same i)

  -- ---- what is shown of each tree

  abbrev OnValue : Expr → Type 0
  OnValue = Same named value_in

  abbrev OnJoin : Join → Type 0
  OnJoin = Same named_in_join join_in

  abbrev OnKey : Key → Type 0
  OnKey = Same named_in_key key_in

  abbrev OnBody : QueryBody → Type 0
  OnBody = Same named_in_body body_in

  abbrev OnSource : Source → Type 0
  OnSource = Same named_in_source source_in

  abbrev OnArm : CaseArm → Type 0
  OnArm = Same named_in_arm arm_in

  abbrev OnItem : ListItem → Type 0
  OnItem = Same named_in_item item_in

  abbrev OnElement : FromItem → Type 0
  OnElement = Same named_in_from element_in

  abbrev OnQuery : Query → Type 0
  OnQuery = Same named_in_query query_in

  abbrev OnSelect : Select → Type 0
  OnSelect = Same named_in_select select_in

  abbrev OnSortKey : SortKey → Type 0
  OnSortKey = Same named_in_sort_key sort_key_in

  abbrev OnRow : ValuesRow → Type 0
  OnRow = Same named_in_row row_in

  abbrev PValue : Type 0
  PValue = Part named value_in

  abbrev PJoin : Type 0
  PJoin = Part named_in_join join_in

  abbrev PKey : Type 0
  PKey = Part named_in_key key_in

  abbrev PBody : Type 0
  PBody = Part named_in_body body_in

  abbrev PSource : Type 0
  PSource = Part named_in_source source_in

  abbrev PArm : Type 0
  PArm = Part named_in_arm arm_in

  abbrev PItem : Type 0
  PItem = Part named_in_item item_in

  abbrev PElement : Type 0
  PElement = Part named_in_from element_in

  abbrev PQuery : Type 0
  PQuery = Part named_in_query query_in

  abbrev PSelect : Type 0
  PSelect = Part named_in_select select_in

  abbrev PSortKey : Type 0
  PSortKey = Part named_in_sort_key sort_key_in

  abbrev PRow : Type 0
  PRow = Part named_in_row row_in

  -- ---- layers without the proofs of their parts

  abbrev bare_value : Expr-F PValue PJoin PKey PBody PSource PArm PItem PElement PQuery PSelect PSortKey PRow → Expr-F Expr Join Key QueryBody Source CaseArm ListItem FromItem Query Select SortKey ValuesRow
  bare_value = map-Expr PValue PJoin PKey PBody PSource PArm PItem PElement PQuery PSelect PSortKey PRow Expr Join Key QueryBody Source CaseArm ListItem FromItem Query Select SortKey ValuesRow (part_of named value_in) (part_of named_in_join join_in) (part_of named_in_key key_in) (part_of named_in_body body_in) (part_of named_in_source source_in) (part_of named_in_arm arm_in) (part_of named_in_item item_in) (part_of named_in_from element_in) (part_of named_in_query query_in) (part_of named_in_select select_in) (part_of named_in_sort_key sort_key_in) (part_of named_in_row row_in)

  abbrev bare_join : Join-F PValue PJoin PKey PBody PSource PArm PItem PElement PQuery PSelect PSortKey PRow → Join-F Expr Join Key QueryBody Source CaseArm ListItem FromItem Query Select SortKey ValuesRow
  bare_join = map-Join PValue PJoin PKey PBody PSource PArm PItem PElement PQuery PSelect PSortKey PRow Expr Join Key QueryBody Source CaseArm ListItem FromItem Query Select SortKey ValuesRow (part_of named value_in) (part_of named_in_join join_in) (part_of named_in_key key_in) (part_of named_in_body body_in) (part_of named_in_source source_in) (part_of named_in_arm arm_in) (part_of named_in_item item_in) (part_of named_in_from element_in) (part_of named_in_query query_in) (part_of named_in_select select_in) (part_of named_in_sort_key sort_key_in) (part_of named_in_row row_in)

  abbrev bare_key : Key-F PValue PJoin PKey PBody PSource PArm PItem PElement PQuery PSelect PSortKey PRow → Key-F Expr Join Key QueryBody Source CaseArm ListItem FromItem Query Select SortKey ValuesRow
  bare_key = map-Key PValue PJoin PKey PBody PSource PArm PItem PElement PQuery PSelect PSortKey PRow Expr Join Key QueryBody Source CaseArm ListItem FromItem Query Select SortKey ValuesRow (part_of named value_in) (part_of named_in_join join_in) (part_of named_in_key key_in) (part_of named_in_body body_in) (part_of named_in_source source_in) (part_of named_in_arm arm_in) (part_of named_in_item item_in) (part_of named_in_from element_in) (part_of named_in_query query_in) (part_of named_in_select select_in) (part_of named_in_sort_key sort_key_in) (part_of named_in_row row_in)

  abbrev bare_body : QueryBody-F PValue PJoin PKey PBody PSource PArm PItem PElement PQuery PSelect PSortKey PRow → QueryBody-F Expr Join Key QueryBody Source CaseArm ListItem FromItem Query Select SortKey ValuesRow
  bare_body = map-QueryBody PValue PJoin PKey PBody PSource PArm PItem PElement PQuery PSelect PSortKey PRow Expr Join Key QueryBody Source CaseArm ListItem FromItem Query Select SortKey ValuesRow (part_of named value_in) (part_of named_in_join join_in) (part_of named_in_key key_in) (part_of named_in_body body_in) (part_of named_in_source source_in) (part_of named_in_arm arm_in) (part_of named_in_item item_in) (part_of named_in_from element_in) (part_of named_in_query query_in) (part_of named_in_select select_in) (part_of named_in_sort_key sort_key_in) (part_of named_in_row row_in)

  abbrev bare_source : Source-F PValue PJoin PKey PBody PSource PArm PItem PElement PQuery PSelect PSortKey PRow → Source-F Expr Join Key QueryBody Source CaseArm ListItem FromItem Query Select SortKey ValuesRow
  bare_source = map-Source PValue PJoin PKey PBody PSource PArm PItem PElement PQuery PSelect PSortKey PRow Expr Join Key QueryBody Source CaseArm ListItem FromItem Query Select SortKey ValuesRow (part_of named value_in) (part_of named_in_join join_in) (part_of named_in_key key_in) (part_of named_in_body body_in) (part_of named_in_source source_in) (part_of named_in_arm arm_in) (part_of named_in_item item_in) (part_of named_in_from element_in) (part_of named_in_query query_in) (part_of named_in_select select_in) (part_of named_in_sort_key sort_key_in) (part_of named_in_row row_in)

  abbrev bare_arm : CaseArm-F PValue PJoin PKey PBody PSource PArm PItem PElement PQuery PSelect PSortKey PRow → CaseArm-F Expr Join Key QueryBody Source CaseArm ListItem FromItem Query Select SortKey ValuesRow
  bare_arm = map-CaseArm PValue PJoin PKey PBody PSource PArm PItem PElement PQuery PSelect PSortKey PRow Expr Join Key QueryBody Source CaseArm ListItem FromItem Query Select SortKey ValuesRow (part_of named value_in) (part_of named_in_join join_in) (part_of named_in_key key_in) (part_of named_in_body body_in) (part_of named_in_source source_in) (part_of named_in_arm arm_in) (part_of named_in_item item_in) (part_of named_in_from element_in) (part_of named_in_query query_in) (part_of named_in_select select_in) (part_of named_in_sort_key sort_key_in) (part_of named_in_row row_in)

  abbrev bare_item : ListItem-F PValue PJoin PKey PBody PSource PArm PItem PElement PQuery PSelect PSortKey PRow → ListItem-F Expr Join Key QueryBody Source CaseArm ListItem FromItem Query Select SortKey ValuesRow
  bare_item = map-ListItem PValue PJoin PKey PBody PSource PArm PItem PElement PQuery PSelect PSortKey PRow Expr Join Key QueryBody Source CaseArm ListItem FromItem Query Select SortKey ValuesRow (part_of named value_in) (part_of named_in_join join_in) (part_of named_in_key key_in) (part_of named_in_body body_in) (part_of named_in_source source_in) (part_of named_in_arm arm_in) (part_of named_in_item item_in) (part_of named_in_from element_in) (part_of named_in_query query_in) (part_of named_in_select select_in) (part_of named_in_sort_key sort_key_in) (part_of named_in_row row_in)

  abbrev bare_element : FromItem-F PValue PJoin PKey PBody PSource PArm PItem PElement PQuery PSelect PSortKey PRow → FromItem-F Expr Join Key QueryBody Source CaseArm ListItem FromItem Query Select SortKey ValuesRow
  bare_element = map-FromItem PValue PJoin PKey PBody PSource PArm PItem PElement PQuery PSelect PSortKey PRow Expr Join Key QueryBody Source CaseArm ListItem FromItem Query Select SortKey ValuesRow (part_of named value_in) (part_of named_in_join join_in) (part_of named_in_key key_in) (part_of named_in_body body_in) (part_of named_in_source source_in) (part_of named_in_arm arm_in) (part_of named_in_item item_in) (part_of named_in_from element_in) (part_of named_in_query query_in) (part_of named_in_select select_in) (part_of named_in_sort_key sort_key_in) (part_of named_in_row row_in)

  abbrev bare_query : Query-F PValue PJoin PKey PBody PSource PArm PItem PElement PQuery PSelect PSortKey PRow → Query-F Expr Join Key QueryBody Source CaseArm ListItem FromItem Query Select SortKey ValuesRow
  bare_query = map-Query PValue PJoin PKey PBody PSource PArm PItem PElement PQuery PSelect PSortKey PRow Expr Join Key QueryBody Source CaseArm ListItem FromItem Query Select SortKey ValuesRow (part_of named value_in) (part_of named_in_join join_in) (part_of named_in_key key_in) (part_of named_in_body body_in) (part_of named_in_source source_in) (part_of named_in_arm arm_in) (part_of named_in_item item_in) (part_of named_in_from element_in) (part_of named_in_query query_in) (part_of named_in_select select_in) (part_of named_in_sort_key sort_key_in) (part_of named_in_row row_in)

  abbrev bare_select : Select-F PValue PJoin PKey PBody PSource PArm PItem PElement PQuery PSelect PSortKey PRow → Select-F Expr Join Key QueryBody Source CaseArm ListItem FromItem Query Select SortKey ValuesRow
  bare_select = map-Select PValue PJoin PKey PBody PSource PArm PItem PElement PQuery PSelect PSortKey PRow Expr Join Key QueryBody Source CaseArm ListItem FromItem Query Select SortKey ValuesRow (part_of named value_in) (part_of named_in_join join_in) (part_of named_in_key key_in) (part_of named_in_body body_in) (part_of named_in_source source_in) (part_of named_in_arm arm_in) (part_of named_in_item item_in) (part_of named_in_from element_in) (part_of named_in_query query_in) (part_of named_in_select select_in) (part_of named_in_sort_key sort_key_in) (part_of named_in_row row_in)

  abbrev bare_sort_key : SortKey-F PValue PJoin PKey PBody PSource PArm PItem PElement PQuery PSelect PSortKey PRow → SortKey-F Expr Join Key QueryBody Source CaseArm ListItem FromItem Query Select SortKey ValuesRow
  bare_sort_key = map-SortKey PValue PJoin PKey PBody PSource PArm PItem PElement PQuery PSelect PSortKey PRow Expr Join Key QueryBody Source CaseArm ListItem FromItem Query Select SortKey ValuesRow (part_of named value_in) (part_of named_in_join join_in) (part_of named_in_key key_in) (part_of named_in_body body_in) (part_of named_in_source source_in) (part_of named_in_arm arm_in) (part_of named_in_item item_in) (part_of named_in_from element_in) (part_of named_in_query query_in) (part_of named_in_select select_in) (part_of named_in_sort_key sort_key_in) (part_of named_in_row row_in)

  abbrev bare_row : ValuesRow-F PValue PJoin PKey PBody PSource PArm PItem PElement PQuery PSelect PSortKey PRow → ValuesRow-F Expr Join Key QueryBody Source CaseArm ListItem FromItem Query Select SortKey ValuesRow
  bare_row = map-ValuesRow PValue PJoin PKey PBody PSource PArm PItem PElement PQuery PSelect PSortKey PRow Expr Join Key QueryBody Source CaseArm ListItem FromItem Query Select SortKey ValuesRow (part_of named value_in) (part_of named_in_join join_in) (part_of named_in_key key_in) (part_of named_in_body body_in) (part_of named_in_source source_in) (part_of named_in_arm arm_in) (part_of named_in_item item_in) (part_of named_in_from element_in) (part_of named_in_query query_in) (part_of named_in_select select_in) (part_of named_in_sort_key sort_key_in) (part_of named_in_row row_in)

  -- ---- a layer is the same in both where its parts are

  abbrev value_layer : Expr-F Valued Joining Keyed Bodied Sourced Arm Listed Answered Answered Bodied SortBy (List Valued) → Valued
  value_layer = of_expression

  abbrev arm_layer : CaseArm-F Valued Joining Keyed Bodied Sourced Arm Listed Answered Answered Bodied SortBy (List Valued) → Arm
  arm_layer = of_arm

  abbrev item_layer : ListItem-F Valued Joining Keyed Bodied Sourced Arm Listed Answered Answered Bodied SortBy (List Valued) → Listed
  item_layer = of_item

  abbrev value_parts : Maps → Expr-F Expr Join Key QueryBody Source CaseArm ListItem FromItem Query Select SortKey ValuesRow → Expr-F Valued Joining Keyed Bodied Sourced Arm Listed Answered Answered Bodied SortBy (List Valued)
  value_parts tables = map-Expr Expr Join Key QueryBody Source CaseArm ListItem FromItem Query Select SortKey ValuesRow Valued Joining Keyed Bodied Sourced Arm Listed Answered Answered Bodied SortBy (List Valued) (value_in tables) (join_in tables) (key_in tables) (body_in tables) (source_in tables) (arm_in tables) (item_in tables) (element_in tables) (query_in tables) (select_in tables) (sort_key_in tables) (row_in tables)

  value_by : (x : Expr-F Expr Join Key QueryBody Source CaseArm ListItem FromItem Query Select SortKey ValuesRow) → value_layer (value_parts a x) ≡ value_layer (value_parts b x) → value_in a (roll-Expr x) ≡ value_in b (roll-Expr x)
  value_by x same = value_gives a x ∙ same ∙ sym (value_gives b x)

  value_split : (x : Expr-F Expr Join Key QueryBody Source CaseArm ListItem FromItem Query Select SortKey ValuesRow) → Agree a b (named (roll-Expr x)) → Agree a b (names.of_expression (map-Expr Expr Join Key QueryBody Source CaseArm ListItem FromItem Query Select SortKey ValuesRow Found Found Found Found Found Found Found Found Found Found Found Found named named_in_join named_in_key named_in_body named_in_source named_in_arm named_in_item named_in_from named_in_query named_in_select named_in_sort_key named_in_row x))
  value_split x h = subst (Agree a b) (value_names x) h

  abbrev join_parts : Maps → Join-F Expr Join Key QueryBody Source CaseArm ListItem FromItem Query Select SortKey ValuesRow → Join-F Valued Joining Keyed Bodied Sourced Arm Listed Answered Answered Bodied SortBy (List Valued)
  join_parts tables = map-Join Expr Join Key QueryBody Source CaseArm ListItem FromItem Query Select SortKey ValuesRow Valued Joining Keyed Bodied Sourced Arm Listed Answered Answered Bodied SortBy (List Valued) (value_in tables) (join_in tables) (key_in tables) (body_in tables) (source_in tables) (arm_in tables) (item_in tables) (element_in tables) (query_in tables) (select_in tables) (sort_key_in tables) (row_in tables)

  join_by : (x : Join-F Expr Join Key QueryBody Source CaseArm ListItem FromItem Query Select SortKey ValuesRow) → of_join (join_parts a x) ≡ of_join (join_parts b x) → join_in a (roll-Join x) ≡ join_in b (roll-Join x)
  join_by x same = join_gives a x ∙ same ∙ sym (join_gives b x)

  join_split : (x : Join-F Expr Join Key QueryBody Source CaseArm ListItem FromItem Query Select SortKey ValuesRow) → Agree a b (named_in_join (roll-Join x)) → Agree a b (names.of_join (map-Join Expr Join Key QueryBody Source CaseArm ListItem FromItem Query Select SortKey ValuesRow Found Found Found Found Found Found Found Found Found Found Found Found named named_in_join named_in_key named_in_body named_in_source named_in_arm named_in_item named_in_from named_in_query named_in_select named_in_sort_key named_in_row x))
  join_split x h = subst (Agree a b) (join_names x) h

  abbrev key_parts : Maps → Key-F Expr Join Key QueryBody Source CaseArm ListItem FromItem Query Select SortKey ValuesRow → Key-F Valued Joining Keyed Bodied Sourced Arm Listed Answered Answered Bodied SortBy (List Valued)
  key_parts tables = map-Key Expr Join Key QueryBody Source CaseArm ListItem FromItem Query Select SortKey ValuesRow Valued Joining Keyed Bodied Sourced Arm Listed Answered Answered Bodied SortBy (List Valued) (value_in tables) (join_in tables) (key_in tables) (body_in tables) (source_in tables) (arm_in tables) (item_in tables) (element_in tables) (query_in tables) (select_in tables) (sort_key_in tables) (row_in tables)

  key_by : (x : Key-F Expr Join Key QueryBody Source CaseArm ListItem FromItem Query Select SortKey ValuesRow) → of_key (key_parts a x) ≡ of_key (key_parts b x) → key_in a (roll-Key x) ≡ key_in b (roll-Key x)
  key_by x same = key_gives a x ∙ same ∙ sym (key_gives b x)

  key_split : (x : Key-F Expr Join Key QueryBody Source CaseArm ListItem FromItem Query Select SortKey ValuesRow) → Agree a b (named_in_key (roll-Key x)) → Agree a b (names.of_key (map-Key Expr Join Key QueryBody Source CaseArm ListItem FromItem Query Select SortKey ValuesRow Found Found Found Found Found Found Found Found Found Found Found Found named named_in_join named_in_key named_in_body named_in_source named_in_arm named_in_item named_in_from named_in_query named_in_select named_in_sort_key named_in_row x))
  key_split x h = subst (Agree a b) (key_names x) h

  abbrev body_parts : Maps → QueryBody-F Expr Join Key QueryBody Source CaseArm ListItem FromItem Query Select SortKey ValuesRow → QueryBody-F Valued Joining Keyed Bodied Sourced Arm Listed Answered Answered Bodied SortBy (List Valued)
  body_parts tables = map-QueryBody Expr Join Key QueryBody Source CaseArm ListItem FromItem Query Select SortKey ValuesRow Valued Joining Keyed Bodied Sourced Arm Listed Answered Answered Bodied SortBy (List Valued) (value_in tables) (join_in tables) (key_in tables) (body_in tables) (source_in tables) (arm_in tables) (item_in tables) (element_in tables) (query_in tables) (select_in tables) (sort_key_in tables) (row_in tables)

  body_by : (x : QueryBody-F Expr Join Key QueryBody Source CaseArm ListItem FromItem Query Select SortKey ValuesRow) → of_body (body_parts a x) ≡ of_body (body_parts b x) → body_in a (roll-QueryBody x) ≡ body_in b (roll-QueryBody x)
  body_by x same = body_gives a x ∙ same ∙ sym (body_gives b x)

  body_split : (x : QueryBody-F Expr Join Key QueryBody Source CaseArm ListItem FromItem Query Select SortKey ValuesRow) → Agree a b (named_in_body (roll-QueryBody x)) → Agree a b (names.of_body (map-QueryBody Expr Join Key QueryBody Source CaseArm ListItem FromItem Query Select SortKey ValuesRow Found Found Found Found Found Found Found Found Found Found Found Found named named_in_join named_in_key named_in_body named_in_source named_in_arm named_in_item named_in_from named_in_query named_in_select named_in_sort_key named_in_row x))
  body_split x h = subst (Agree a b) (body_names x) h

  abbrev source_parts : Maps → Source-F Expr Join Key QueryBody Source CaseArm ListItem FromItem Query Select SortKey ValuesRow → Source-F Valued Joining Keyed Bodied Sourced Arm Listed Answered Answered Bodied SortBy (List Valued)
  source_parts tables = map-Source Expr Join Key QueryBody Source CaseArm ListItem FromItem Query Select SortKey ValuesRow Valued Joining Keyed Bodied Sourced Arm Listed Answered Answered Bodied SortBy (List Valued) (value_in tables) (join_in tables) (key_in tables) (body_in tables) (source_in tables) (arm_in tables) (item_in tables) (element_in tables) (query_in tables) (select_in tables) (sort_key_in tables) (row_in tables)

  source_by : (x : Source-F Expr Join Key QueryBody Source CaseArm ListItem FromItem Query Select SortKey ValuesRow) → of_source a (source_parts a x) ≡ of_source b (source_parts b x) → source_in a (roll-Source x) ≡ source_in b (roll-Source x)
  source_by x same = source_gives a x ∙ same ∙ sym (source_gives b x)

  source_split : (x : Source-F Expr Join Key QueryBody Source CaseArm ListItem FromItem Query Select SortKey ValuesRow) → Agree a b (named_in_source (roll-Source x)) → Agree a b (names.of_source (map-Source Expr Join Key QueryBody Source CaseArm ListItem FromItem Query Select SortKey ValuesRow Found Found Found Found Found Found Found Found Found Found Found Found named named_in_join named_in_key named_in_body named_in_source named_in_arm named_in_item named_in_from named_in_query named_in_select named_in_sort_key named_in_row x))
  source_split x h = subst (Agree a b) (source_names x) h

  abbrev arm_parts : Maps → CaseArm-F Expr Join Key QueryBody Source CaseArm ListItem FromItem Query Select SortKey ValuesRow → CaseArm-F Valued Joining Keyed Bodied Sourced Arm Listed Answered Answered Bodied SortBy (List Valued)
  arm_parts tables = map-CaseArm Expr Join Key QueryBody Source CaseArm ListItem FromItem Query Select SortKey ValuesRow Valued Joining Keyed Bodied Sourced Arm Listed Answered Answered Bodied SortBy (List Valued) (value_in tables) (join_in tables) (key_in tables) (body_in tables) (source_in tables) (arm_in tables) (item_in tables) (element_in tables) (query_in tables) (select_in tables) (sort_key_in tables) (row_in tables)

  arm_by : (x : CaseArm-F Expr Join Key QueryBody Source CaseArm ListItem FromItem Query Select SortKey ValuesRow) → arm_layer (arm_parts a x) ≡ arm_layer (arm_parts b x) → arm_in a (roll-CaseArm x) ≡ arm_in b (roll-CaseArm x)
  arm_by x same = arm_gives a x ∙ same ∙ sym (arm_gives b x)

  arm_split : (x : CaseArm-F Expr Join Key QueryBody Source CaseArm ListItem FromItem Query Select SortKey ValuesRow) → Agree a b (named_in_arm (roll-CaseArm x)) → Agree a b (names.of_arm (map-CaseArm Expr Join Key QueryBody Source CaseArm ListItem FromItem Query Select SortKey ValuesRow Found Found Found Found Found Found Found Found Found Found Found Found named named_in_join named_in_key named_in_body named_in_source named_in_arm named_in_item named_in_from named_in_query named_in_select named_in_sort_key named_in_row x))
  arm_split x h = subst (Agree a b) (arm_names x) h

  abbrev item_parts : Maps → ListItem-F Expr Join Key QueryBody Source CaseArm ListItem FromItem Query Select SortKey ValuesRow → ListItem-F Valued Joining Keyed Bodied Sourced Arm Listed Answered Answered Bodied SortBy (List Valued)
  item_parts tables = map-ListItem Expr Join Key QueryBody Source CaseArm ListItem FromItem Query Select SortKey ValuesRow Valued Joining Keyed Bodied Sourced Arm Listed Answered Answered Bodied SortBy (List Valued) (value_in tables) (join_in tables) (key_in tables) (body_in tables) (source_in tables) (arm_in tables) (item_in tables) (element_in tables) (query_in tables) (select_in tables) (sort_key_in tables) (row_in tables)

  item_by : (x : ListItem-F Expr Join Key QueryBody Source CaseArm ListItem FromItem Query Select SortKey ValuesRow) → item_layer (item_parts a x) ≡ item_layer (item_parts b x) → item_in a (roll-ListItem x) ≡ item_in b (roll-ListItem x)
  item_by x same = item_gives a x ∙ same ∙ sym (item_gives b x)

  item_split : (x : ListItem-F Expr Join Key QueryBody Source CaseArm ListItem FromItem Query Select SortKey ValuesRow) → Agree a b (named_in_item (roll-ListItem x)) → Agree a b (names.of_list_item (map-ListItem Expr Join Key QueryBody Source CaseArm ListItem FromItem Query Select SortKey ValuesRow Found Found Found Found Found Found Found Found Found Found Found Found named named_in_join named_in_key named_in_body named_in_source named_in_arm named_in_item named_in_from named_in_query named_in_select named_in_sort_key named_in_row x))
  item_split x h = subst (Agree a b) (item_names x) h

  abbrev element_parts : Maps → FromItem-F Expr Join Key QueryBody Source CaseArm ListItem FromItem Query Select SortKey ValuesRow → FromItem-F Valued Joining Keyed Bodied Sourced Arm Listed Answered Answered Bodied SortBy (List Valued)
  element_parts tables = map-FromItem Expr Join Key QueryBody Source CaseArm ListItem FromItem Query Select SortKey ValuesRow Valued Joining Keyed Bodied Sourced Arm Listed Answered Answered Bodied SortBy (List Valued) (value_in tables) (join_in tables) (key_in tables) (body_in tables) (source_in tables) (arm_in tables) (item_in tables) (element_in tables) (query_in tables) (select_in tables) (sort_key_in tables) (row_in tables)

  element_by : (x : FromItem-F Expr Join Key QueryBody Source CaseArm ListItem FromItem Query Select SortKey ValuesRow) → of_element (element_parts a x) ≡ of_element (element_parts b x) → element_in a (roll-FromItem x) ≡ element_in b (roll-FromItem x)
  element_by x same = element_gives a x ∙ same ∙ sym (element_gives b x)

  element_split : (x : FromItem-F Expr Join Key QueryBody Source CaseArm ListItem FromItem Query Select SortKey ValuesRow) → Agree a b (named_in_from (roll-FromItem x)) → Agree a b (names.of_from (map-FromItem Expr Join Key QueryBody Source CaseArm ListItem FromItem Query Select SortKey ValuesRow Found Found Found Found Found Found Found Found Found Found Found Found named named_in_join named_in_key named_in_body named_in_source named_in_arm named_in_item named_in_from named_in_query named_in_select named_in_sort_key named_in_row x))
  element_split x h = subst (Agree a b) (element_names x) h

  abbrev query_parts : Maps → Query-F Expr Join Key QueryBody Source CaseArm ListItem FromItem Query Select SortKey ValuesRow → Query-F Valued Joining Keyed Bodied Sourced Arm Listed Answered Answered Bodied SortBy (List Valued)
  query_parts tables = map-Query Expr Join Key QueryBody Source CaseArm ListItem FromItem Query Select SortKey ValuesRow Valued Joining Keyed Bodied Sourced Arm Listed Answered Answered Bodied SortBy (List Valued) (value_in tables) (join_in tables) (key_in tables) (body_in tables) (source_in tables) (arm_in tables) (item_in tables) (element_in tables) (query_in tables) (select_in tables) (sort_key_in tables) (row_in tables)

  query_by : (x : Query-F Expr Join Key QueryBody Source CaseArm ListItem FromItem Query Select SortKey ValuesRow) → of_query (query_parts a x) ≡ of_query (query_parts b x) → query_in a (roll-Query x) ≡ query_in b (roll-Query x)
  query_by x same = query_gives a x ∙ same ∙ sym (query_gives b x)

  query_split : (x : Query-F Expr Join Key QueryBody Source CaseArm ListItem FromItem Query Select SortKey ValuesRow) → Agree a b (named_in_query (roll-Query x)) → Agree a b (names.of_query (map-Query Expr Join Key QueryBody Source CaseArm ListItem FromItem Query Select SortKey ValuesRow Found Found Found Found Found Found Found Found Found Found Found Found named named_in_join named_in_key named_in_body named_in_source named_in_arm named_in_item named_in_from named_in_query named_in_select named_in_sort_key named_in_row x))
  query_split x h = subst (Agree a b) (query_names x) h

  abbrev sort_key_parts : Maps → SortKey-F Expr Join Key QueryBody Source CaseArm ListItem FromItem Query Select SortKey ValuesRow → SortKey-F Valued Joining Keyed Bodied Sourced Arm Listed Answered Answered Bodied SortBy (List Valued)
  sort_key_parts tables = map-SortKey Expr Join Key QueryBody Source CaseArm ListItem FromItem Query Select SortKey ValuesRow Valued Joining Keyed Bodied Sourced Arm Listed Answered Answered Bodied SortBy (List Valued) (value_in tables) (join_in tables) (key_in tables) (body_in tables) (source_in tables) (arm_in tables) (item_in tables) (element_in tables) (query_in tables) (select_in tables) (sort_key_in tables) (row_in tables)

  sort_key_by : (x : SortKey-F Expr Join Key QueryBody Source CaseArm ListItem FromItem Query Select SortKey ValuesRow) → of_sort_key (sort_key_parts a x) ≡ of_sort_key (sort_key_parts b x) → sort_key_in a (roll-SortKey x) ≡ sort_key_in b (roll-SortKey x)
  sort_key_by x same = sort_key_gives a x ∙ same ∙ sym (sort_key_gives b x)

  sort_key_split : (x : SortKey-F Expr Join Key QueryBody Source CaseArm ListItem FromItem Query Select SortKey ValuesRow) → Agree a b (named_in_sort_key (roll-SortKey x)) → Agree a b (names.of_sort_key (map-SortKey Expr Join Key QueryBody Source CaseArm ListItem FromItem Query Select SortKey ValuesRow Found Found Found Found Found Found Found Found Found Found Found Found named named_in_join named_in_key named_in_body named_in_source named_in_arm named_in_item named_in_from named_in_query named_in_select named_in_sort_key named_in_row x))
  sort_key_split x h = subst (Agree a b) (sort_key_names x) h

  abbrev row_parts : Maps → ValuesRow-F Expr Join Key QueryBody Source CaseArm ListItem FromItem Query Select SortKey ValuesRow → ValuesRow-F Valued Joining Keyed Bodied Sourced Arm Listed Answered Answered Bodied SortBy (List Valued)
  row_parts tables = map-ValuesRow Expr Join Key QueryBody Source CaseArm ListItem FromItem Query Select SortKey ValuesRow Valued Joining Keyed Bodied Sourced Arm Listed Answered Answered Bodied SortBy (List Valued) (value_in tables) (join_in tables) (key_in tables) (body_in tables) (source_in tables) (arm_in tables) (item_in tables) (element_in tables) (query_in tables) (select_in tables) (sort_key_in tables) (row_in tables)

  row_by : (x : ValuesRow-F Expr Join Key QueryBody Source CaseArm ListItem FromItem Query Select SortKey ValuesRow) → of_row (row_parts a x) ≡ of_row (row_parts b x) → row_in a (roll-ValuesRow x) ≡ row_in b (roll-ValuesRow x)
  row_by x same = row_gives a x ∙ same ∙ sym (row_gives b x)

  row_split : (x : ValuesRow-F Expr Join Key QueryBody Source CaseArm ListItem FromItem Query Select SortKey ValuesRow) → Agree a b (named_in_row (roll-ValuesRow x)) → Agree a b (names.of_row (map-ValuesRow Expr Join Key QueryBody Source CaseArm ListItem FromItem Query Select SortKey ValuesRow Found Found Found Found Found Found Found Found Found Found Found Found named named_in_join named_in_key named_in_body named_in_source named_in_arm named_in_item named_in_from named_in_query named_in_select named_in_sort_key named_in_row x))
  row_split x h = subst (Agree a b) (row_names x) h

  -- ---- expressions

  value_step : (y : Expr-F PValue PJoin PKey PBody PSource PArm PItem PElement PQuery PSelect PSortKey PRow) → OnValue (roll-Expr (bare_value y))
  value_step (Expr-F.Literal x) h = value_by (Expr-F.Literal x) refl
  value_step (Expr-F.ReadText text reading) h = value_by (Expr-F.ReadText text reading) refl
  value_step (Expr-F.BadMoment timestamp text) h = value_by (Expr-F.BadMoment timestamp text) refl
  value_step (Expr-F.Column outward at) h = value_by (Expr-F.Column outward at) refl
  value_step (Expr-F.Unary operator p) h =
      let same = p.1 (value_split (Expr-F.Unary operator p.0) h) in
      value_by (Expr-F.Unary operator p.0) (λ i. value_layer (Expr-F.Unary operator (same i)))
  value_step (Expr-F.Binary operator p q) h =
      let all = value_split (Expr-F.Binary operator p.0 q.0) h in
      let x = p.1 (left_of (named p.0) (named q.0) all) in
      let y = q.1 (right_of (named p.0) (named q.0) all) in
      value_by (Expr-F.Binary operator p.0 q.0) (λ i. value_layer (Expr-F.Binary operator (x i) (y i)))
  value_step (Expr-F.Ternary operator p q r) h =
      let all = value_split (Expr-F.Ternary operator p.0 q.0 r.0) h in
      let both = left_of (named p.0 ++ named q.0) (named r.0) all in
      let x = p.1 (left_of (named p.0) (named q.0) both) in
      let y = q.1 (right_of (named p.0) (named q.0) both) in
      let z = r.1 (right_of (named p.0 ++ named q.0) (named r.0) all) in
      value_by (Expr-F.Ternary operator p.0 q.0 r.0) (λ i. value_layer (Expr-F.Ternary operator (x i) (y i) (z i)))
  value_step (Expr-F.InList p negated list) h =
      let all = value_split (Expr-F.InList p.0 negated (map (part_of named_in_item item_in) list)) h in
      let x = p.1 (left_of (named p.0) (concat (map named_in_item (map (part_of named_in_item item_in) list))) all) in
      let xs = all_same named_in_item item_in list (right_of (named p.0) (concat (map named_in_item (map (part_of named_in_item item_in) list))) all) in
      value_by (Expr-F.InList p.0 negated (map (part_of named_in_item item_in) list)) (λ i. value_layer (Expr-F.InList (x i) negated (xs i)))
  value_step (Expr-F.InQuery p negated q) h =
      let all = value_split (Expr-F.InQuery p.0 negated q.0) h in
      let x = p.1 (left_of (named p.0) (named_in_query q.0) all) in
      let y = q.1 (right_of (named p.0) (named_in_query q.0) all) in
      value_by (Expr-F.InQuery p.0 negated q.0) (λ i. value_layer (Expr-F.InQuery (x i) negated (y i)))
  value_step (Expr-F.Exists q) h =
      let same = q.1 (value_split (Expr-F.Exists q.0) h) in
      value_by (Expr-F.Exists q.0) (λ i. value_layer (Expr-F.Exists (same i)))
  value_step (Expr-F.Subquery q) h =
      let same = q.1 (value_split (Expr-F.Subquery q.0) h) in
      value_by (Expr-F.Subquery q.0) (λ i. value_layer (Expr-F.Subquery (same i)))
  value_step (Expr-F.Case kind arms None) h =
      let bare_arms = map (part_of named_in_arm arm_in) arms in
      let xs = all_same named_in_arm arm_in arms (left_of (concat (map named_in_arm bare_arms)) [] (value_split (Expr-F.Case kind bare_arms None) h)) in
      value_by (Expr-F.Case kind bare_arms None) (λ i. value_layer (Expr-F.Case kind (xs i) None))
  value_step (Expr-F.Case kind arms (Some p)) h =
      let bare_arms = map (part_of named_in_arm arm_in) arms in
      let all = value_split (Expr-F.Case kind bare_arms (Some p.0)) h in
      let xs = all_same named_in_arm arm_in arms (left_of (concat (map named_in_arm bare_arms)) (named p.0) all) in
      let x = p.1 (right_of (concat (map named_in_arm bare_arms)) (named p.0) all) in
      value_by (Expr-F.Case kind bare_arms (Some p.0)) (λ i. value_layer (Expr-F.Case kind (xs i) (Some (x i))))
  value_step (Expr-F.Coalesce kind operands) h =
      let xs = all_same named value_in operands (value_split (Expr-F.Coalesce kind (map (part_of named value_in) operands)) h) in
      value_by (Expr-F.Coalesce kind (map (part_of named value_in) operands)) (λ i. value_layer (Expr-F.Coalesce kind (xs i)))
  value_step Expr-F.CountRows h = value_by Expr-F.CountRows refl
  value_step (Expr-F.Aggregate function distinct p) h =
      let same = p.1 (value_split (Expr-F.Aggregate function distinct p.0) h) in
      value_by (Expr-F.Aggregate function distinct p.0) (λ i. value_layer (Expr-F.Aggregate function distinct (same i)))

  arm_step : (y : CaseArm-F PValue PJoin PKey PBody PSource PArm PItem PElement PQuery PSelect PSortKey PRow) → OnArm (roll-CaseArm (bare_arm y))
  arm_step y h =
      let all = arm_split (bare_arm y) h in
      let test = y.test.1 (left_of (named y.test.0) (named y.value.0) all) in
      let value = y.value.1 (right_of (named y.test.0) (named y.value.0) all) in
      arm_by (bare_arm y) (λ i. arm_layer (record { test = test i; value = value i }))

  item_step : (y : ListItem-F PValue PJoin PKey PBody PSource PArm PItem PElement PQuery PSelect PSortKey PRow) → OnItem (roll-ListItem (bare_item y))
  item_step y h =
      let value = y.value.1 (item_split (bare_item y) h) in
      item_by (bare_item y) (λ i. item_layer (record { reading = y.reading; value = value i }))

  -- ---- FROM

  source_step : (y : Source-F PValue PJoin PKey PBody PSource PArm PItem PElement PQuery PSelect PSortKey PRow) → OnSource (roll-Source (bare_source y))
  source_step (Source-F.Table table width) h =
      let rows = source_split (Source-F.Table table width) h table (at_head table []) in
      source_by (Source-F.Table table width) (λ i. record { width = width; rows = λ outer. Ok (values (rows i)) })
  source_step (Source-F.Derived q width) h =
      let same = q.1 (source_split (Source-F.Derived q.0 width) h) in
      source_by (Source-F.Derived q.0 width) (λ i. record { width = width; rows = same i })

  join_step : (y : Join-F PValue PJoin PKey PBody PSource PArm PItem PElement PQuery PSelect PSortKey PRow) → OnJoin (roll-Join (bare_join y))
  join_step (Join-F.Inner s on) h =
      let all = join_split (Join-F.Inner s.0 on.0) h in
      let x = s.1 (left_of (named_in_source s.0) (named on.0) all) in
      let y = on.1 (right_of (named_in_source s.0) (named on.0) all) in
      join_by (Join-F.Inner s.0 on.0) (λ i. of_join (Join-F.Inner (x i) (y i)))
  join_step (Join-F.Left s on) h =
      let all = join_split (Join-F.Left s.0 on.0) h in
      let x = s.1 (left_of (named_in_source s.0) (named on.0) all) in
      let y = on.1 (right_of (named_in_source s.0) (named on.0) all) in
      join_by (Join-F.Left s.0 on.0) (λ i. of_join (Join-F.Left (x i) (y i)))
  join_step (Join-F.Cross s) h =
      let same = s.1 (join_split (Join-F.Cross s.0) h) in
      join_by (Join-F.Cross s.0) (λ i. of_join (Join-F.Cross (same i)))

  element_step : (y : FromItem-F PValue PJoin PKey PBody PSource PArm PItem PElement PQuery PSelect PSortKey PRow) → OnElement (roll-FromItem (bare_element y))
  element_step y h =
      let bare_joins = map (part_of named_in_join join_in) y.joins in
      let all = element_split (bare_element y) h in
      let source = y.source.1 (left_of (named_in_source y.source.0) (concat (map named_in_join bare_joins)) all) in
      let joins = all_same named_in_join join_in y.joins (right_of (named_in_source y.source.0) (concat (map named_in_join bare_joins)) all) in
      element_by (bare_element y) (λ i. of_element (record { source = source i; joins = joins i }))

  -- ---- bodies

  -- a SELECT whose parts that may be left out are shown one by one
  abbrev spelled : Bool → Bool → List PValue → List PElement → Option PValue → List PValue → Option PValue → Select-F Expr Join Key QueryBody Source CaseArm ListItem FromItem Query Select SortKey ValuesRow
  spelled distinct grouped items from condition group_by having = record { distinct = distinct; items = map (part_of named value_in) items; from = map (part_of named_in_from element_in) from; filter = option_map (part_of named value_in) condition; grouped = grouped; group_by = map (part_of named value_in) group_by; having = option_map (part_of named value_in) having }

  spelled_is : (distinct grouped : Bool) (items : List PValue) (from : List PElement) (condition : Option PValue) (group_by : List PValue) (having : Option PValue) → spelled distinct grouped items from condition group_by having ≡ bare_select (record { distinct = distinct; items = items; from = from; filter = condition; grouped = grouped; group_by = group_by; having = having })
  spelled_is distinct grouped items from None group_by None = refl
  spelled_is distinct grouped items from None group_by (Some p) = refl
  spelled_is distinct grouped items from (Some p) group_by None = refl
  spelled_is distinct grouped items from (Some p) group_by (Some q) = refl

  select_spelled : (distinct grouped : Bool) (items : List PValue) (from : List PElement) (condition : Option PValue) (group_by : List PValue) (having : Option PValue) → OnSelect (roll-Select (spelled distinct grouped items from condition group_by having))
  select_spelled distinct grouped items from condition group_by having h =
      let bare_items = map (part_of named value_in) items in
      let bare_from = map (part_of named_in_from element_in) from in
      let bare_condition = option_map (part_of named value_in) condition in
      let bare_group_by = map (part_of named value_in) group_by in
      let bare_having = option_map (part_of named value_in) having in
      let in_from = concat (map named_in_from bare_from) in
      let in_filter = if_written (option_map named bare_condition) in
      let in_group_by = concat (map named bare_group_by) in
      let in_having = if_written (option_map named bare_having) in
      let in_items = concat (map named bare_items) in
      let all = subst (Agree a b) (select_lists distinct grouped bare_items bare_from bare_condition bare_group_by bare_having) h in
      let with_having = left_of (in_from ++ in_filter ++ in_group_by ++ in_having) in_items all in
      let with_group_by = left_of (in_from ++ in_filter ++ in_group_by) in_having with_having in
      let with_filter = left_of (in_from ++ in_filter) in_group_by with_group_by in
      let from_same = all_same named_in_from element_in from (left_of in_from in_filter with_filter) in
      let condition_same = one_same named value_in condition (right_of in_from in_filter with_filter) in
      let group_by_same = all_same named value_in group_by (right_of (in_from ++ in_filter) in_group_by with_group_by) in
      let having_same = one_same named value_in having (right_of (in_from ++ in_filter ++ in_group_by) in_having with_having) in
      let items_same = all_same named value_in items (right_of (in_from ++ in_filter ++ in_group_by ++ in_having) in_items all) in
      select_shows a distinct grouped bare_items bare_from bare_condition bare_group_by bare_having
      ∙ (λ i. of_select (record { distinct = distinct; items = items_same i; from = from_same i; filter = condition_same i; grouped = grouped; group_by = group_by_same i; having = having_same i }))
      ∙ sym (select_shows b distinct grouped bare_items bare_from bare_condition bare_group_by bare_having)

  select_step : (y : Select-F PValue PJoin PKey PBody PSource PArm PItem PElement PQuery PSelect PSortKey PRow) → OnSelect (roll-Select (bare_select y))
  select_step y = subst (λ z. OnSelect (roll-Select z)) (spelled_is y.distinct y.grouped y.items y.from y.filter y.group_by y.having) (select_spelled y.distinct y.grouped y.items y.from y.filter y.group_by y.having)

  row_step : (y : ValuesRow-F PValue PJoin PKey PBody PSource PArm PItem PElement PQuery PSelect PSortKey PRow) → OnRow (roll-ValuesRow (bare_row y))
  row_step y h =
      let same = all_same named value_in y.values (row_split (bare_row y) h) in
      row_by (bare_row y) (λ i. of_row (record { values = same i }))

  body_step : (y : QueryBody-F PValue PJoin PKey PBody PSource PArm PItem PElement PQuery PSelect PSortKey PRow) → OnBody (roll-QueryBody (bare_body y))
  body_step (QueryBody-F.Select s) h =
      let same = s.1 (body_split (QueryBody-F.Select s.0) h) in
      body_by (QueryBody-F.Select s.0) (λ i. of_body (QueryBody-F.Select (same i)))
  body_step (QueryBody-F.Values kinds rows) h =
      let bare_rows = map (part_of named_in_row row_in) rows in
      let same = all_same named_in_row row_in rows (body_split (QueryBody-F.Values kinds bare_rows) h) in
      body_by (QueryBody-F.Values kinds bare_rows) (λ i. of_body (QueryBody-F.Values kinds (same i)))
  body_step (QueryBody-F.SetOperation operator kinds p q) h =
      let all = body_split (QueryBody-F.SetOperation operator kinds p.0 q.0) h in
      let x = p.1 (left_of (named_in_body p.0) (named_in_body q.0) all) in
      let y = q.1 (right_of (named_in_body p.0) (named_in_body q.0) all) in
      body_by (QueryBody-F.SetOperation operator kinds p.0 q.0) (λ i. of_body (QueryBody-F.SetOperation operator kinds (x i) (y i)))

  -- ---- ORDER BY

  key_step : (y : Key-F PValue PJoin PKey PBody PSource PArm PItem PElement PQuery PSelect PSortKey PRow) → OnKey (roll-Key (bare_key y))
  key_step (Key-F.Output at) h = key_by (Key-F.Output at) refl
  key_step (Key-F.Value p) h =
      let same = p.1 (key_split (Key-F.Value p.0) h) in
      key_by (Key-F.Value p.0) (λ i. of_key (Key-F.Value (same i)))

  sort_key_step : (y : SortKey-F PValue PJoin PKey PBody PSource PArm PItem PElement PQuery PSelect PSortKey PRow) → OnSortKey (roll-SortKey (bare_sort_key y))
  sort_key_step y h =
      let same = y.key.1 (sort_key_split (bare_sort_key y) h) in
      sort_key_by (bare_sort_key y) (λ i. of_sort_key (record { key = same i; descending = y.descending }))

  query_step : (y : Query-F PValue PJoin PKey PBody PSource PArm PItem PElement PQuery PSelect PSortKey PRow) → OnQuery (roll-Query (bare_query y))
  query_step y h =
      let in_keys = concat (map named_in_sort_key (map (part_of named_in_sort_key sort_key_in) y.order_by)) in
      let all = query_split (bare_query y) h in
      let body = y.body.1 (left_of (named_in_body y.body.0) in_keys all) in
      let keys = all_same named_in_sort_key sort_key_in y.order_by (right_of (named_in_body y.body.0) in_keys all) in
      query_by (bare_query y) (λ i. of_query (record { body = body i; order_by = keys i; limit = y.limit }))

  -- ---- whole trees

  pub value_framed : (x : Expr) → OnValue x
  value_framed =
      ind-Expr OnValue OnJoin OnKey OnBody OnSource OnArm OnItem OnElement OnQuery OnSelect OnSortKey OnRow
      (λ x y is. subst (λ z. OnValue (roll-Expr z)) is (value_step y))
      (λ x y is. subst (λ z. OnJoin (roll-Join z)) is (join_step y))
      (λ x y is. subst (λ z. OnKey (roll-Key z)) is (key_step y))
      (λ x y is. subst (λ z. OnBody (roll-QueryBody z)) is (body_step y))
      (λ x y is. subst (λ z. OnSource (roll-Source z)) is (source_step y))
      (λ x y is. subst (λ z. OnArm (roll-CaseArm z)) is (arm_step y))
      (λ x y is. subst (λ z. OnItem (roll-ListItem z)) is (item_step y))
      (λ x y is. subst (λ z. OnElement (roll-FromItem z)) is (element_step y))
      (λ x y is. subst (λ z. OnQuery (roll-Query z)) is (query_step y))
      (λ x y is. subst (λ z. OnSelect (roll-Select z)) is (select_step y))
      (λ x y is. subst (λ z. OnSortKey (roll-SortKey z)) is (sort_key_step y))
      (λ x y is. subst (λ z. OnRow (roll-ValuesRow z)) is (row_step y))

  pub query_framed : (x : Query) → OnQuery x
  query_framed =
      ind-Query OnValue OnJoin OnKey OnBody OnSource OnArm OnItem OnElement OnQuery OnSelect OnSortKey OnRow
      (λ x y is. subst (λ z. OnValue (roll-Expr z)) is (value_step y))
      (λ x y is. subst (λ z. OnJoin (roll-Join z)) is (join_step y))
      (λ x y is. subst (λ z. OnKey (roll-Key z)) is (key_step y))
      (λ x y is. subst (λ z. OnBody (roll-QueryBody z)) is (body_step y))
      (λ x y is. subst (λ z. OnSource (roll-Source z)) is (source_step y))
      (λ x y is. subst (λ z. OnArm (roll-CaseArm z)) is (arm_step y))
      (λ x y is. subst (λ z. OnItem (roll-ListItem z)) is (item_step y))
      (λ x y is. subst (λ z. OnElement (roll-FromItem z)) is (element_step y))
      (λ x y is. subst (λ z. OnQuery (roll-Query z)) is (query_step y))
      (λ x y is. subst (λ z. OnSelect (roll-Select z)) is (select_step y))
      (λ x y is. subst (λ z. OnSortKey (roll-SortKey z)) is (sort_key_step y))
      (λ x y is. subst (λ z. OnRow (roll-ValuesRow z)) is (row_step y))
