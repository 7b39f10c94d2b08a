-- A fold that looks at no place gives the same of a tree whose places are all set to q.
use Rattle.std.proofs.Common.{◌≡◌, ℕ, Bool, List, [], ◌∷◌, map, Option, Some, None, refl, ap, sym, ◌∙◌, subst}
use Rattle.hs_ast.specs.Places.{placed_name, placed_if_named, of_expression as set_expression, of_query as set_query, of_key as set_key, of_item as set_item, of_table as set_table, placed_kind, placed_join, placed_body, placed_item, placed_table, placed_arm, placed, placed_from, placed_query, placed_select, placed_key, placed_row}
use Rattle.hs_ast.specs.declared.expression.ExpressionKind.TheOpen.{ExpressionKind-F, Join-F, QueryBody-F, SelectItem-F, TableReference-F, CaseArm-F, Expression-F, FromItem-F, Query-F, Select-F, SortKey-F, ValuesRow-F}
use Rattle.hs_ast.specs.declared.expression.ExpressionKind.{ExpressionKind, roll-ExpressionKind, map-ExpressionKind, fold-ExpressionKind, fold-roll-ExpressionKind}
use Rattle.hs_ast.specs.declared.query.Join.{Join, roll-Join, map-Join, fold-Join, fold-roll-Join}
use Rattle.hs_ast.specs.declared.query.QueryBody.{QueryBody, roll-QueryBody, map-QueryBody, fold-QueryBody, fold-roll-QueryBody}
use Rattle.hs_ast.specs.declared.query.SelectItem.{SelectItem, roll-SelectItem, map-SelectItem, fold-SelectItem, fold-roll-SelectItem}
use Rattle.hs_ast.specs.declared.query.TableReference.{TableReference, roll-TableReference, map-TableReference, fold-TableReference, fold-roll-TableReference}
use Rattle.hs_ast.specs.declared.expression.CaseArm.{CaseArm, roll-CaseArm, map-CaseArm, fold-CaseArm, fold-roll-CaseArm}
use Rattle.hs_ast.specs.declared.expression.Expression.{Expression, roll-Expression, map-Expression, fold-Expression, fold-roll-Expression, ind-Expression}
use Rattle.hs_ast.specs.declared.query.FromItem.{FromItem, roll-FromItem, map-FromItem, fold-FromItem, fold-roll-FromItem}
use Rattle.hs_ast.specs.declared.query.Query.{Query, roll-Query, map-Query, fold-Query, fold-roll-Query, ind-Query}
use Rattle.hs_ast.specs.declared.query.Select.{Select, roll-Select, map-Select, fold-Select, fold-roll-Select}
use Rattle.hs_ast.specs.declared.query.SortKey.{SortKey, roll-SortKey, map-SortKey, fold-SortKey, fold-roll-SortKey}
use Rattle.hs_ast.specs.declared.query.ValuesRow.{ValuesRow, roll-ValuesRow, map-ValuesRow, fold-ValuesRow, fold-roll-ValuesRow}
use Rattle.hs_ast.specs.declared.query.Limit.{Limit}
use Rattle.hs_ast.specs.declared.word.Identifier.{Identifier}

-- of parts with what is known of each beside it
held_again : {A B : Type 0} (f : A → B) (g : A → A) (xs : List ((a : A) × (f (g a) ≡ f a))) → map f (map g (map (λ x. x.0) xs)) ≡ map f (map (λ x. x.0) xs)
held_again f g [] = refl
held_again f g (x ∷ xs) = ap (λ z. z ∷ map f (map g (map (λ x. x.0) xs))) x.1 ∙ ap (λ z. f x.0 ∷ z) (held_again f g xs)

-- the fold's steps, one for each type of layer
module _ (OfKind OfJoin OfBody OfItem OfTable OfArm OfTree OfFrom OfQuery OfSelect OfKey OfRow : Type 0)
    (of_kind : ExpressionKind-F OfKind OfJoin OfBody OfItem OfTable OfArm OfTree OfFrom OfQuery OfSelect OfKey OfRow → OfKind)
    (of_join : Join-F OfKind OfJoin OfBody OfItem OfTable OfArm OfTree OfFrom OfQuery OfSelect OfKey OfRow → OfJoin)
    (of_body : QueryBody-F OfKind OfJoin OfBody OfItem OfTable OfArm OfTree OfFrom OfQuery OfSelect OfKey OfRow → OfBody)
    (of_item : SelectItem-F OfKind OfJoin OfBody OfItem OfTable OfArm OfTree OfFrom OfQuery OfSelect OfKey OfRow → OfItem)
    (of_table : TableReference-F OfKind OfJoin OfBody OfItem OfTable OfArm OfTree OfFrom OfQuery OfSelect OfKey OfRow → OfTable)
    (of_arm : CaseArm-F OfKind OfJoin OfBody OfItem OfTable OfArm OfTree OfFrom OfQuery OfSelect OfKey OfRow → OfArm)
    (of_tree : Expression-F OfKind OfJoin OfBody OfItem OfTable OfArm OfTree OfFrom OfQuery OfSelect OfKey OfRow → OfTree)
    (of_from : FromItem-F OfKind OfJoin OfBody OfItem OfTable OfArm OfTree OfFrom OfQuery OfSelect OfKey OfRow → OfFrom)
    (of_query : Query-F OfKind OfJoin OfBody OfItem OfTable OfArm OfTree OfFrom OfQuery OfSelect OfKey OfRow → OfQuery)
    (of_select : Select-F OfKind OfJoin OfBody OfItem OfTable OfArm OfTree OfFrom OfQuery OfSelect OfKey OfRow → OfSelect)
    (of_key : SortKey-F OfKind OfJoin OfBody OfItem OfTable OfArm OfTree OfFrom OfQuery OfSelect OfKey OfRow → OfKey)
    (of_row : ValuesRow-F OfKind OfJoin OfBody OfItem OfTable OfArm OfTree OfFrom OfQuery OfSelect OfKey OfRow → OfRow) where
  abbrev to_kind : ExpressionKind → OfKind
  to_kind = fold-ExpressionKind OfKind OfJoin OfBody OfItem OfTable OfArm OfTree OfFrom OfQuery OfSelect OfKey OfRow of_kind of_join of_body of_item of_table of_arm of_tree of_from of_query of_select of_key of_row

  abbrev to_join : Join → OfJoin
  to_join = fold-Join OfKind OfJoin OfBody OfItem OfTable OfArm OfTree OfFrom OfQuery OfSelect OfKey OfRow of_kind of_join of_body of_item of_table of_arm of_tree of_from of_query of_select of_key of_row

  abbrev to_body : QueryBody → OfBody
  to_body = fold-QueryBody OfKind OfJoin OfBody OfItem OfTable OfArm OfTree OfFrom OfQuery OfSelect OfKey OfRow of_kind of_join of_body of_item of_table of_arm of_tree of_from of_query of_select of_key of_row

  abbrev to_item : SelectItem → OfItem
  to_item = fold-SelectItem OfKind OfJoin OfBody OfItem OfTable OfArm OfTree OfFrom OfQuery OfSelect OfKey OfRow of_kind of_join of_body of_item of_table of_arm of_tree of_from of_query of_select of_key of_row

  abbrev to_table : TableReference → OfTable
  to_table = fold-TableReference OfKind OfJoin OfBody OfItem OfTable OfArm OfTree OfFrom OfQuery OfSelect OfKey OfRow of_kind of_join of_body of_item of_table of_arm of_tree of_from of_query of_select of_key of_row

  abbrev to_arm : CaseArm → OfArm
  to_arm = fold-CaseArm OfKind OfJoin OfBody OfItem OfTable OfArm OfTree OfFrom OfQuery OfSelect OfKey OfRow of_kind of_join of_body of_item of_table of_arm of_tree of_from of_query of_select of_key of_row

  abbrev to_tree : Expression → OfTree
  to_tree = fold-Expression OfKind OfJoin OfBody OfItem OfTable OfArm OfTree OfFrom OfQuery OfSelect OfKey OfRow of_kind of_join of_body of_item of_table of_arm of_tree of_from of_query of_select of_key of_row

  abbrev to_from : FromItem → OfFrom
  to_from = fold-FromItem OfKind OfJoin OfBody OfItem OfTable OfArm OfTree OfFrom OfQuery OfSelect OfKey OfRow of_kind of_join of_body of_item of_table of_arm of_tree of_from of_query of_select of_key of_row

  abbrev to_query : Query → OfQuery
  to_query = fold-Query OfKind OfJoin OfBody OfItem OfTable OfArm OfTree OfFrom OfQuery OfSelect OfKey OfRow of_kind of_join of_body of_item of_table of_arm of_tree of_from of_query of_select of_key of_row

  abbrev to_select : Select → OfSelect
  to_select = fold-Select OfKind OfJoin OfBody OfItem OfTable OfArm OfTree OfFrom OfQuery OfSelect OfKey OfRow of_kind of_join of_body of_item of_table of_arm of_tree of_from of_query of_select of_key of_row

  abbrev to_key : SortKey → OfKey
  to_key = fold-SortKey OfKind OfJoin OfBody OfItem OfTable OfArm OfTree OfFrom OfQuery OfSelect OfKey OfRow of_kind of_join of_body of_item of_table of_arm of_tree of_from of_query of_select of_key of_row

  abbrev to_row : ValuesRow → OfRow
  to_row = fold-ValuesRow OfKind OfJoin OfBody OfItem OfTable OfArm OfTree OfFrom OfQuery OfSelect OfKey OfRow of_kind of_join of_body of_item of_table of_arm of_tree of_from of_query of_select of_key of_row

  abbrev tree_at : ℕ → OfKind → Expression-F OfKind OfJoin OfBody OfItem OfTable OfArm OfTree OfFrom OfQuery OfSelect OfKey OfRow
  tree_at at kind = record { at = at; kind = kind }

  abbrev query_at : ℕ → OfBody → List OfKey → Option Limit → Query-F OfKind OfJoin OfBody OfItem OfTable OfArm OfTree OfFrom OfQuery OfSelect OfKey OfRow
  query_at at body order_by limit = record { at = at; body = body; order_by = order_by; limit = limit }

  abbrev key_at : ℕ → OfTree → Bool → SortKey-F OfKind OfJoin OfBody OfItem OfTable OfArm OfTree OfFrom OfQuery OfSelect OfKey OfRow
  key_at at value descending = record { at = at; value = value; descending = descending }

  -- they look at no place
  pub record LooksAtNoPlace : Type 0 where
    pub tree : (p q : ℕ) (k : OfKind) → of_tree (tree_at p k) ≡ of_tree (tree_at q k)
    pub query : (p q : ℕ) (b : OfBody) (keys : List OfKey) (l : Option Limit) → of_query (query_at p b keys l) ≡ of_query (query_at q b keys l)
    pub key : (p q : ℕ) (e : OfTree) (descending : Bool) → of_key (key_at p e descending) ≡ of_key (key_at q e descending)
    pub every : (p q : ℕ) → of_item (SelectItem-F.Every p) ≡ of_item (SelectItem-F.Every q)
    pub one : (p q : ℕ) (e : OfTree) (alias : Option Identifier) → of_item (SelectItem-F.One p e (placed_if_named p alias)) ≡ of_item (SelectItem-F.One q e alias)
    pub named : (p : ℕ) (name : Identifier) (alias : Option Identifier) → of_table (TableReference-F.Named (placed_name p name) (placed_if_named p alias)) ≡ of_table (TableReference-F.Named name alias)
    pub derived : (p : ℕ) (query : OfQuery) (alias : Identifier) → of_table (TableReference-F.Derived query (placed_name p alias)) ≡ of_table (TableReference-F.Derived query alias)

  module _ (q : ℕ) (looks : LooksAtNoPlace) where
    abbrev KindAgain : ExpressionKind → Type 0
    KindAgain d = to_kind (placed_kind q d) ≡ to_kind d

    abbrev BothKind : Type 0
    BothKind = (d : ExpressionKind) × KindAgain d

    abbrev JoinAgain : Join → Type 0
    JoinAgain d = to_join (placed_join q d) ≡ to_join d

    abbrev BothJoin : Type 0
    BothJoin = (d : Join) × JoinAgain d

    abbrev BodyAgain : QueryBody → Type 0
    BodyAgain d = to_body (placed_body q d) ≡ to_body d

    abbrev BothBody : Type 0
    BothBody = (d : QueryBody) × BodyAgain d

    abbrev ItemAgain : SelectItem → Type 0
    ItemAgain d = to_item (placed_item q d) ≡ to_item d

    abbrev BothItem : Type 0
    BothItem = (d : SelectItem) × ItemAgain d

    abbrev TableAgain : TableReference → Type 0
    TableAgain d = to_table (placed_table q d) ≡ to_table d

    abbrev BothTable : Type 0
    BothTable = (d : TableReference) × TableAgain d

    abbrev ArmAgain : CaseArm → Type 0
    ArmAgain d = to_arm (placed_arm q d) ≡ to_arm d

    abbrev BothArm : Type 0
    BothArm = (d : CaseArm) × ArmAgain d

    abbrev TreeAgain : Expression → Type 0
    TreeAgain d = to_tree (placed q d) ≡ to_tree d

    abbrev BothTree : Type 0
    BothTree = (d : Expression) × TreeAgain d

    abbrev FromAgain : FromItem → Type 0
    FromAgain d = to_from (placed_from q d) ≡ to_from d

    abbrev BothFrom : Type 0
    BothFrom = (d : FromItem) × FromAgain d

    abbrev QueryAgain : Query → Type 0
    QueryAgain d = to_query (placed_query q d) ≡ to_query d

    abbrev BothQuery : Type 0
    BothQuery = (d : Query) × QueryAgain d

    abbrev SelectAgain : Select → Type 0
    SelectAgain d = to_select (placed_select q d) ≡ to_select d

    abbrev BothSelect : Type 0
    BothSelect = (d : Select) × SelectAgain d

    abbrev KeyAgain : SortKey → Type 0
    KeyAgain d = to_key (placed_key q d) ≡ to_key d

    abbrev BothKey : Type 0
    BothKey = (d : SortKey) × KeyAgain d

    abbrev RowAgain : ValuesRow → Type 0
    RowAgain d = to_row (placed_row q d) ≡ to_row d

    abbrev BothRow : Type 0
    BothRow = (d : ValuesRow) × RowAgain d

    abbrev kind_held : ExpressionKind-F BothKind BothJoin BothBody BothItem BothTable BothArm BothTree BothFrom BothQuery BothSelect BothKey BothRow → ExpressionKind-F ExpressionKind Join QueryBody SelectItem TableReference CaseArm Expression FromItem Query Select SortKey ValuesRow
    kind_held = map-ExpressionKind BothKind BothJoin BothBody BothItem BothTable BothArm BothTree BothFrom BothQuery BothSelect BothKey BothRow ExpressionKind Join QueryBody SelectItem TableReference CaseArm Expression FromItem Query Select SortKey ValuesRow (λ d. d.0) (λ d. d.0) (λ d. d.0) (λ d. d.0) (λ d. d.0) (λ d. d.0) (λ d. d.0) (λ d. d.0) (λ d. d.0) (λ d. d.0) (λ d. d.0) (λ d. d.0)

    abbrev kind_set : ℕ → ExpressionKind-F ExpressionKind Join QueryBody SelectItem TableReference CaseArm Expression FromItem Query Select SortKey ValuesRow → ExpressionKind-F ExpressionKind Join QueryBody SelectItem TableReference CaseArm Expression FromItem Query Select SortKey ValuesRow
    kind_set z = map-ExpressionKind ExpressionKind Join QueryBody SelectItem TableReference CaseArm Expression FromItem Query Select SortKey ValuesRow ExpressionKind Join QueryBody SelectItem TableReference CaseArm Expression FromItem Query Select SortKey ValuesRow (placed_kind z) (placed_join z) (placed_body z) (placed_item z) (placed_table z) (placed_arm z) (placed z) (placed_from z) (placed_query z) (placed_select z) (placed_key z) (placed_row z)

    abbrev kind_out : ExpressionKind-F ExpressionKind Join QueryBody SelectItem TableReference CaseArm Expression FromItem Query Select SortKey ValuesRow → ExpressionKind-F OfKind OfJoin OfBody OfItem OfTable OfArm OfTree OfFrom OfQuery OfSelect OfKey OfRow
    kind_out = map-ExpressionKind ExpressionKind Join QueryBody SelectItem TableReference CaseArm Expression FromItem Query Select SortKey ValuesRow OfKind OfJoin OfBody OfItem OfTable OfArm OfTree OfFrom OfQuery OfSelect OfKey OfRow to_kind to_join to_body to_item to_table to_arm to_tree to_from to_query to_select to_key to_row

    abbrev join_held : Join-F BothKind BothJoin BothBody BothItem BothTable BothArm BothTree BothFrom BothQuery BothSelect BothKey BothRow → Join-F ExpressionKind Join QueryBody SelectItem TableReference CaseArm Expression FromItem Query Select SortKey ValuesRow
    join_held = map-Join BothKind BothJoin BothBody BothItem BothTable BothArm BothTree BothFrom BothQuery BothSelect BothKey BothRow ExpressionKind Join QueryBody SelectItem TableReference CaseArm Expression FromItem Query Select SortKey ValuesRow (λ d. d.0) (λ d. d.0) (λ d. d.0) (λ d. d.0) (λ d. d.0) (λ d. d.0) (λ d. d.0) (λ d. d.0) (λ d. d.0) (λ d. d.0) (λ d. d.0) (λ d. d.0)

    abbrev join_set : ℕ → Join-F ExpressionKind Join QueryBody SelectItem TableReference CaseArm Expression FromItem Query Select SortKey ValuesRow → Join-F ExpressionKind Join QueryBody SelectItem TableReference CaseArm Expression FromItem Query Select SortKey ValuesRow
    join_set z = map-Join ExpressionKind Join QueryBody SelectItem TableReference CaseArm Expression FromItem Query Select SortKey ValuesRow ExpressionKind Join QueryBody SelectItem TableReference CaseArm Expression FromItem Query Select SortKey ValuesRow (placed_kind z) (placed_join z) (placed_body z) (placed_item z) (placed_table z) (placed_arm z) (placed z) (placed_from z) (placed_query z) (placed_select z) (placed_key z) (placed_row z)

    abbrev join_out : Join-F ExpressionKind Join QueryBody SelectItem TableReference CaseArm Expression FromItem Query Select SortKey ValuesRow → Join-F OfKind OfJoin OfBody OfItem OfTable OfArm OfTree OfFrom OfQuery OfSelect OfKey OfRow
    join_out = map-Join ExpressionKind Join QueryBody SelectItem TableReference CaseArm Expression FromItem Query Select SortKey ValuesRow OfKind OfJoin OfBody OfItem OfTable OfArm OfTree OfFrom OfQuery OfSelect OfKey OfRow to_kind to_join to_body to_item to_table to_arm to_tree to_from to_query to_select to_key to_row

    abbrev body_held : QueryBody-F BothKind BothJoin BothBody BothItem BothTable BothArm BothTree BothFrom BothQuery BothSelect BothKey BothRow → QueryBody-F ExpressionKind Join QueryBody SelectItem TableReference CaseArm Expression FromItem Query Select SortKey ValuesRow
    body_held = map-QueryBody BothKind BothJoin BothBody BothItem BothTable BothArm BothTree BothFrom BothQuery BothSelect BothKey BothRow ExpressionKind Join QueryBody SelectItem TableReference CaseArm Expression FromItem Query Select SortKey ValuesRow (λ d. d.0) (λ d. d.0) (λ d. d.0) (λ d. d.0) (λ d. d.0) (λ d. d.0) (λ d. d.0) (λ d. d.0) (λ d. d.0) (λ d. d.0) (λ d. d.0) (λ d. d.0)

    abbrev body_set : ℕ → QueryBody-F ExpressionKind Join QueryBody SelectItem TableReference CaseArm Expression FromItem Query Select SortKey ValuesRow → QueryBody-F ExpressionKind Join QueryBody SelectItem TableReference CaseArm Expression FromItem Query Select SortKey ValuesRow
    body_set z = map-QueryBody ExpressionKind Join QueryBody SelectItem TableReference CaseArm Expression FromItem Query Select SortKey ValuesRow ExpressionKind Join QueryBody SelectItem TableReference CaseArm Expression FromItem Query Select SortKey ValuesRow (placed_kind z) (placed_join z) (placed_body z) (placed_item z) (placed_table z) (placed_arm z) (placed z) (placed_from z) (placed_query z) (placed_select z) (placed_key z) (placed_row z)

    abbrev body_out : QueryBody-F ExpressionKind Join QueryBody SelectItem TableReference CaseArm Expression FromItem Query Select SortKey ValuesRow → QueryBody-F OfKind OfJoin OfBody OfItem OfTable OfArm OfTree OfFrom OfQuery OfSelect OfKey OfRow
    body_out = map-QueryBody ExpressionKind Join QueryBody SelectItem TableReference CaseArm Expression FromItem Query Select SortKey ValuesRow OfKind OfJoin OfBody OfItem OfTable OfArm OfTree OfFrom OfQuery OfSelect OfKey OfRow to_kind to_join to_body to_item to_table to_arm to_tree to_from to_query to_select to_key to_row

    abbrev item_held : SelectItem-F BothKind BothJoin BothBody BothItem BothTable BothArm BothTree BothFrom BothQuery BothSelect BothKey BothRow → SelectItem-F ExpressionKind Join QueryBody SelectItem TableReference CaseArm Expression FromItem Query Select SortKey ValuesRow
    item_held = map-SelectItem BothKind BothJoin BothBody BothItem BothTable BothArm BothTree BothFrom BothQuery BothSelect BothKey BothRow ExpressionKind Join QueryBody SelectItem TableReference CaseArm Expression FromItem Query Select SortKey ValuesRow (λ d. d.0) (λ d. d.0) (λ d. d.0) (λ d. d.0) (λ d. d.0) (λ d. d.0) (λ d. d.0) (λ d. d.0) (λ d. d.0) (λ d. d.0) (λ d. d.0) (λ d. d.0)

    abbrev item_set : ℕ → SelectItem-F ExpressionKind Join QueryBody SelectItem TableReference CaseArm Expression FromItem Query Select SortKey ValuesRow → SelectItem-F ExpressionKind Join QueryBody SelectItem TableReference CaseArm Expression FromItem Query Select SortKey ValuesRow
    item_set z = map-SelectItem ExpressionKind Join QueryBody SelectItem TableReference CaseArm Expression FromItem Query Select SortKey ValuesRow ExpressionKind Join QueryBody SelectItem TableReference CaseArm Expression FromItem Query Select SortKey ValuesRow (placed_kind z) (placed_join z) (placed_body z) (placed_item z) (placed_table z) (placed_arm z) (placed z) (placed_from z) (placed_query z) (placed_select z) (placed_key z) (placed_row z)

    abbrev item_out : SelectItem-F ExpressionKind Join QueryBody SelectItem TableReference CaseArm Expression FromItem Query Select SortKey ValuesRow → SelectItem-F OfKind OfJoin OfBody OfItem OfTable OfArm OfTree OfFrom OfQuery OfSelect OfKey OfRow
    item_out = map-SelectItem ExpressionKind Join QueryBody SelectItem TableReference CaseArm Expression FromItem Query Select SortKey ValuesRow OfKind OfJoin OfBody OfItem OfTable OfArm OfTree OfFrom OfQuery OfSelect OfKey OfRow to_kind to_join to_body to_item to_table to_arm to_tree to_from to_query to_select to_key to_row

    abbrev table_held : TableReference-F BothKind BothJoin BothBody BothItem BothTable BothArm BothTree BothFrom BothQuery BothSelect BothKey BothRow → TableReference-F ExpressionKind Join QueryBody SelectItem TableReference CaseArm Expression FromItem Query Select SortKey ValuesRow
    table_held = map-TableReference BothKind BothJoin BothBody BothItem BothTable BothArm BothTree BothFrom BothQuery BothSelect BothKey BothRow ExpressionKind Join QueryBody SelectItem TableReference CaseArm Expression FromItem Query Select SortKey ValuesRow (λ d. d.0) (λ d. d.0) (λ d. d.0) (λ d. d.0) (λ d. d.0) (λ d. d.0) (λ d. d.0) (λ d. d.0) (λ d. d.0) (λ d. d.0) (λ d. d.0) (λ d. d.0)

    abbrev table_set : ℕ → TableReference-F ExpressionKind Join QueryBody SelectItem TableReference CaseArm Expression FromItem Query Select SortKey ValuesRow → TableReference-F ExpressionKind Join QueryBody SelectItem TableReference CaseArm Expression FromItem Query Select SortKey ValuesRow
    table_set z = map-TableReference ExpressionKind Join QueryBody SelectItem TableReference CaseArm Expression FromItem Query Select SortKey ValuesRow ExpressionKind Join QueryBody SelectItem TableReference CaseArm Expression FromItem Query Select SortKey ValuesRow (placed_kind z) (placed_join z) (placed_body z) (placed_item z) (placed_table z) (placed_arm z) (placed z) (placed_from z) (placed_query z) (placed_select z) (placed_key z) (placed_row z)

    abbrev table_out : TableReference-F ExpressionKind Join QueryBody SelectItem TableReference CaseArm Expression FromItem Query Select SortKey ValuesRow → TableReference-F OfKind OfJoin OfBody OfItem OfTable OfArm OfTree OfFrom OfQuery OfSelect OfKey OfRow
    table_out = map-TableReference ExpressionKind Join QueryBody SelectItem TableReference CaseArm Expression FromItem Query Select SortKey ValuesRow OfKind OfJoin OfBody OfItem OfTable OfArm OfTree OfFrom OfQuery OfSelect OfKey OfRow to_kind to_join to_body to_item to_table to_arm to_tree to_from to_query to_select to_key to_row

    abbrev arm_held : CaseArm-F BothKind BothJoin BothBody BothItem BothTable BothArm BothTree BothFrom BothQuery BothSelect BothKey BothRow → CaseArm-F ExpressionKind Join QueryBody SelectItem TableReference CaseArm Expression FromItem Query Select SortKey ValuesRow
    arm_held = map-CaseArm BothKind BothJoin BothBody BothItem BothTable BothArm BothTree BothFrom BothQuery BothSelect BothKey BothRow ExpressionKind Join QueryBody SelectItem TableReference CaseArm Expression FromItem Query Select SortKey ValuesRow (λ d. d.0) (λ d. d.0) (λ d. d.0) (λ d. d.0) (λ d. d.0) (λ d. d.0) (λ d. d.0) (λ d. d.0) (λ d. d.0) (λ d. d.0) (λ d. d.0) (λ d. d.0)

    abbrev arm_set : ℕ → CaseArm-F ExpressionKind Join QueryBody SelectItem TableReference CaseArm Expression FromItem Query Select SortKey ValuesRow → CaseArm-F ExpressionKind Join QueryBody SelectItem TableReference CaseArm Expression FromItem Query Select SortKey ValuesRow
    arm_set z = map-CaseArm ExpressionKind Join QueryBody SelectItem TableReference CaseArm Expression FromItem Query Select SortKey ValuesRow ExpressionKind Join QueryBody SelectItem TableReference CaseArm Expression FromItem Query Select SortKey ValuesRow (placed_kind z) (placed_join z) (placed_body z) (placed_item z) (placed_table z) (placed_arm z) (placed z) (placed_from z) (placed_query z) (placed_select z) (placed_key z) (placed_row z)

    abbrev arm_out : CaseArm-F ExpressionKind Join QueryBody SelectItem TableReference CaseArm Expression FromItem Query Select SortKey ValuesRow → CaseArm-F OfKind OfJoin OfBody OfItem OfTable OfArm OfTree OfFrom OfQuery OfSelect OfKey OfRow
    arm_out = map-CaseArm ExpressionKind Join QueryBody SelectItem TableReference CaseArm Expression FromItem Query Select SortKey ValuesRow OfKind OfJoin OfBody OfItem OfTable OfArm OfTree OfFrom OfQuery OfSelect OfKey OfRow to_kind to_join to_body to_item to_table to_arm to_tree to_from to_query to_select to_key to_row

    abbrev tree_held : Expression-F BothKind BothJoin BothBody BothItem BothTable BothArm BothTree BothFrom BothQuery BothSelect BothKey BothRow → Expression-F ExpressionKind Join QueryBody SelectItem TableReference CaseArm Expression FromItem Query Select SortKey ValuesRow
    tree_held = map-Expression BothKind BothJoin BothBody BothItem BothTable BothArm BothTree BothFrom BothQuery BothSelect BothKey BothRow ExpressionKind Join QueryBody SelectItem TableReference CaseArm Expression FromItem Query Select SortKey ValuesRow (λ d. d.0) (λ d. d.0) (λ d. d.0) (λ d. d.0) (λ d. d.0) (λ d. d.0) (λ d. d.0) (λ d. d.0) (λ d. d.0) (λ d. d.0) (λ d. d.0) (λ d. d.0)

    abbrev tree_set : ℕ → Expression-F ExpressionKind Join QueryBody SelectItem TableReference CaseArm Expression FromItem Query Select SortKey ValuesRow → Expression-F ExpressionKind Join QueryBody SelectItem TableReference CaseArm Expression FromItem Query Select SortKey ValuesRow
    tree_set z = map-Expression ExpressionKind Join QueryBody SelectItem TableReference CaseArm Expression FromItem Query Select SortKey ValuesRow ExpressionKind Join QueryBody SelectItem TableReference CaseArm Expression FromItem Query Select SortKey ValuesRow (placed_kind z) (placed_join z) (placed_body z) (placed_item z) (placed_table z) (placed_arm z) (placed z) (placed_from z) (placed_query z) (placed_select z) (placed_key z) (placed_row z)

    abbrev tree_out : Expression-F ExpressionKind Join QueryBody SelectItem TableReference CaseArm Expression FromItem Query Select SortKey ValuesRow → Expression-F OfKind OfJoin OfBody OfItem OfTable OfArm OfTree OfFrom OfQuery OfSelect OfKey OfRow
    tree_out = map-Expression ExpressionKind Join QueryBody SelectItem TableReference CaseArm Expression FromItem Query Select SortKey ValuesRow OfKind OfJoin OfBody OfItem OfTable OfArm OfTree OfFrom OfQuery OfSelect OfKey OfRow to_kind to_join to_body to_item to_table to_arm to_tree to_from to_query to_select to_key to_row

    abbrev from_held : FromItem-F BothKind BothJoin BothBody BothItem BothTable BothArm BothTree BothFrom BothQuery BothSelect BothKey BothRow → FromItem-F ExpressionKind Join QueryBody SelectItem TableReference CaseArm Expression FromItem Query Select SortKey ValuesRow
    from_held = map-FromItem BothKind BothJoin BothBody BothItem BothTable BothArm BothTree BothFrom BothQuery BothSelect BothKey BothRow ExpressionKind Join QueryBody SelectItem TableReference CaseArm Expression FromItem Query Select SortKey ValuesRow (λ d. d.0) (λ d. d.0) (λ d. d.0) (λ d. d.0) (λ d. d.0) (λ d. d.0) (λ d. d.0) (λ d. d.0) (λ d. d.0) (λ d. d.0) (λ d. d.0) (λ d. d.0)

    abbrev from_set : ℕ → FromItem-F ExpressionKind Join QueryBody SelectItem TableReference CaseArm Expression FromItem Query Select SortKey ValuesRow → FromItem-F ExpressionKind Join QueryBody SelectItem TableReference CaseArm Expression FromItem Query Select SortKey ValuesRow
    from_set z = map-FromItem ExpressionKind Join QueryBody SelectItem TableReference CaseArm Expression FromItem Query Select SortKey ValuesRow ExpressionKind Join QueryBody SelectItem TableReference CaseArm Expression FromItem Query Select SortKey ValuesRow (placed_kind z) (placed_join z) (placed_body z) (placed_item z) (placed_table z) (placed_arm z) (placed z) (placed_from z) (placed_query z) (placed_select z) (placed_key z) (placed_row z)

    abbrev from_out : FromItem-F ExpressionKind Join QueryBody SelectItem TableReference CaseArm Expression FromItem Query Select SortKey ValuesRow → FromItem-F OfKind OfJoin OfBody OfItem OfTable OfArm OfTree OfFrom OfQuery OfSelect OfKey OfRow
    from_out = map-FromItem ExpressionKind Join QueryBody SelectItem TableReference CaseArm Expression FromItem Query Select SortKey ValuesRow OfKind OfJoin OfBody OfItem OfTable OfArm OfTree OfFrom OfQuery OfSelect OfKey OfRow to_kind to_join to_body to_item to_table to_arm to_tree to_from to_query to_select to_key to_row

    abbrev query_held : Query-F BothKind BothJoin BothBody BothItem BothTable BothArm BothTree BothFrom BothQuery BothSelect BothKey BothRow → Query-F ExpressionKind Join QueryBody SelectItem TableReference CaseArm Expression FromItem Query Select SortKey ValuesRow
    query_held = map-Query BothKind BothJoin BothBody BothItem BothTable BothArm BothTree BothFrom BothQuery BothSelect BothKey BothRow ExpressionKind Join QueryBody SelectItem TableReference CaseArm Expression FromItem Query Select SortKey ValuesRow (λ d. d.0) (λ d. d.0) (λ d. d.0) (λ d. d.0) (λ d. d.0) (λ d. d.0) (λ d. d.0) (λ d. d.0) (λ d. d.0) (λ d. d.0) (λ d. d.0) (λ d. d.0)

    abbrev query_set : ℕ → Query-F ExpressionKind Join QueryBody SelectItem TableReference CaseArm Expression FromItem Query Select SortKey ValuesRow → Query-F ExpressionKind Join QueryBody SelectItem TableReference CaseArm Expression FromItem Query Select SortKey ValuesRow
    query_set z = map-Query ExpressionKind Join QueryBody SelectItem TableReference CaseArm Expression FromItem Query Select SortKey ValuesRow ExpressionKind Join QueryBody SelectItem TableReference CaseArm Expression FromItem Query Select SortKey ValuesRow (placed_kind z) (placed_join z) (placed_body z) (placed_item z) (placed_table z) (placed_arm z) (placed z) (placed_from z) (placed_query z) (placed_select z) (placed_key z) (placed_row z)

    abbrev query_out : Query-F ExpressionKind Join QueryBody SelectItem TableReference CaseArm Expression FromItem Query Select SortKey ValuesRow → Query-F OfKind OfJoin OfBody OfItem OfTable OfArm OfTree OfFrom OfQuery OfSelect OfKey OfRow
    query_out = map-Query ExpressionKind Join QueryBody SelectItem TableReference CaseArm Expression FromItem Query Select SortKey ValuesRow OfKind OfJoin OfBody OfItem OfTable OfArm OfTree OfFrom OfQuery OfSelect OfKey OfRow to_kind to_join to_body to_item to_table to_arm to_tree to_from to_query to_select to_key to_row

    abbrev select_held : Select-F BothKind BothJoin BothBody BothItem BothTable BothArm BothTree BothFrom BothQuery BothSelect BothKey BothRow → Select-F ExpressionKind Join QueryBody SelectItem TableReference CaseArm Expression FromItem Query Select SortKey ValuesRow
    select_held = map-Select BothKind BothJoin BothBody BothItem BothTable BothArm BothTree BothFrom BothQuery BothSelect BothKey BothRow ExpressionKind Join QueryBody SelectItem TableReference CaseArm Expression FromItem Query Select SortKey ValuesRow (λ d. d.0) (λ d. d.0) (λ d. d.0) (λ d. d.0) (λ d. d.0) (λ d. d.0) (λ d. d.0) (λ d. d.0) (λ d. d.0) (λ d. d.0) (λ d. d.0) (λ d. d.0)

    abbrev select_set : ℕ → Select-F ExpressionKind Join QueryBody SelectItem TableReference CaseArm Expression FromItem Query Select SortKey ValuesRow → Select-F ExpressionKind Join QueryBody SelectItem TableReference CaseArm Expression FromItem Query Select SortKey ValuesRow
    select_set z = map-Select ExpressionKind Join QueryBody SelectItem TableReference CaseArm Expression FromItem Query Select SortKey ValuesRow ExpressionKind Join QueryBody SelectItem TableReference CaseArm Expression FromItem Query Select SortKey ValuesRow (placed_kind z) (placed_join z) (placed_body z) (placed_item z) (placed_table z) (placed_arm z) (placed z) (placed_from z) (placed_query z) (placed_select z) (placed_key z) (placed_row z)

    abbrev select_out : Select-F ExpressionKind Join QueryBody SelectItem TableReference CaseArm Expression FromItem Query Select SortKey ValuesRow → Select-F OfKind OfJoin OfBody OfItem OfTable OfArm OfTree OfFrom OfQuery OfSelect OfKey OfRow
    select_out = map-Select ExpressionKind Join QueryBody SelectItem TableReference CaseArm Expression FromItem Query Select SortKey ValuesRow OfKind OfJoin OfBody OfItem OfTable OfArm OfTree OfFrom OfQuery OfSelect OfKey OfRow to_kind to_join to_body to_item to_table to_arm to_tree to_from to_query to_select to_key to_row

    abbrev key_held : SortKey-F BothKind BothJoin BothBody BothItem BothTable BothArm BothTree BothFrom BothQuery BothSelect BothKey BothRow → SortKey-F ExpressionKind Join QueryBody SelectItem TableReference CaseArm Expression FromItem Query Select SortKey ValuesRow
    key_held = map-SortKey BothKind BothJoin BothBody BothItem BothTable BothArm BothTree BothFrom BothQuery BothSelect BothKey BothRow ExpressionKind Join QueryBody SelectItem TableReference CaseArm Expression FromItem Query Select SortKey ValuesRow (λ d. d.0) (λ d. d.0) (λ d. d.0) (λ d. d.0) (λ d. d.0) (λ d. d.0) (λ d. d.0) (λ d. d.0) (λ d. d.0) (λ d. d.0) (λ d. d.0) (λ d. d.0)

    abbrev key_set : ℕ → SortKey-F ExpressionKind Join QueryBody SelectItem TableReference CaseArm Expression FromItem Query Select SortKey ValuesRow → SortKey-F ExpressionKind Join QueryBody SelectItem TableReference CaseArm Expression FromItem Query Select SortKey ValuesRow
    key_set z = map-SortKey ExpressionKind Join QueryBody SelectItem TableReference CaseArm Expression FromItem Query Select SortKey ValuesRow ExpressionKind Join QueryBody SelectItem TableReference CaseArm Expression FromItem Query Select SortKey ValuesRow (placed_kind z) (placed_join z) (placed_body z) (placed_item z) (placed_table z) (placed_arm z) (placed z) (placed_from z) (placed_query z) (placed_select z) (placed_key z) (placed_row z)

    abbrev key_out : SortKey-F ExpressionKind Join QueryBody SelectItem TableReference CaseArm Expression FromItem Query Select SortKey ValuesRow → SortKey-F OfKind OfJoin OfBody OfItem OfTable OfArm OfTree OfFrom OfQuery OfSelect OfKey OfRow
    key_out = map-SortKey ExpressionKind Join QueryBody SelectItem TableReference CaseArm Expression FromItem Query Select SortKey ValuesRow OfKind OfJoin OfBody OfItem OfTable OfArm OfTree OfFrom OfQuery OfSelect OfKey OfRow to_kind to_join to_body to_item to_table to_arm to_tree to_from to_query to_select to_key to_row

    abbrev row_held : ValuesRow-F BothKind BothJoin BothBody BothItem BothTable BothArm BothTree BothFrom BothQuery BothSelect BothKey BothRow → ValuesRow-F ExpressionKind Join QueryBody SelectItem TableReference CaseArm Expression FromItem Query Select SortKey ValuesRow
    row_held = map-ValuesRow BothKind BothJoin BothBody BothItem BothTable BothArm BothTree BothFrom BothQuery BothSelect BothKey BothRow ExpressionKind Join QueryBody SelectItem TableReference CaseArm Expression FromItem Query Select SortKey ValuesRow (λ d. d.0) (λ d. d.0) (λ d. d.0) (λ d. d.0) (λ d. d.0) (λ d. d.0) (λ d. d.0) (λ d. d.0) (λ d. d.0) (λ d. d.0) (λ d. d.0) (λ d. d.0)

    abbrev row_set : ℕ → ValuesRow-F ExpressionKind Join QueryBody SelectItem TableReference CaseArm Expression FromItem Query Select SortKey ValuesRow → ValuesRow-F ExpressionKind Join QueryBody SelectItem TableReference CaseArm Expression FromItem Query Select SortKey ValuesRow
    row_set z = map-ValuesRow ExpressionKind Join QueryBody SelectItem TableReference CaseArm Expression FromItem Query Select SortKey ValuesRow ExpressionKind Join QueryBody SelectItem TableReference CaseArm Expression FromItem Query Select SortKey ValuesRow (placed_kind z) (placed_join z) (placed_body z) (placed_item z) (placed_table z) (placed_arm z) (placed z) (placed_from z) (placed_query z) (placed_select z) (placed_key z) (placed_row z)

    abbrev row_out : ValuesRow-F ExpressionKind Join QueryBody SelectItem TableReference CaseArm Expression FromItem Query Select SortKey ValuesRow → ValuesRow-F OfKind OfJoin OfBody OfItem OfTable OfArm OfTree OfFrom OfQuery OfSelect OfKey OfRow
    row_out = map-ValuesRow ExpressionKind Join QueryBody SelectItem TableReference CaseArm Expression FromItem Query Select SortKey ValuesRow OfKind OfJoin OfBody OfItem OfTable OfArm OfTree OfFrom OfQuery OfSelect OfKey OfRow to_kind to_join to_body to_item to_table to_arm to_tree to_from to_query to_select to_key to_row

    kind_layer : (z : ℕ) (x : ExpressionKind-F ExpressionKind Join QueryBody SelectItem TableReference CaseArm Expression FromItem Query Select SortKey ValuesRow) → placed_kind z (roll-ExpressionKind x) ≡ roll-ExpressionKind (kind_set z x)
    kind_layer z x = fold-roll-ExpressionKind ExpressionKind Join QueryBody SelectItem TableReference CaseArm Expression FromItem Query Select SortKey ValuesRow roll-ExpressionKind roll-Join roll-QueryBody (set_item z) (set_table z) roll-CaseArm (set_expression z) roll-FromItem (set_query z) roll-Select (set_key z) roll-ValuesRow x

    kind_step : (x : ExpressionKind-F ExpressionKind Join QueryBody SelectItem TableReference CaseArm Expression FromItem Query Select SortKey ValuesRow) → to_kind (roll-ExpressionKind x) ≡ of_kind (kind_out x)
    kind_step x = fold-roll-ExpressionKind OfKind OfJoin OfBody OfItem OfTable OfArm OfTree OfFrom OfQuery OfSelect OfKey OfRow of_kind of_join of_body of_item of_table of_arm of_tree of_from of_query of_select of_key of_row x

    join_layer : (z : ℕ) (x : Join-F ExpressionKind Join QueryBody SelectItem TableReference CaseArm Expression FromItem Query Select SortKey ValuesRow) → placed_join z (roll-Join x) ≡ roll-Join (join_set z x)
    join_layer z x = fold-roll-Join ExpressionKind Join QueryBody SelectItem TableReference CaseArm Expression FromItem Query Select SortKey ValuesRow roll-ExpressionKind roll-Join roll-QueryBody (set_item z) (set_table z) roll-CaseArm (set_expression z) roll-FromItem (set_query z) roll-Select (set_key z) roll-ValuesRow x

    join_step : (x : Join-F ExpressionKind Join QueryBody SelectItem TableReference CaseArm Expression FromItem Query Select SortKey ValuesRow) → to_join (roll-Join x) ≡ of_join (join_out x)
    join_step x = fold-roll-Join OfKind OfJoin OfBody OfItem OfTable OfArm OfTree OfFrom OfQuery OfSelect OfKey OfRow of_kind of_join of_body of_item of_table of_arm of_tree of_from of_query of_select of_key of_row x

    body_layer : (z : ℕ) (x : QueryBody-F ExpressionKind Join QueryBody SelectItem TableReference CaseArm Expression FromItem Query Select SortKey ValuesRow) → placed_body z (roll-QueryBody x) ≡ roll-QueryBody (body_set z x)
    body_layer z x = fold-roll-QueryBody ExpressionKind Join QueryBody SelectItem TableReference CaseArm Expression FromItem Query Select SortKey ValuesRow roll-ExpressionKind roll-Join roll-QueryBody (set_item z) (set_table z) roll-CaseArm (set_expression z) roll-FromItem (set_query z) roll-Select (set_key z) roll-ValuesRow x

    body_step : (x : QueryBody-F ExpressionKind Join QueryBody SelectItem TableReference CaseArm Expression FromItem Query Select SortKey ValuesRow) → to_body (roll-QueryBody x) ≡ of_body (body_out x)
    body_step x = fold-roll-QueryBody OfKind OfJoin OfBody OfItem OfTable OfArm OfTree OfFrom OfQuery OfSelect OfKey OfRow of_kind of_join of_body of_item of_table of_arm of_tree of_from of_query of_select of_key of_row x

    item_layer : (z : ℕ) (x : SelectItem-F ExpressionKind Join QueryBody SelectItem TableReference CaseArm Expression FromItem Query Select SortKey ValuesRow) → placed_item z (roll-SelectItem x) ≡ set_item z (item_set z x)
    item_layer z x = fold-roll-SelectItem ExpressionKind Join QueryBody SelectItem TableReference CaseArm Expression FromItem Query Select SortKey ValuesRow roll-ExpressionKind roll-Join roll-QueryBody (set_item z) (set_table z) roll-CaseArm (set_expression z) roll-FromItem (set_query z) roll-Select (set_key z) roll-ValuesRow x

    item_step : (x : SelectItem-F ExpressionKind Join QueryBody SelectItem TableReference CaseArm Expression FromItem Query Select SortKey ValuesRow) → to_item (roll-SelectItem x) ≡ of_item (item_out x)
    item_step x = fold-roll-SelectItem OfKind OfJoin OfBody OfItem OfTable OfArm OfTree OfFrom OfQuery OfSelect OfKey OfRow of_kind of_join of_body of_item of_table of_arm of_tree of_from of_query of_select of_key of_row x

    table_layer : (z : ℕ) (x : TableReference-F ExpressionKind Join QueryBody SelectItem TableReference CaseArm Expression FromItem Query Select SortKey ValuesRow) → placed_table z (roll-TableReference x) ≡ set_table z (table_set z x)
    table_layer z x = fold-roll-TableReference ExpressionKind Join QueryBody SelectItem TableReference CaseArm Expression FromItem Query Select SortKey ValuesRow roll-ExpressionKind roll-Join roll-QueryBody (set_item z) (set_table z) roll-CaseArm (set_expression z) roll-FromItem (set_query z) roll-Select (set_key z) roll-ValuesRow x

    table_step : (x : TableReference-F ExpressionKind Join QueryBody SelectItem TableReference CaseArm Expression FromItem Query Select SortKey ValuesRow) → to_table (roll-TableReference x) ≡ of_table (table_out x)
    table_step x = fold-roll-TableReference OfKind OfJoin OfBody OfItem OfTable OfArm OfTree OfFrom OfQuery OfSelect OfKey OfRow of_kind of_join of_body of_item of_table of_arm of_tree of_from of_query of_select of_key of_row x

    arm_layer : (z : ℕ) (x : CaseArm-F ExpressionKind Join QueryBody SelectItem TableReference CaseArm Expression FromItem Query Select SortKey ValuesRow) → placed_arm z (roll-CaseArm x) ≡ roll-CaseArm (arm_set z x)
    arm_layer z x = fold-roll-CaseArm ExpressionKind Join QueryBody SelectItem TableReference CaseArm Expression FromItem Query Select SortKey ValuesRow roll-ExpressionKind roll-Join roll-QueryBody (set_item z) (set_table z) roll-CaseArm (set_expression z) roll-FromItem (set_query z) roll-Select (set_key z) roll-ValuesRow x

    arm_step : (x : CaseArm-F ExpressionKind Join QueryBody SelectItem TableReference CaseArm Expression FromItem Query Select SortKey ValuesRow) → to_arm (roll-CaseArm x) ≡ of_arm (arm_out x)
    arm_step x = fold-roll-CaseArm OfKind OfJoin OfBody OfItem OfTable OfArm OfTree OfFrom OfQuery OfSelect OfKey OfRow of_kind of_join of_body of_item of_table of_arm of_tree of_from of_query of_select of_key of_row x

    tree_layer : (z : ℕ) (x : Expression-F ExpressionKind Join QueryBody SelectItem TableReference CaseArm Expression FromItem Query Select SortKey ValuesRow) → placed z (roll-Expression x) ≡ set_expression z (tree_set z x)
    tree_layer z x = fold-roll-Expression ExpressionKind Join QueryBody SelectItem TableReference CaseArm Expression FromItem Query Select SortKey ValuesRow roll-ExpressionKind roll-Join roll-QueryBody (set_item z) (set_table z) roll-CaseArm (set_expression z) roll-FromItem (set_query z) roll-Select (set_key z) roll-ValuesRow x

    tree_step : (x : Expression-F ExpressionKind Join QueryBody SelectItem TableReference CaseArm Expression FromItem Query Select SortKey ValuesRow) → to_tree (roll-Expression x) ≡ of_tree (tree_out x)
    tree_step x = fold-roll-Expression OfKind OfJoin OfBody OfItem OfTable OfArm OfTree OfFrom OfQuery OfSelect OfKey OfRow of_kind of_join of_body of_item of_table of_arm of_tree of_from of_query of_select of_key of_row x

    from_layer : (z : ℕ) (x : FromItem-F ExpressionKind Join QueryBody SelectItem TableReference CaseArm Expression FromItem Query Select SortKey ValuesRow) → placed_from z (roll-FromItem x) ≡ roll-FromItem (from_set z x)
    from_layer z x = fold-roll-FromItem ExpressionKind Join QueryBody SelectItem TableReference CaseArm Expression FromItem Query Select SortKey ValuesRow roll-ExpressionKind roll-Join roll-QueryBody (set_item z) (set_table z) roll-CaseArm (set_expression z) roll-FromItem (set_query z) roll-Select (set_key z) roll-ValuesRow x

    from_step : (x : FromItem-F ExpressionKind Join QueryBody SelectItem TableReference CaseArm Expression FromItem Query Select SortKey ValuesRow) → to_from (roll-FromItem x) ≡ of_from (from_out x)
    from_step x = fold-roll-FromItem OfKind OfJoin OfBody OfItem OfTable OfArm OfTree OfFrom OfQuery OfSelect OfKey OfRow of_kind of_join of_body of_item of_table of_arm of_tree of_from of_query of_select of_key of_row x

    query_layer : (z : ℕ) (x : Query-F ExpressionKind Join QueryBody SelectItem TableReference CaseArm Expression FromItem Query Select SortKey ValuesRow) → placed_query z (roll-Query x) ≡ set_query z (query_set z x)
    query_layer z x = fold-roll-Query ExpressionKind Join QueryBody SelectItem TableReference CaseArm Expression FromItem Query Select SortKey ValuesRow roll-ExpressionKind roll-Join roll-QueryBody (set_item z) (set_table z) roll-CaseArm (set_expression z) roll-FromItem (set_query z) roll-Select (set_key z) roll-ValuesRow x

    query_step : (x : Query-F ExpressionKind Join QueryBody SelectItem TableReference CaseArm Expression FromItem Query Select SortKey ValuesRow) → to_query (roll-Query x) ≡ of_query (query_out x)
    query_step x = fold-roll-Query OfKind OfJoin OfBody OfItem OfTable OfArm OfTree OfFrom OfQuery OfSelect OfKey OfRow of_kind of_join of_body of_item of_table of_arm of_tree of_from of_query of_select of_key of_row x

    select_layer : (z : ℕ) (x : Select-F ExpressionKind Join QueryBody SelectItem TableReference CaseArm Expression FromItem Query Select SortKey ValuesRow) → placed_select z (roll-Select x) ≡ roll-Select (select_set z x)
    select_layer z x = fold-roll-Select ExpressionKind Join QueryBody SelectItem TableReference CaseArm Expression FromItem Query Select SortKey ValuesRow roll-ExpressionKind roll-Join roll-QueryBody (set_item z) (set_table z) roll-CaseArm (set_expression z) roll-FromItem (set_query z) roll-Select (set_key z) roll-ValuesRow x

    select_step : (x : Select-F ExpressionKind Join QueryBody SelectItem TableReference CaseArm Expression FromItem Query Select SortKey ValuesRow) → to_select (roll-Select x) ≡ of_select (select_out x)
    select_step x = fold-roll-Select OfKind OfJoin OfBody OfItem OfTable OfArm OfTree OfFrom OfQuery OfSelect OfKey OfRow of_kind of_join of_body of_item of_table of_arm of_tree of_from of_query of_select of_key of_row x

    key_layer : (z : ℕ) (x : SortKey-F ExpressionKind Join QueryBody SelectItem TableReference CaseArm Expression FromItem Query Select SortKey ValuesRow) → placed_key z (roll-SortKey x) ≡ set_key z (key_set z x)
    key_layer z x = fold-roll-SortKey ExpressionKind Join QueryBody SelectItem TableReference CaseArm Expression FromItem Query Select SortKey ValuesRow roll-ExpressionKind roll-Join roll-QueryBody (set_item z) (set_table z) roll-CaseArm (set_expression z) roll-FromItem (set_query z) roll-Select (set_key z) roll-ValuesRow x

    key_step : (x : SortKey-F ExpressionKind Join QueryBody SelectItem TableReference CaseArm Expression FromItem Query Select SortKey ValuesRow) → to_key (roll-SortKey x) ≡ of_key (key_out x)
    key_step x = fold-roll-SortKey OfKind OfJoin OfBody OfItem OfTable OfArm OfTree OfFrom OfQuery OfSelect OfKey OfRow of_kind of_join of_body of_item of_table of_arm of_tree of_from of_query of_select of_key of_row x

    row_layer : (z : ℕ) (x : ValuesRow-F ExpressionKind Join QueryBody SelectItem TableReference CaseArm Expression FromItem Query Select SortKey ValuesRow) → placed_row z (roll-ValuesRow x) ≡ roll-ValuesRow (row_set z x)
    row_layer z x = fold-roll-ValuesRow ExpressionKind Join QueryBody SelectItem TableReference CaseArm Expression FromItem Query Select SortKey ValuesRow roll-ExpressionKind roll-Join roll-QueryBody (set_item z) (set_table z) roll-CaseArm (set_expression z) roll-FromItem (set_query z) roll-Select (set_key z) roll-ValuesRow x

    row_step : (x : ValuesRow-F ExpressionKind Join QueryBody SelectItem TableReference CaseArm Expression FromItem Query Select SortKey ValuesRow) → to_row (roll-ValuesRow x) ≡ of_row (row_out x)
    row_step x = fold-roll-ValuesRow OfKind OfJoin OfBody OfItem OfTable OfArm OfTree OfFrom OfQuery OfSelect OfKey OfRow of_kind of_join of_body of_item of_table of_arm of_tree of_from of_query of_select of_key of_row x

    kind_inner : (y : ExpressionKind-F BothKind BothJoin BothBody BothItem BothTable BothArm BothTree BothFrom BothQuery BothSelect BothKey BothRow) → kind_out (kind_set q (kind_held y)) ≡ kind_out (kind_held y)
    kind_inner (ExpressionKind-F.Literal literal) = refl
    kind_inner (ExpressionKind-F.Column name) = refl
    kind_inner (ExpressionKind-F.Signed sign a) = ap (λ z. ExpressionKind-F.Signed sign z) a.1
    kind_inner (ExpressionKind-F.Not a) = ap (λ z. ExpressionKind-F.Not z) a.1
    kind_inner (ExpressionKind-F.Binary operator a b) = ap (λ z. ExpressionKind-F.Binary operator z (to_tree (placed q b.0))) a.1 ∙ ap (λ z. ExpressionKind-F.Binary operator (to_tree a.0) z) b.1
    kind_inner (ExpressionKind-F.IsNull a negated) = ap (λ z. ExpressionKind-F.IsNull z negated) a.1
    kind_inner (ExpressionKind-F.Between a negated low high) = ap (λ z. ExpressionKind-F.Between z negated (to_tree (placed q low.0)) (to_tree (placed q high.0))) a.1 ∙ ap (λ z. ExpressionKind-F.Between (to_tree a.0) negated z (to_tree (placed q high.0))) low.1 ∙ ap (λ z. ExpressionKind-F.Between (to_tree a.0) negated (to_tree low.0) z) high.1
    kind_inner (ExpressionKind-F.InList a negated list) = ap (λ z. ExpressionKind-F.InList z negated (map (to_tree) (map (placed q) (map (λ x. x.0) list)))) a.1 ∙ ap (λ z. ExpressionKind-F.InList (to_tree a.0) negated z) (held_again (to_tree) (placed q) list)
    kind_inner (ExpressionKind-F.InQuery a negated query) = ap (λ z. ExpressionKind-F.InQuery z negated (to_query (placed_query q query.0))) a.1 ∙ ap (λ z. ExpressionKind-F.InQuery (to_tree a.0) negated z) query.1
    kind_inner (ExpressionKind-F.Like a negated pattern escape) = ap (λ z. ExpressionKind-F.Like z negated (to_tree (placed q pattern.0)) escape) a.1 ∙ ap (λ z. ExpressionKind-F.Like (to_tree a.0) negated z escape) pattern.1
    kind_inner (ExpressionKind-F.Exists query) = ap (λ z. ExpressionKind-F.Exists z) query.1
    kind_inner (ExpressionKind-F.Subquery query) = ap (λ z. ExpressionKind-F.Subquery z) query.1
    kind_inner (ExpressionKind-F.Cast a data_type) = ap (λ z. ExpressionKind-F.Cast z data_type) a.1
    kind_inner (ExpressionKind-F.Case arms None) = ap (λ z. ExpressionKind-F.Case z None) (held_again (to_arm) (placed_arm q) arms)
    kind_inner (ExpressionKind-F.Case arms (Some e)) = ap (λ z. ExpressionKind-F.Case z (Some (to_tree (placed q e.0)))) (held_again (to_arm) (placed_arm q) arms) ∙ ap (λ z. ExpressionKind-F.Case (map (to_arm) (map (λ x. x.0) arms)) (Some z)) e.1
    kind_inner (ExpressionKind-F.Call function arguments) = ap (λ z. ExpressionKind-F.Call function z) (held_again (to_tree) (placed q) arguments)
    kind_inner (ExpressionKind-F.Substring text start None) = ap (λ z. ExpressionKind-F.Substring z (to_tree (placed q start.0)) None) text.1 ∙ ap (λ z. ExpressionKind-F.Substring (to_tree text.0) z None) start.1
    kind_inner (ExpressionKind-F.Substring text start (Some count)) = ap (λ z. ExpressionKind-F.Substring z (to_tree (placed q start.0)) (Some (to_tree (placed q count.0)))) text.1 ∙ ap (λ z. ExpressionKind-F.Substring (to_tree text.0) z (Some (to_tree (placed q count.0)))) start.1 ∙ ap (λ z. ExpressionKind-F.Substring (to_tree text.0) (to_tree start.0) (Some z)) count.1
    kind_inner (ExpressionKind-F.Trim manner None text) = ap (λ z. ExpressionKind-F.Trim manner None z) text.1
    kind_inner (ExpressionKind-F.Trim manner (Some character) text) = ap (λ z. ExpressionKind-F.Trim manner (Some z) (to_tree (placed q text.0))) character.1 ∙ ap (λ z. ExpressionKind-F.Trim manner (Some (to_tree character.0)) z) text.1
    kind_inner (ExpressionKind-F.Extract field a) = ap (λ z. ExpressionKind-F.Extract field z) a.1
    kind_inner (ExpressionKind-F.Interval a sign count unit) = ap (λ z. ExpressionKind-F.Interval z sign count unit) a.1
    kind_inner ExpressionKind-F.CountRows = refl
    kind_inner (ExpressionKind-F.Aggregate function distinct a) = ap (λ z. ExpressionKind-F.Aggregate function distinct z) a.1

    join_inner : (y : Join-F BothKind BothJoin BothBody BothItem BothTable BothArm BothTree BothFrom BothQuery BothSelect BothKey BothRow) → join_out (join_set q (join_held y)) ≡ join_out (join_held y)
    join_inner (Join-F.Inner t on) = ap (λ z. Join-F.Inner z (to_tree (placed q on.0))) t.1 ∙ ap (λ z. Join-F.Inner (to_table t.0) z) on.1
    join_inner (Join-F.Left t on) = ap (λ z. Join-F.Left z (to_tree (placed q on.0))) t.1 ∙ ap (λ z. Join-F.Left (to_table t.0) z) on.1
    join_inner (Join-F.Cross t) = ap (λ z. Join-F.Cross z) t.1

    body_inner : (y : QueryBody-F BothKind BothJoin BothBody BothItem BothTable BothArm BothTree BothFrom BothQuery BothSelect BothKey BothRow) → body_out (body_set q (body_held y)) ≡ body_out (body_held y)
    body_inner (QueryBody-F.Select select) = ap (λ z. QueryBody-F.Select z) select.1
    body_inner (QueryBody-F.Values rows) = ap (λ z. QueryBody-F.Values z) (held_again (to_row) (placed_row q) rows)
    body_inner (QueryBody-F.SetOperation operator a b) = ap (λ z. QueryBody-F.SetOperation operator z (to_body (placed_body q b.0))) a.1 ∙ ap (λ z. QueryBody-F.SetOperation operator (to_body a.0) z) b.1

    abbrev arm_of : OfTree → OfTree → CaseArm-F OfKind OfJoin OfBody OfItem OfTable OfArm OfTree OfFrom OfQuery OfSelect OfKey OfRow
    arm_of test value = record { test = test; value = value }

    arm_inner : (y : CaseArm-F BothKind BothJoin BothBody BothItem BothTable BothArm BothTree BothFrom BothQuery BothSelect BothKey BothRow) → arm_out (arm_set q (arm_held y)) ≡ arm_out (arm_held y)
    arm_inner y = ap (λ z. arm_of z (to_tree (placed q y.value.0))) y.test.1 ∙ ap (λ z. arm_of (to_tree y.test.0) z) y.value.1

    abbrev from_of : OfTable → List OfJoin → FromItem-F OfKind OfJoin OfBody OfItem OfTable OfArm OfTree OfFrom OfQuery OfSelect OfKey OfRow
    from_of table joins = record { table = table; joins = joins }

    from_inner : (y : FromItem-F BothKind BothJoin BothBody BothItem BothTable BothArm BothTree BothFrom BothQuery BothSelect BothKey BothRow) → from_out (from_set q (from_held y)) ≡ from_out (from_held y)
    from_inner y = ap (λ z. from_of z (map (to_join) (map (placed_join q) (map (λ x. x.0) y.joins)))) y.table.1 ∙ ap (λ z. from_of (to_table y.table.0) z) (held_again (to_join) (placed_join q) y.joins)

    abbrev row_of : List OfTree → ValuesRow-F OfKind OfJoin OfBody OfItem OfTable OfArm OfTree OfFrom OfQuery OfSelect OfKey OfRow
    row_of values = record { values = values }

    row_inner : (y : ValuesRow-F BothKind BothJoin BothBody BothItem BothTable BothArm BothTree BothFrom BothQuery BothSelect BothKey BothRow) → row_out (row_set q (row_held y)) ≡ row_out (row_held y)
    row_inner y = ap (λ z. row_of z) (held_again (to_tree) (placed q) y.values)

    abbrev select_of : Bool → List OfItem → List OfFrom → Option OfTree → List OfTree → Option OfTree → Select-F OfKind OfJoin OfBody OfItem OfTable OfArm OfTree OfFrom OfQuery OfSelect OfKey OfRow
    select_of distinct items from filter group_by having = record { distinct = distinct; items = items; from = from; filter = filter; group_by = group_by; having = having }

    abbrev select_both : Bool → List BothItem → List BothFrom → Option BothTree → List BothTree → Option BothTree → Select-F BothKind BothJoin BothBody BothItem BothTable BothArm BothTree BothFrom BothQuery BothSelect BothKey BothRow
    select_both distinct items from filter group_by having = record { distinct = distinct; items = items; from = from; filter = filter; group_by = group_by; having = having }

    select_parts : (d : Bool) (i : List BothItem) (f : List BothFrom) (w : Option BothTree) (g : List BothTree) (h : Option BothTree)
        → select_out (select_set q (select_held (select_both d i f w g h))) ≡ select_out (select_held (select_both d i f w g h))
    select_parts d i f None g None = ap (λ z. select_of d z (map (to_from) (map (placed_from q) (map (λ x. x.0) f))) None (map (to_tree) (map (placed q) (map (λ x. x.0) g))) None) (held_again (to_item) (placed_item q) i) ∙ ap (λ z. select_of d (map (to_item) (map (λ x. x.0) i)) z None (map (to_tree) (map (placed q) (map (λ x. x.0) g))) None) (held_again (to_from) (placed_from q) f) ∙ ap (λ z. select_of d (map (to_item) (map (λ x. x.0) i)) (map (to_from) (map (λ x. x.0) f)) None z None) (held_again (to_tree) (placed q) g)
    select_parts d i f None g (Some h) = ap (λ z. select_of d z (map (to_from) (map (placed_from q) (map (λ x. x.0) f))) None (map (to_tree) (map (placed q) (map (λ x. x.0) g))) (Some (to_tree (placed q h.0)))) (held_again (to_item) (placed_item q) i) ∙ ap (λ z. select_of d (map (to_item) (map (λ x. x.0) i)) z None (map (to_tree) (map (placed q) (map (λ x. x.0) g))) (Some (to_tree (placed q h.0)))) (held_again (to_from) (placed_from q) f) ∙ ap (λ z. select_of d (map (to_item) (map (λ x. x.0) i)) (map (to_from) (map (λ x. x.0) f)) None z (Some (to_tree (placed q h.0)))) (held_again (to_tree) (placed q) g) ∙ ap (λ z. select_of d (map (to_item) (map (λ x. x.0) i)) (map (to_from) (map (λ x. x.0) f)) None (map (to_tree) (map (λ x. x.0) g)) (Some z)) h.1
    select_parts d i f (Some w) g None = ap (λ z. select_of d z (map (to_from) (map (placed_from q) (map (λ x. x.0) f))) (Some (to_tree (placed q w.0))) (map (to_tree) (map (placed q) (map (λ x. x.0) g))) None) (held_again (to_item) (placed_item q) i) ∙ ap (λ z. select_of d (map (to_item) (map (λ x. x.0) i)) z (Some (to_tree (placed q w.0))) (map (to_tree) (map (placed q) (map (λ x. x.0) g))) None) (held_again (to_from) (placed_from q) f) ∙ ap (λ z. select_of d (map (to_item) (map (λ x. x.0) i)) (map (to_from) (map (λ x. x.0) f)) (Some z) (map (to_tree) (map (placed q) (map (λ x. x.0) g))) None) w.1 ∙ ap (λ z. select_of d (map (to_item) (map (λ x. x.0) i)) (map (to_from) (map (λ x. x.0) f)) (Some (to_tree w.0)) z None) (held_again (to_tree) (placed q) g)
    select_parts d i f (Some w) g (Some h) = ap (λ z. select_of d z (map (to_from) (map (placed_from q) (map (λ x. x.0) f))) (Some (to_tree (placed q w.0))) (map (to_tree) (map (placed q) (map (λ x. x.0) g))) (Some (to_tree (placed q h.0)))) (held_again (to_item) (placed_item q) i) ∙ ap (λ z. select_of d (map (to_item) (map (λ x. x.0) i)) z (Some (to_tree (placed q w.0))) (map (to_tree) (map (placed q) (map (λ x. x.0) g))) (Some (to_tree (placed q h.0)))) (held_again (to_from) (placed_from q) f) ∙ ap (λ z. select_of d (map (to_item) (map (λ x. x.0) i)) (map (to_from) (map (λ x. x.0) f)) (Some z) (map (to_tree) (map (placed q) (map (λ x. x.0) g))) (Some (to_tree (placed q h.0)))) w.1 ∙ ap (λ z. select_of d (map (to_item) (map (λ x. x.0) i)) (map (to_from) (map (λ x. x.0) f)) (Some (to_tree w.0)) z (Some (to_tree (placed q h.0)))) (held_again (to_tree) (placed q) g) ∙ ap (λ z. select_of d (map (to_item) (map (λ x. x.0) i)) (map (to_from) (map (λ x. x.0) f)) (Some (to_tree w.0)) (map (to_tree) (map (λ x. x.0) g)) (Some z)) h.1

    select_inner : (y : Select-F BothKind BothJoin BothBody BothItem BothTable BothArm BothTree BothFrom BothQuery BothSelect BothKey BothRow) → select_out (select_set q (select_held y)) ≡ select_out (select_held y)
    select_inner y = select_parts y.distinct y.items y.from y.filter y.group_by y.having

    kind_same : (y : ExpressionKind-F BothKind BothJoin BothBody BothItem BothTable BothArm BothTree BothFrom BothQuery BothSelect BothKey BothRow) → KindAgain (roll-ExpressionKind (kind_held y))
    kind_same y = ap (to_kind) (kind_layer q (kind_held y)) ∙ kind_step (kind_set q (kind_held y)) ∙ ap of_kind (kind_inner y) ∙ sym (kind_step (kind_held y))

    join_same : (y : Join-F BothKind BothJoin BothBody BothItem BothTable BothArm BothTree BothFrom BothQuery BothSelect BothKey BothRow) → JoinAgain (roll-Join (join_held y))
    join_same y = ap (to_join) (join_layer q (join_held y)) ∙ join_step (join_set q (join_held y)) ∙ ap of_join (join_inner y) ∙ sym (join_step (join_held y))

    body_same : (y : QueryBody-F BothKind BothJoin BothBody BothItem BothTable BothArm BothTree BothFrom BothQuery BothSelect BothKey BothRow) → BodyAgain (roll-QueryBody (body_held y))
    body_same y = ap (to_body) (body_layer q (body_held y)) ∙ body_step (body_set q (body_held y)) ∙ ap of_body (body_inner y) ∙ sym (body_step (body_held y))

    arm_same : (y : CaseArm-F BothKind BothJoin BothBody BothItem BothTable BothArm BothTree BothFrom BothQuery BothSelect BothKey BothRow) → ArmAgain (roll-CaseArm (arm_held y))
    arm_same y = ap (to_arm) (arm_layer q (arm_held y)) ∙ arm_step (arm_set q (arm_held y)) ∙ ap of_arm (arm_inner y) ∙ sym (arm_step (arm_held y))

    from_same : (y : FromItem-F BothKind BothJoin BothBody BothItem BothTable BothArm BothTree BothFrom BothQuery BothSelect BothKey BothRow) → FromAgain (roll-FromItem (from_held y))
    from_same y = ap (to_from) (from_layer q (from_held y)) ∙ from_step (from_set q (from_held y)) ∙ ap of_from (from_inner y) ∙ sym (from_step (from_held y))

    select_same : (y : Select-F BothKind BothJoin BothBody BothItem BothTable BothArm BothTree BothFrom BothQuery BothSelect BothKey BothRow) → SelectAgain (roll-Select (select_held y))
    select_same y = ap (to_select) (select_layer q (select_held y)) ∙ select_step (select_set q (select_held y)) ∙ ap of_select (select_inner y) ∙ sym (select_step (select_held y))

    row_same : (y : ValuesRow-F BothKind BothJoin BothBody BothItem BothTable BothArm BothTree BothFrom BothQuery BothSelect BothKey BothRow) → RowAgain (roll-ValuesRow (row_held y))
    row_same y = ap (to_row) (row_layer q (row_held y)) ∙ row_step (row_set q (row_held y)) ∙ ap of_row (row_inner y) ∙ sym (row_step (row_held y))

    item_same : (y : SelectItem-F BothKind BothJoin BothBody BothItem BothTable BothArm BothTree BothFrom BothQuery BothSelect BothKey BothRow) → ItemAgain (roll-SelectItem (item_held y))
    item_same (SelectItem-F.Every at) = ap to_item (item_layer q (SelectItem-F.Every at)) ∙ item_step (SelectItem-F.Every q) ∙ looks.every q at ∙ sym (item_step (SelectItem-F.Every at))
    item_same (SelectItem-F.One at shown alias) = ap to_item (item_layer q (SelectItem-F.One at shown.0 alias)) ∙ item_step (SelectItem-F.One q (placed q shown.0) (placed_if_named q alias)) ∙ ap (λ z. of_item (SelectItem-F.One q z (placed_if_named q alias))) shown.1 ∙ looks.one q at (to_tree shown.0) alias ∙ sym (item_step (SelectItem-F.One at shown.0 alias))

    table_same : (y : TableReference-F BothKind BothJoin BothBody BothItem BothTable BothArm BothTree BothFrom BothQuery BothSelect BothKey BothRow) → TableAgain (roll-TableReference (table_held y))
    table_same (TableReference-F.Named name alias) = ap to_table (table_layer q (TableReference-F.Named name alias)) ∙ table_step (TableReference-F.Named (placed_name q name) (placed_if_named q alias)) ∙ looks.named q name alias ∙ sym (table_step (TableReference-F.Named name alias))
    table_same (TableReference-F.Derived query alias) = ap to_table (table_layer q (TableReference-F.Derived query.0 alias)) ∙ table_step (TableReference-F.Derived (placed_query q query.0) (placed_name q alias)) ∙ ap (λ z. of_table (TableReference-F.Derived z (placed_name q alias))) query.1 ∙ looks.derived q (to_query query.0) alias ∙ sym (table_step (TableReference-F.Derived query.0 alias))

    abbrev tree_layer_of : ℕ → ExpressionKind → Expression-F ExpressionKind Join QueryBody SelectItem TableReference CaseArm Expression FromItem Query Select SortKey ValuesRow
    tree_layer_of at kind = record { at = at; kind = kind }

    tree_same : (y : Expression-F BothKind BothJoin BothBody BothItem BothTable BothArm BothTree BothFrom BothQuery BothSelect BothKey BothRow) → TreeAgain (roll-Expression (tree_held y))
    tree_same y = ap to_tree (tree_layer q (tree_held y)) ∙ tree_step (tree_layer_of q (placed_kind q y.kind.0)) ∙ ap (λ z. of_tree (tree_at q z)) y.kind.1 ∙ looks.tree q y.at (to_kind y.kind.0) ∙ sym (tree_step (tree_held y))

    abbrev query_layer_of : ℕ → QueryBody → List SortKey → Option Limit → Query-F ExpressionKind Join QueryBody SelectItem TableReference CaseArm Expression FromItem Query Select SortKey ValuesRow
    query_layer_of at body order_by limit = record { at = at; body = body; order_by = order_by; limit = limit }

    query_same : (y : Query-F BothKind BothJoin BothBody BothItem BothTable BothArm BothTree BothFrom BothQuery BothSelect BothKey BothRow) → QueryAgain (roll-Query (query_held y))
    query_same y =
        ap to_query (query_layer q (query_held y)) ∙ query_step (query_layer_of q (placed_body q y.body.0) (map (placed_key q) (map (λ x. x.0) y.order_by)) y.limit)
        ∙ ap (λ z. of_query (query_at q z (map to_key (map (placed_key q) (map (λ x. x.0) y.order_by))) y.limit)) y.body.1 ∙ ap (λ z. of_query (query_at q (to_body y.body.0) z y.limit)) (held_again to_key (placed_key q) y.order_by) ∙ looks.query q y.at (to_body y.body.0) (map to_key (map (λ x. x.0) y.order_by)) y.limit ∙ sym (query_step (query_held y))

    abbrev key_layer_of : ℕ → Expression → Bool → SortKey-F ExpressionKind Join QueryBody SelectItem TableReference CaseArm Expression FromItem Query Select SortKey ValuesRow
    key_layer_of at value descending = record { at = at; value = value; descending = descending }

    key_same : (y : SortKey-F BothKind BothJoin BothBody BothItem BothTable BothArm BothTree BothFrom BothQuery BothSelect BothKey BothRow) → KeyAgain (roll-SortKey (key_held y))
    key_same y = ap to_key (key_layer q (key_held y)) ∙ key_step (key_layer_of q (placed q y.value.0) y.descending) ∙ ap (λ z. of_key (key_at q z y.descending)) y.value.1 ∙ looks.key q y.at (to_tree y.value.0) y.descending ∙ sym (key_step (key_held y))

    pub expressions_same : (e : Expression) → TreeAgain e
    expressions_same = ind-Expression KindAgain JoinAgain BodyAgain ItemAgain TableAgain ArmAgain TreeAgain FromAgain QueryAgain SelectAgain KeyAgain RowAgain (λ x y is. subst (λ z. KindAgain (roll-ExpressionKind z)) is (kind_same y)) (λ x y is. subst (λ z. JoinAgain (roll-Join z)) is (join_same y)) (λ x y is. subst (λ z. BodyAgain (roll-QueryBody z)) is (body_same y)) (λ x y is. subst (λ z. ItemAgain (roll-SelectItem z)) is (item_same y)) (λ x y is. subst (λ z. TableAgain (roll-TableReference z)) is (table_same y)) (λ x y is. subst (λ z. ArmAgain (roll-CaseArm z)) is (arm_same y)) (λ x y is. subst (λ z. TreeAgain (roll-Expression z)) is (tree_same y)) (λ x y is. subst (λ z. FromAgain (roll-FromItem z)) is (from_same y)) (λ x y is. subst (λ z. QueryAgain (roll-Query z)) is (query_same y)) (λ x y is. subst (λ z. SelectAgain (roll-Select z)) is (select_same y)) (λ x y is. subst (λ z. KeyAgain (roll-SortKey z)) is (key_same y)) (λ x y is. subst (λ z. RowAgain (roll-ValuesRow z)) is (row_same y))

    pub queries_same : (e : Query) → QueryAgain e
    queries_same = ind-Query KindAgain JoinAgain BodyAgain ItemAgain TableAgain ArmAgain TreeAgain FromAgain QueryAgain SelectAgain KeyAgain RowAgain (λ x y is. subst (λ z. KindAgain (roll-ExpressionKind z)) is (kind_same y)) (λ x y is. subst (λ z. JoinAgain (roll-Join z)) is (join_same y)) (λ x y is. subst (λ z. BodyAgain (roll-QueryBody z)) is (body_same y)) (λ x y is. subst (λ z. ItemAgain (roll-SelectItem z)) is (item_same y)) (λ x y is. subst (λ z. TableAgain (roll-TableReference z)) is (table_same y)) (λ x y is. subst (λ z. ArmAgain (roll-CaseArm z)) is (arm_same y)) (λ x y is. subst (λ z. TreeAgain (roll-Expression z)) is (tree_same y)) (λ x y is. subst (λ z. FromAgain (roll-FromItem z)) is (from_same y)) (λ x y is. subst (λ z. QueryAgain (roll-Query z)) is (query_same y)) (λ x y is. subst (λ z. SelectAgain (roll-Select z)) is (select_same y)) (λ x y is. subst (λ z. KeyAgain (roll-SortKey z)) is (key_same y)) (λ x y is. subst (λ z. RowAgain (roll-ValuesRow z)) is (row_same y))
