-- What the actions of foreign keys change is of tables that are changed in one of two ways. It depends on the rows of these
-- tables, and of those that reference them.
use Rattle.std.proofs.Common.{◌≡◌, inl, inr, ℕ, zero, suc, Bool, true, false, ◌&&◌, ◌||◌, not, List, [], ◌∷◌, ◌++◌, fold, filter, map, Option, None, Some, Result, Ok, Err, refl, ap, subst, sym, ◌∙◌}
use Rattle.std.specs.BTreeMap.{insert_entry}
use Rattle.std.specs.FinMap.{entries, get}
use Rattle.std.specs.List.{Contains}
use Rattle.std.specs.Option.{option_map_or, unwrap_or}
use Rattle.std.specs.Prelude.{if◌then◌else◌}
use Rattle.std.proofs.lemmas.List.Elements.{Contains-append_cases}
use Rattle.std.proofs.lemmas.Map.Views.{Contains-from_lookup}
use Rattle.hs_ast.specs.declared.definition.ReferentialAction.{ReferentialAction}
use Rattle.hs_ast.specs.declared.definition.ReferentialAction.TheVariants as action
use Rattle.hs_base.specs.declared.numbers.RowName.{RowName}
use Rattle.hs_base.specs.declared.numbers.TableNo.{TableNo}
use Rattle.hs_schema.specs.declared.table.Child.{Child}
use Rattle.hs_values.specs.declared.fault.EvalFault.{EvalFault}
use Rattle.hs_values.specs.declared.value.Value.{Value}
use Rattle.hs_values.specs.Outcome.{◌>>=◌}
use Rattle.hs_index.specs.Keys.{key_in}
use Rattle.hs_index.specs.Table.{has_key}
use Rattle.hs_index.proofs.Stored.{key_itself}
use Rattle.hs_changes.specs.Settings.{Maps}
use Rattle.hs_rel.specs.Selection.{unless}
use Rattle.hs_rel.proofs.Selecting.{at_head, head_or_tail, in_tail, nothing_in}
use Rattle.hs_actions.specs.declared.reference.Reference.{Reference}
use Rattle.hs_actions.specs.Acting.{acts, acts_at, action_at, changed, done, effect, is_gone}
use Rattle.hs_actions.specs.Referencing.{Keys, keys_on}
use Rattle.hs_actions.specs.Work.{Edits, Work, act, begun, child_name, children_of, edit_of, enough, is_left_out, is_now, name_cmp, now_acted, settled, step, step_on, steps, take_key, take_keys, was, with_actions, worked}
use Rattle.hs_actions.proofs.Ending.{ends_alike, list_ends}
use Rattle.hs_closure.specs.Changing.{follows, is_cascade, is_clearing}
use Rattle.hs_closure.specs.declared.way.Way.{Way}
use Rattle.hs_closure.specs.declared.way.Way.TheVariants as way
use Rattle.hs_effects.specs.Effects.{AreEdits, Follows, link_of, way_of}
use Rattle.hs_effects.proofs.Names.{from_put, named_alike}

-- ---- what a foreign key does

-- a row that gets values is changed and not deleted
is_put : (given : Result (List Value) EvalFault) (v : Option (List Value)) → (given >>= λ values. Ok (Some values)) ≡ Ok v → way_of v ≡ way.Update
is_put (Ok values) v is = let same : Some values ≡ v = cc in sym (ap way_of same)
is_put (Err fault) v is = absurd cc

abbrev clears_or_cascades : ReferentialAction → Bool
clears_or_cascades what = is_cascade what || is_clearing what

-- where the parent's row is deleted
on_deletion : (key : Reference) (link : Child) (what : ReferentialAction) (row : List Value) (v : Option (List Value)) → link.on_delete ≡ what → acts what ≡ true → done key what None row ≡ Ok v → follows way.Deletion (way_of v) link ≡ true
on_deletion key link action.Cascade row v at act is = let same : None ≡ v = cc in subst (λ (x : Option (List Value)). follows way.Deletion (way_of x) link ≡ true) same (ap is_cascade at)
on_deletion key link action.SetNull row v at act is = let way_is = is_put (changed key [] action.SetNull row) v is in subst (λ (w : Way). follows way.Deletion w link ≡ true) (sym way_is) (ap is_clearing at)
on_deletion key link action.SetDefault row v at act is = let way_is = is_put (changed key [] action.SetDefault row) v is in subst (λ (w : Way). follows way.Deletion w link ≡ true) (sym way_is) (ap is_clearing at)
on_deletion key link action.NoAction row v at act is = absurd cc
on_deletion key link action.Restrict row v at act is = absurd cc

-- where it lost its key
on_update : (key : Reference) (link : Child) (what : ReferentialAction) (new row : List Value) (v : Option (List Value)) → link.on_update ≡ what → acts what ≡ true → done key what (Some new) row ≡ Ok v → follows way.Update (way_of v) link ≡ true
on_update key link action.Cascade new row v at act is = let way_is = is_put (changed key new action.Cascade row) v is in subst (λ (w : Way). follows way.Update w link ≡ true) (sym way_is) (ap clears_or_cascades at)
on_update key link action.SetNull new row v at act is = let way_is = is_put (changed key new action.SetNull row) v is in subst (λ (w : Way). follows way.Update w link ≡ true) (sym way_is) (ap clears_or_cascades at)
on_update key link action.SetDefault new row v at act is = let way_is = is_put (changed key new action.SetDefault row) v is in subst (λ (w : Way). follows way.Update w link ≡ true) (sym way_is) (ap clears_or_cascades at)
on_update key link action.NoAction new row v at act is = absurd cc
on_update key link action.Restrict new row v at act is = absurd cc

-- a row on which it acts is changed as the catalogue says
acts_as : (key : Reference) (new : Option (List Value)) (row : List Value) (v : Option (List Value)) → acts (action_at key new) ≡ true → effect key new row ≡ Ok v → follows (way_of new) (way_of v) (link_of key) ≡ true
acts_as key None row v act is = on_deletion key (link_of key) key.on_delete row v refl act is
acts_as key (Some new) row v act is = on_update key (link_of key) key.on_update new row v refl act is

and_first : (a b : Bool) → (a && b) ≡ true → a ≡ true
and_first true b h = refl
and_first false b h = absurd cc

and_second : (a b : Bool) → (a && b) ≡ true → b ≡ true
and_second true b h = h
and_second false b h = absurd cc

-- it doesn't act for a row that is as it was
not_at_itself : (key : Reference) (old : List Value) → acts_at key old (Some old) ≡ true → ⊥
not_at_itself key old h =
    let gone = and_second (acts (action_at key (Some old))) (is_gone key old (Some old)) h in
    let same = key_itself (key_in key.parent_columns old) in
    let clash : false ≡ true = sym (ap not same) ∙ gone in absurd cc

-- ---- the work stays inside

module _ (P : Way → TableNo → Type 0) where
  -- the rows of a list are of tables that are changed in some way
  abbrev AreListed : List RowName → Type 0
  AreListed list = (name : RowName) → Contains list name → (how : Way) × P how name.table

  record Inside (work : Work) : Type 0 where
    edits : AreEdits P work.edits
    list : AreListed work.list

  listed_behind : (list : List RowName) (name : RowName) (how : Way) → P how name.table → AreListed list → AreListed (list ++ name ∷ [])
  listed_behind list name how here inside other found = elim (Contains-append_cases list (name ∷ []) other found) [
    | inl earlier ↦ inside other earlier
    | inr last ↦
        elim (head_or_tail name [] other last) [
          | inl is ↦ subst (λ (n : RowName). (how : Way) × P how n.table) is (how, here)
          | inr none ↦ absurd (nothing_in other none)
        ]
  ]

  edited_more : (edits : Edits) (name : RowName) (values : Option (List Value)) → P (way_of values) name.table → AreEdits P edits → AreEdits P (insert_entry name_cmp edits name values)
  edited_more edits name values here inside e found = elim (from_put name values edits e found) [
    | inl is ↦ subst (λ (x : RowName × Option (List Value)). P (way_of x.1) x.0.table) (sym is) here
    | inr earlier ↦ inside e earlier
  ]

  settled_inside : (name : RowName) (work : Work) (r : Result (Option (List Value)) EvalFault) → ((v : Option (List Value)) → r ≡ Ok v → P (way_of v) name.table) → Inside work → Inside (settled name work r)
  settled_inside name work (Ok values) here inside = record {
    edits = edited_more work.edits name values (here values refl) inside.edits;
    list = listed_behind work.list name (way_of values) (here values refl) inside.list;
  }
  settled_inside name work (Err fault) here inside = record { edits = inside.edits; list = inside.list }

  module _ (before : Maps) (keys : Keys) (closed : Follows P keys) where
    -- what a foreign key makes of child rows, the parent's row being this now
    abbrev Leads : Reference → Option (List Value) → Type 0
    Leads key new = (row : List Value) (v : Option (List Value)) → effect key new row ≡ Ok v → P (way_of v) key.child

    act_inside : (key : Reference) (new : Option (List Value)) (work : Work) (row : ℕ) → Leads key new → Inside work → Inside (act before key new work row)
    act_inside key new work row leads inside = by (is_left_out key work row)
      where
        old : List Value
        old = unwrap_or (is_now before work.edits (child_name key row)) []

        noted : Work
        noted = record work { acted = now_acted work.acted key.place row }

        by : (out : Bool) → Inside (if out then work else settled (child_name key row) noted (effect key new old))
        by true = inside
        by false = settled_inside (child_name key row) noted (effect key new old) (leads old) (record { edits = inside.edits; list = inside.list })

    acts_inside : (key : Reference) (new : Option (List Value)) (rows : List ℕ) (work : Work) → Leads key new → Inside work → Inside (fold (act before key new) work rows)
    acts_inside key new [] work leads inside = inside
    acts_inside key new (row ∷ rows) work leads inside = acts_inside key new rows (act before key new work row) leads (act_inside key new work row leads inside)

    -- a row that is worked was edited, or no foreign key acts for it
    now_changed : (name : RowName) (old : List Value) (work : Work) (key : Reference) → was before name ≡ Some old → Inside work → acts_at key old (is_now before work.edits name) ≡ true → P (way_of (is_now before work.edits name)) name.table
    now_changed name old work key is inside act = by (edit_of work.edits name) refl
      where
        by : (found : Option (Option (List Value))) → edit_of work.edits name ≡ found → P (way_of (is_now before work.edits name)) name.table
        by (Some values) at =
            let e = Contains-from_lookup named_alike name values work.edits at in
            subst (λ (o : Option (Option (List Value))). P (way_of (unwrap_or o (was before name))) name.table) (sym at) (inside.edits (name, values) e)
        by None at =
            let now : is_now before work.edits name ≡ Some old = ap (λ (o : Option (Option (List Value))). unwrap_or o (was before name)) at ∙ is in
            absurd (not_at_itself key old (subst (λ (o : Option (List Value)). acts_at key old o ≡ true) now act))

    key_inside : (name : RowName) (old : List Value) (work : Work) (key : Reference) → was before name ≡ Some old → Contains (keys_on keys name.table.0) key → Inside work → Inside (take_key before name old work key)
    key_inside name old work key is found inside = by (acts_at key old new) refl
      where
        new : Option (List Value)
        new = is_now before work.edits name

        by : (act_ : Bool) → acts_at key old new ≡ act_ → Inside (if act_ then fold (act before key new) work (children_of before key old) else work)
        by true at =
            let here = now_changed name old work key is inside at in
            let acting = and_first (acts (action_at key new)) (is_gone key old new) at in
            acts_inside key new (children_of before key old) work
            (λ row v given. closed.next (way_of new) (way_of v) name.table key here found (acts_as key new row v acting given)) inside
        by false at = inside

    keys_inside : (name : RowName) (old : List Value) (list : List Reference) (work : Work) → was before name ≡ Some old → ((key : Reference) → Contains list key → Contains (keys_on keys name.table.0) key) → Inside work → Inside (fold (take_key before name old) work list)
    keys_inside name old [] work is all inside = inside
    keys_inside name old (key ∷ list) work is all inside =
        keys_inside name old list (take_key before name old work key) is (λ other found. all other (in_tail key list other found))
        (key_inside name old work key is (all key (at_head key list)) inside)

    taken_inside : (name : RowName) (work : Work) → Inside work → Inside (take_keys before keys name work)
    taken_inside name work inside = by (was before name) refl
      where
        by : (old : Option (List Value)) → was before name ≡ old → Inside (option_map_or (λ old. fold (take_key before name old) work (keys_on keys name.table.0)) old work)
        by None is = inside
        by (Some old) is = keys_inside name old (keys_on keys name.table.0) work is (λ key found. found) inside

    step_inside : (work : Work) (list : List RowName) → AreListed list → Inside work → Inside (step_on before keys work list)
    step_inside work [] listed inside = inside
    step_inside work (name ∷ rest) listed inside =
        taken_inside name (record work { list = rest }) (record { edits = inside.edits; list = λ other found. listed other (in_tail name rest other found) })

    steps_inside : (n : ℕ) (work : Work) → Inside work → Inside (steps n before keys work)
    steps_inside zero work inside = inside
    steps_inside (suc n) work inside = steps_inside n (step before keys work) (step_inside work work.list inside.list inside)

  abbrev name_of : RowName × Option (List Value) → RowName
  name_of e = e.0

  listed : (es : Edits) → AreEdits P es → AreListed (map name_of es)
  listed [] all name found = absurd (nothing_in name found)
  listed (e ∷ es) all name found = elim (head_or_tail e.0 (map name_of es) name found) [
    | inl is ↦ subst (λ (n : RowName). (how : Way) × P how n.table) is (way_of e.1, all e (at_head e es))
    | inr later ↦ listed es (λ x at. all x (in_tail e es x at)) name later
  ]

  begun_inside : (edits : Edits) → AreEdits P edits → Inside (begun edits)
  begun_inside edits inside = record { edits = inside; list = listed edits inside }

  -- with those that actions change, all edits are of tables that are changed in their way
  pub with_actions_inside : (before : Maps) (keys : Keys) → Follows P keys → (edits all : Edits) → AreEdits P edits → with_actions before keys edits ≡ Ok all → AreEdits P all
  with_actions_inside before keys closed edits all inside is = by (worked before keys (begun edits)) (steps_inside before keys closed (enough before keys (begun edits)) (begun edits) (begun_inside edits inside)) is
    where
      by : (work : Work) → Inside work → unless work.fault work.edits ≡ Ok all → AreEdits P all
      by work at is = from work.fault is
        where
          from : (fault : Option EvalFault) → unless fault work.edits ≡ Ok all → AreEdits P all
          from None is = let same : work.edits ≡ all = cc in subst (AreEdits P) same at.edits
          from (Some fault) is = absurd cc

  -- ---- two states of the tables

  -- both have the same rows of tables that are changed, and of those that reference them
  pub record Alike (keys : Keys) (a b : Maps) : Type 0 where
    pub own : (how : Way) (table : TableNo) → P how table → a table.0 ≡ b table.0
    pub children : (how : Way) (table : TableNo) (key : Reference) → P how table → Contains (keys_on keys table.0) key → a key.child.0 ≡ b key.child.0

  module _ (a b : Maps) (keys : Keys) (closed : Follows P keys) (alike : Alike keys a b) where
    act_same : (key : Reference) (new : Option (List Value)) (work : Work) (row : ℕ) → a key.child.0 ≡ b key.child.0 → act a key new work row ≡ act b key new work row
    act_same key new work row same =
        λ i. if is_left_out key work row then work
        else settled (child_name key row) (record work { acted = now_acted work.acted key.place row })
        (effect key new (unwrap_or (unwrap_or (edit_of work.edits (child_name key row)) (get (same i) row)) []))

    acts_same : (key : Reference) (new : Option (List Value)) (rows : List ℕ) (work : Work) → a key.child.0 ≡ b key.child.0 → fold (act a key new) work rows ≡ fold (act b key new) work rows
    acts_same key new [] work same = refl
    acts_same key new (row ∷ rows) work same =
        acts_same key new rows (act a key new work row) same ∙ ap (λ w. fold (act b key new) w rows) (act_same key new work row same)

    key_same : (name : RowName) (old : List Value) (work : Work) (key : Reference) → a name.table.0 ≡ b name.table.0 → a key.child.0 ≡ b key.child.0 → take_key a name old work key ≡ take_key b name old work key
    key_same name old work key own child =
        (λ i. let new = unwrap_or (edit_of work.edits name) (get (own i) name.row.0) in
        if acts_at key old new then fold (act a key new) work (map (λ e. e.0) (filter (λ e. has_key key.columns (key_in key.parent_columns old) (Some e.1)) (entries (child i)))) else work)
        ∙ ap (λ w. if acts_at key old (is_now b work.edits name) then w else work) (acts_same key (is_now b work.edits name) (children_of b key old) work child)

    keys_same : (name : RowName) (old : List Value) (list : List Reference) (work : Work) → a name.table.0 ≡ b name.table.0 → ((key : Reference) → Contains list key → a key.child.0 ≡ b key.child.0) → fold (take_key a name old) work list ≡ fold (take_key b name old) work list
    keys_same name old [] work own children = refl
    keys_same name old (key ∷ list) work own children =
        keys_same name old list (take_key a name old work key) own (λ other found. children other (in_tail key list other found))
        ∙ ap (λ w. fold (take_key b name old) w list) (key_same name old work key own (children key (at_head key list)))

    taken_same : (name : RowName) (work : Work) (how : Way) → P how name.table → take_keys a keys name work ≡ take_keys b keys name work
    taken_same name work how here =
        let own = alike.own how name.table here in
        (λ i. option_map_or (λ old. fold (take_key a name old) work (keys_on keys name.table.0)) (get (own i) name.row.0) work)
        ∙ by (was b name)
      where
        by : (old : Option (List Value)) → option_map_or (λ old. fold (take_key a name old) work (keys_on keys name.table.0)) old work ≡ option_map_or (λ old. fold (take_key b name old) work (keys_on keys name.table.0)) old work
        by None = refl
        by (Some old) = keys_same name old (keys_on keys name.table.0) work (alike.own how name.table here) (λ key found. alike.children how name.table key here found)

    step_same : (work : Work) (list : List RowName) → AreListed list → step_on a keys work list ≡ step_on b keys work list
    step_same work [] listed = refl
    step_same work (name ∷ rest) listed = let here = listed name (at_head name rest) in taken_same name (record work { list = rest }) here.0 here.1

    steps_same : (n : ℕ) (work : Work) → Inside work → steps n a keys work ≡ steps n b keys work
    steps_same zero work inside = refl
    steps_same (suc n) work inside =
        ap (steps n a keys) (step_same work work.list inside.list) ∙ steps_same n (step b keys work) (step_inside b keys closed work work.list inside.list inside)

    worked_same : (work : Work) → Inside work → worked a keys work ≡ worked b keys work
    worked_same work inside =
        let both = steps_same (enough b keys work) work inside in
        let ended : (steps (enough b keys work) a keys work).list ≡ [] = ap (λ (w : Work). w.list) both ∙ list_ends b keys work in
        ends_alike a keys (enough a keys work) (enough b keys work) work (list_ends a keys work) ended ∙ both

    pub actions_same : (edits : Edits) → AreEdits P edits → with_actions a keys edits ≡ with_actions b keys edits
    actions_same edits inside = ap (λ (done_ : Work). unless done_.fault done_.edits) (worked_same (begun edits) (begun_inside edits inside))
