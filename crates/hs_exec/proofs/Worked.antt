-- Actions of foreign keys that are listed otherwise.
use Rattle.std.proofs.Common.{◌≡◌, ℕ, zero, suc, Bool, true, false, cond, ◌&&◌, ◌||◌, List, [], ◌∷◌, filter, fold, map, Option, Some, None, refl, sym, ap, subst, ◌∙◌}
use Rattle.std.specs.List.{Contains}
use Rattle.std.specs.Map.{lookup}
use Rattle.std.specs.Option.{option_map_or, unwrap_or}
use Rattle.hs_base.specs.declared.numbers.RowName.{RowName}
use Rattle.hs_values.specs.declared.value.Value.{Value}
use Rattle.hs_changes.specs.Settings.{Maps}
use Rattle.hs_rel.specs.Selection.{unless}
use Rattle.hs_rel.proofs.Selecting.{from_filter}
use Rattle.hs_actions.specs.declared.reference.Reference.{Reference}
use Rattle.hs_actions.specs.Acting.{acts, acts_at, is_gone}
use Rattle.hs_actions.specs.Referencing.{Keys, is, keys_on}
use Rattle.hs_actions.specs.Work.{Edits, Work, act, begun, children_of, enough, is_now, step, step_on, steps, take_key, take_keys, was, with_actions, worked}
use Rattle.hs_actions.proofs.Ending.{ends_alike, list_ends}
use Rattle.hs_before.specs.Family.{may_act}
use Rattle.hs_base.specs.declared.numbers.TableNo.{TableNo}
use Rattle.hs_closure.specs.declared.way.Way.{Way}
use Rattle.hs_effects.specs.Effects.{AgreeOn, AreEdits, Follows}
use Rattle.hs_effects.proofs.Actions.{Alike, actions_same}
use Rattle.hs_effects.proofs.Links.{in_map}

-- where the foreign keys of each table come to the same
module _ (before : Maps) (k l : Keys) (same : (name : RowName) (old : List Value) (work : Work) → fold (take_key before name old) work (keys_on k name.table.0) ≡ fold (take_key before name old) work (keys_on l name.table.0)) where
  taken_same : (name : RowName) (work : Work) → take_keys before k name work ≡ take_keys before l name work
  taken_same name work = by (was before name)
    where
      by : (o : Option (List Value)) → option_map_or (λ old. fold (take_key before name old) work (keys_on k name.table.0)) o work ≡ option_map_or (λ old. fold (take_key before name old) work (keys_on l name.table.0)) o work
      by None = refl
      by (Some old) = same name old work

  step_same : (work : Work) (list : List RowName) → step_on before k work list ≡ step_on before l work list
  step_same work [] = refl
  step_same work (name ∷ rest) = taken_same name (record work { list = rest })

  steps_same : (n : ℕ) (work : Work) → steps n before k work ≡ steps n before l work
  steps_same zero work = refl
  steps_same (suc n) work = ap (steps n before k) (step_same work work.list) ∙ steps_same n (step before l work)

  worked_same : (work : Work) → worked before k work ≡ worked before l work
  worked_same work =
      let both = steps_same (enough before l work) work in
      let ended : (steps (enough before l work) before k work).list ≡ [] = ap (λ (w : Work). w.list) both ∙ list_ends before l work in
      ends_alike before k (enough before k work) (enough before l work) work (list_ends before k work) ended ∙ both

  come_to_the_same : (edits : Edits) → with_actions before k edits ≡ with_actions before l edits
  come_to_the_same edits = ap (λ (done : Work). unless done.fault done.edits) (worked_same (begun edits))

-- foreign keys that are told alike
pub told_alike : (before : Maps) (k l : Keys) → ((t : ℕ) → keys_on k t ≡ keys_on l t) → (edits : Edits) → with_actions before k edits ≡ with_actions before l edits
told_alike before k l alike =
    come_to_the_same before k l (λ name old work. ap (fold (take_key before name old) work) (alike name.table.0))

-- ---- those that may act

module _ (before : Maps) (name : RowName) (old : List Value) where
  idle : (work : Work) (key : Reference) → may_act key ≡ false → take_key before name old work key ≡ work
  idle work key none = ap (λ b. cond b (fold (act before key (is_now before work.edits name)) work (children_of before key old)) work) (never (is_now before work.edits name))
    where
      parts : (a b : Bool) → (a || b) ≡ false → (a ≡ false) × (b ≡ false)
      parts true b h = absurd (cc)
      parts false b h = (refl, h)

      never : (new : Option (List Value)) → acts_at key old new ≡ false
      never None = ap (λ b. b && is_gone key old None) (parts (acts key.on_delete) (acts key.on_update) none).0
      never (Some new) = ap (λ b. b && is_gone key old (Some new)) (parts (acts key.on_delete) (acts key.on_update) none).1

  those_behind : (key : Reference) (list : List Reference) (work : Work) → ((work : Work) → fold (take_key before name old) work list ≡ fold (take_key before name old) work (filter may_act list)) → (b : Bool) → may_act key ≡ b → fold (take_key before name old) work (key ∷ list) ≡ fold (take_key before name old) work (cond b (key ∷ filter may_act list) (filter may_act list))
  those_behind key list work rest true may = rest (take_key before name old work key)
  those_behind key list work rest false may = ap (λ w. fold (take_key before name old) w list) (idle work key may) ∙ rest work

  those_that_act : (list : List Reference) (work : Work) → fold (take_key before name old) work list ≡ fold (take_key before name old) work (filter may_act list)
  those_that_act [] work = refl
  those_that_act (key ∷ list) work = those_behind key list work (those_that_act list) (may_act key) refl

-- the foreign keys without those that never act
abbrev acting : Keys → Keys
acting keys = map (λ (e : ℕ × List Reference). (e.0, filter may_act e.1)) keys

one_acting : (mine : List Reference) (behind those : Option (List Reference)) → unwrap_or behind [] ≡ filter may_act (unwrap_or those []) → (b : Bool) → unwrap_or (cond b (Some (filter may_act mine)) behind) [] ≡ filter may_act (unwrap_or (cond b (Some mine) those) [])
one_acting mine behind those rest true = refl
one_acting mine behind those rest false = rest

acting_on : (keys : Keys) (t : ℕ) → keys_on (acting keys) t ≡ filter may_act (keys_on keys t)
acting_on [] t = refl
acting_on (e ∷ keys) t = one_acting e.1 (lookup (is t) (acting keys)) (lookup (is t) keys) (acting_on keys t) (is t e.0)

-- the rows of a list are of tables of the set
abbrev pub AreIn : (ℕ → Bool) → List RowName → Type 0
AreIn set list = (name : RowName) → Contains list name → set name.table.0 ≡ true

-- two states of the tables that have the same rows of these tables, which have with each the children whose foreign keys may act
pub actions_agree : (a b : Maps) (keys : Keys) (set : ℕ → Bool) → ((t : ℕ) (key : Reference) → set t ≡ true → Contains (keys_on keys t) key → may_act key ≡ true → set key.child.0 ≡ true) → AgreeOn a b set → (edits : Edits) → AreIn set (map (λ e. e.0) edits) → with_actions a keys edits ≡ with_actions b keys edits
actions_agree a b keys set closed agree edits are =
    less a ∙ actions_same InSet a b (acting keys) follows_ alike edits edited ∙ sym (less b)
  where
    less : (maps : Maps) → with_actions maps keys edits ≡ with_actions maps (acting keys) edits
    less maps = come_to_the_same maps keys (acting keys) (λ name old work.
        those_that_act maps name old (keys_on keys name.table.0) work
        ∙ ap (fold (take_key maps name old) work) (sym (acting_on keys name.table.0))) edits

    InSet : Way → TableNo → Type 0
    InSet how table = set table.0 ≡ true

    children : (table : TableNo) (key : Reference) → set table.0 ≡ true → Contains (keys_on (acting keys) table.0) key → set key.child.0 ≡ true
    children table key inside found =
        let kept = from_filter may_act (keys_on keys table.0) key (subst (λ (l : List Reference). Contains l key) (acting_on keys table.0) found) in
        closed table.0 key inside kept.0 kept.1

    follows_ : Follows InSet (acting keys)
    follows_ = record { next = λ from to table key here found goes. children table key here found }

    alike : Alike InSet (acting keys) a b
    alike = record {
      own = λ how table here. agree table.0 here;
      children = λ how table key here found. agree key.child.0 (children table key here found);
    }

    edited : AreEdits InSet edits
    edited e found = are e.0 (in_map (λ (x : RowName × Option (List Value)). x.0) edits e found)
