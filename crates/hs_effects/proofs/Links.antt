-- The foreign keys of a catalogue lead from each table that a statement changes to those that its actions change.
use Rattle.std.proofs.Common.{◌≡◌, inl, inr, Bool, true, ◌||◌, List, [], ◌∷◌, map, refl, ap, ap₂, subst, ◌∙◌}
use Rattle.std.specs.List.{Contains}
use Rattle.std.specs.Option.{option_map_or}
use Rattle.std.proofs.lemmas.List.Elements.{Contains-append_right}
use Rattle.hs_base.specs.declared.numbers.TableNo.{TableNo}
use Rattle.hs_plan.specs.Named.{named_in_plan}
use Rattle.hs_plan.specs.declared.plan.Plan.{Plan}
use Rattle.hs_schema.specs.Catalogue.{Things, table_numbered}
use Rattle.hs_schema.specs.declared.table.Child.{Child}
use Rattle.hs_rel.proofs.Selecting.{at_head, head_or_tail, in_tail, nothing_in}
use Rattle.hs_changes.specs.Settings.{Maps}
use Rattle.hs_actions.specs.declared.reference.Reference.{Reference}
use Rattle.hs_actions.specs.Referencing.{Keys, keys_on}
use Rattle.hs_answer.specs.Frame.{Agree}
use Rattle.hs_closure.specs.Changing.{Changing, HasTarget, IsChanged, IsClosed, IsNeeded, follows, is_cascade, is_clearing, links, neighbours, parents_by}
use Rattle.hs_closure.specs.declared.way.Way.{Way}
use Rattle.hs_closure.specs.declared.way.Way.TheVariants as way
use Rattle.hs_effects.specs.Effects.{AgreeFor, AreLinks, Follows, link_of}
use Rattle.hs_effects.proofs.Actions.{Alike}

pub in_map : {X Y : Type 0} (f : X → Y) (xs : List X) (x : X) → Contains xs x → Contains (map f xs) (f x)
in_map f [] x found = absurd (nothing_in x found)
in_map f (y ∷ xs) x found = elim (head_or_tail y xs x found) [
  | inl is ↦ subst (λ z. Contains (f y ∷ map f xs) (f z)) is (at_head (f y) (map f xs))
  | inr later ↦ in_tail (f y) (map f xs) (f x) (in_map f xs x later)
]

-- ways are those of the actions alone
follows_alike : (from to : Way) (x y : Child) → x.on_delete ≡ y.on_delete → x.on_update ≡ y.on_update → follows from to x ≡ follows from to y
follows_alike way.Deletion way.Deletion x y d u = ap is_cascade d
follows_alike way.Deletion way.Update x y d u = ap is_clearing d
follows_alike way.Update way.Update x y d u = ap₂ (λ (a b : Bool). a || b) (ap is_cascade u) (ap is_clearing u)
follows_alike way.Update way.Deletion x y d u = refl

module _ (things : Things) (keys : Keys) (are : AreLinks things keys) (plan : Plan) where
  pub follows_links : Follows (IsChanged things plan) keys
  follows_links = record { next = next }
    where
      next : (from to : Way) (table : TableNo) (key : Reference) → IsChanged things plan from table → Contains (keys_on keys table.0) key → follows from to (link_of key) ≡ true → IsChanged things plan to key.child
      next from to table key here found goes =
          let link = are table key found in
          let is = link.1.1 in
          let leads : follows from to link.0 ≡ true = follows_alike from to link.0 (link_of key) is.on_delete is.on_update ∙ goes in
          λ (set : Changing) (target : HasTarget plan set) (closed : IsClosed things set).
          subst (λ (t : TableNo). set to t ≡ true) is.table (closed from to table link.0 (here set target closed) link.1.0 leads)

  -- a table that references a changed one is looked at
  child_needed : (how : Way) (table : TableNo) (key : Reference) → IsChanged things plan how table → Contains (keys_on keys table.0) key → IsNeeded things plan key.child
  child_needed how table key here found =
      let link = are table key found in
      let own : List TableNo = option_map_or (λ t. parents_by things t.constraints) (table_numbered things table) [] in
      let at : Contains (map (λ c. c.table) (links things table)) link.0.table = in_map (λ (c : Child). c.table) (links things table) link.0 link.1.0 in
      let among : Contains (neighbours things table) link.0.table = Contains-append_right own (map (λ c. c.table) (links things table)) link.0.table at in
      inr (table, inr (how, here), subst (Contains (neighbours things table)) link.1.1.table among)

  module _ (a b : Maps) (agree : AgreeFor things plan a b) where
    pub own_same : (how : Way) (table : TableNo) → IsChanged things plan how table → a table.0 ≡ b table.0
    own_same how table here = agree table (inr (inr (how, here)))

    pub alike_for : Alike (IsChanged things plan) keys a b
    alike_for = record { own = own_same; children = λ how table key here found. agree key.child (inl (child_needed how table key here found)) }

    pub named_agree : Agree a b (named_in_plan plan)
    named_agree = λ table found. agree table (inl (inl found))
