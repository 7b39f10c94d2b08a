-- Two closures one after the other are the tables whose rows a statement changes.
use Rattle.std.proofs.Common.{◌≡◌, ℕ, true, false, nat_eq, List, [], ◌∷◌, refl, sym, ◌∙◌, subst, inl, inr}
use Rattle.std.proofs.lemmas.Bool.{or_cases, or_left, or_right}
use Rattle.std.specs.List.{flat_map}
use Rattle.hs_base.specs.declared.numbers.TableNo.{TableNo}
use Rattle.hs_plan.specs.declared.plan.Plan.{Plan}
use Rattle.hs_plan.specs.declared.plan.Plan.TheVariants as p
use Rattle.hs_schema.specs.Catalogue.{Things}
use Rattle.indexmap.specs.IndexSet.{insert_all}
use Rattle.hs_closure.specs.Changing.{Changing, HasTarget, IsClosed, IsChanged, links, follows}
use Rattle.hs_closure.specs.Sets.{is_in, IsClosure}
use Rattle.hs_closure.specs.Steps.{followers, update_target, delete_target, chosen, IsExact}
use Rattle.hs_closure.specs.declared.way.Way.{Way}
use Rattle.hs_closure.specs.declared.way.Way.TheVariants as way
use Rattle.hs_closure.proofs.Links.{Link, linked, linked-from}
use Rattle.hs_closure.proofs.Sets.{never, same_number, itself, or-false, is_in-insert_all, in_flat_map, in_flat_map-from}

abbrev tabled : ℕ → TableNo
tabled n = record { 0 = n }

alone : (x n : ℕ) → is_in (x ∷ []) n ≡ true → n ≡ x
alone x n h = same_number n x (sym (or-false (nat_eq n x)) ∙ h)

alone-from : (x : ℕ) → is_in (x ∷ []) x ≡ true
alone-from x = or_left (nat_eq x x) false (itself x)

-- a set that has the target has it by number
update_targeted : (plan : Plan) (set : Changing) → HasTarget plan set → (n : ℕ) → is_in (update_target plan) n ≡ true → set way.Update (tabled n) ≡ true
update_targeted (p.Update update) set has n h = subst (λ k. set way.Update (tabled k) ≡ true) (sym (alone update.table.0 n h)) has
update_targeted (p.Delete delete) set has n h = never false h refl
update_targeted (p.Query query) set has n h = never false h refl
update_targeted (p.Insert insert) set has n h = never false h refl
update_targeted (p.LockTable all) set has n h = never false h refl
update_targeted (p.Define definition) set has n h = never false h refl
update_targeted (p.Session statement) set has n h = never false h refl

delete_targeted : (plan : Plan) (set : Changing) → HasTarget plan set → (n : ℕ) → is_in (delete_target plan) n ≡ true → set way.Deletion (tabled n) ≡ true
delete_targeted (p.Delete delete) set has n h = subst (λ k. set way.Deletion (tabled k) ≡ true) (sym (alone delete.table.0 n h)) has
delete_targeted (p.Update update) set has n h = never false h refl
delete_targeted (p.Query query) set has n h = never false h refl
delete_targeted (p.Insert insert) set has n h = never false h refl
delete_targeted (p.LockTable all) set has n h = never false h refl
delete_targeted (p.Define definition) set has n h = never false h refl
delete_targeted (p.Session statement) set has n h = never false h refl

module _ (things : Things) (plan : Plan) (updated deleted : List ℕ)
    (by_deletion : IsClosure (followers things way.Deletion way.Deletion) (delete_target plan) deleted)
    (by_update : IsClosure (followers things way.Update way.Update) (insert_all nat_eq (update_target plan) (flat_map (followers things way.Deletion way.Update) deleted)) updated) where
  -- ---- each such set has them

  followed : (set : Changing) → IsClosed things set → (from to : Way) (n m : ℕ) → set from (tabled n) ≡ true → is_in (followers things from to n) m ≡ true → set to (tabled m) ≡ true
  followed set closed from to n m has h =
      let l : Link (follows from to) (links things (tabled n)) m = linked (follows from to) (links things (tabled n)) m h in
      subst (λ k. set to (tabled k) ≡ true) l.table (closed from to (tabled n) l.link has l.there l.passes)

  deleted_sound : (set : Changing) → HasTarget plan set → IsClosed things set → (n : ℕ) → is_in deleted n ≡ true → set way.Deletion (tabled n) ≡ true
  deleted_sound set has closed = by_deletion.least (λ n. set way.Deletion (tabled n)) (delete_targeted plan set has) (followed set closed way.Deletion way.Deletion)

  started : (set : Changing) → HasTarget plan set → IsClosed things set → (n : ℕ) → is_in (insert_all nat_eq (update_target plan) (flat_map (followers things way.Deletion way.Update) deleted)) n ≡ true → set way.Update (tabled n) ≡ true
  started set has closed n h = elim (or_cases (is_in (update_target plan) n) (is_in (flat_map (followers things way.Deletion way.Update) deleted) n) (sym (is_in-insert_all (update_target plan) (flat_map (followers things way.Deletion way.Update) deleted) n) ∙ h)) [
    | inl target ↦ update_targeted plan set has n target
    | inr carried ↦
        let from = in_flat_map (followers things way.Deletion way.Update) deleted n carried in
        followed set closed way.Deletion way.Update from.0 n (deleted_sound set has closed from.0 from.1) from.2
  ]

  updated_sound : (set : Changing) → HasTarget plan set → IsClosed things set → (n : ℕ) → is_in updated n ≡ true → set way.Update (tabled n) ≡ true
  updated_sound set has closed = by_update.least (λ n. set way.Update (tabled n)) (started set has closed) (followed set closed way.Update way.Update)

  sound : (how : Way) (table : TableNo) → is_in (chosen how updated deleted) table.0 ≡ true → IsChanged things plan how table
  sound way.Update table h = λ set has closed. updated_sound set has closed table.0 h
  sound way.Deletion table h = λ set has closed. deleted_sound set has closed table.0 h

  -- ---- they are such a set

  abbrev found : Changing
  found how table = is_in (chosen how updated deleted) table.0

  starts : (n : ℕ) → is_in (update_target plan) n ≡ true → is_in updated n ≡ true
  starts n h = by_update.kept n (is_in-insert_all (update_target plan) (flat_map (followers things way.Deletion way.Update) deleted) n ∙ or_left (is_in (update_target plan) n) (is_in (flat_map (followers things way.Deletion way.Update) deleted) n) h)

  targets : (its : Plan) → update_target its ≡ update_target plan → delete_target its ≡ delete_target plan → HasTarget its found
  targets (p.Update update) u d = starts update.table.0 (subst (λ xs. is_in xs update.table.0 ≡ true) u (alone-from update.table.0))
  targets (p.Delete delete) u d = by_deletion.kept delete.table.0 (subst (λ xs. is_in xs delete.table.0 ≡ true) d (alone-from delete.table.0))
  targets (p.Query query) u d = tt
  targets (p.Insert insert) u d = tt
  targets (p.LockTable all) u d = tt
  targets (p.Define definition) u d = tt
  targets (p.Session statement) u d = tt

  closes : IsClosed things found
  closes way.Deletion way.Deletion table link has there follow = by_deletion.closed table.0 link.table.0 has (linked-from (follows way.Deletion way.Deletion) (links things table) link there follow)
  closes way.Deletion way.Update table link has there follow =
      let carried = in_flat_map-from (followers things way.Deletion way.Update) deleted table.0 link.table.0 has (linked-from (follows way.Deletion way.Update) (links things table) link there follow) in
      by_update.kept link.table.0 (is_in-insert_all (update_target plan) (flat_map (followers things way.Deletion way.Update) deleted) link.table.0 ∙ or_right (is_in (update_target plan) link.table.0) (is_in (flat_map (followers things way.Deletion way.Update) deleted) link.table.0) carried)
  closes way.Update way.Update table link has there follow = by_update.closed table.0 link.table.0 has (linked-from (follows way.Update way.Update) (links things table) link there follow)
  closes way.Update way.Deletion table link has there follow = never false follow refl

  pub exact : IsExact things plan updated deleted
  exact how table = (sound how table, λ changed. changed found (targets plan refl refl) closes)
