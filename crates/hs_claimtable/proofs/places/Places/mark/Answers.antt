use Rattle.std.proofs.Common.{◌≡◌, ℕ, ◌==◌, ◌&&◌, ◌||◌, not, Bool, List, refl, sym, subst}
use Rattle.std.proofs.lemmas.Result.{on_ok_weaker}
use Rattle.std.specs.Ordering.{is_eq}
use Rattle.hs_base.specs.declared.numbers.RowName.{RowName}
use Rattle.hs_values.specs.declared.value.Value.{Value}
use Rattle.hs_claims.specs.Compatible.{same_key}
use Rattle.hs_claims.specs.Session.{IsSession}
use Rattle.hs_claims.specs.declared.resource.Resource.{Resource as TheResource}
use Rattle.hs_claimtable.specs.declared.places.KeyOwner.{KeyOwner}
use Rattle.hs_claimtable.specs.declared.places.Places.{Places}
use Rattle.hs_claimtable.specs.Marks.{is_marked, marks_at}
use Rattle.hs_claimtable.specs.Places.{row_cmp, owner_cmp, key_marks, IsMarked}
use Rattle.hs_claimtable.proofs.Resources.{catalog_marked, table_marked, row_marked, key_marked}
use Rattle.hs_claimtable.proofs.places.Places.mark.Goals as goal

pub returns-in-Catalog : goal.returns-in-Catalog
returns-in-Catalog c =
    let old = c.args.self.now in
    let new : Places = record old { catalog = c.with-self.result } in
    let exclusive = c.args.claim.now.exclusive in
    subst (λ (r : TheResource). IsMarked old new c.args.session.0 (record { resource = r; exclusive = exclusive })) (sym c.in-Catalog.is)
    (catalog_marked c.args.session.0 exclusive old new (refl, refl, refl) c.with-self.ensures)

pub returns-in-Table : goal.returns-in-Table
returns-in-Table c =
    let old = c.args.self.now in
    let new : Places = record old { tables = c.mark.new.places } in
    let exclusive = c.args.claim.now.exclusive in
    on_ok_weaker c.mark.result
    (λ marked. subst (λ (r : TheResource). IsMarked old new c.args.session.0 (record { resource = r; exclusive = exclusive })) (sym c.in-Table.is)
    (table_marked c.args.session.0 exclusive old new c.in-Table.table (refl, refl, refl) marked))
    c.mark.ensures

pub returns-in-Row : goal.returns-in-Row
returns-in-Row c =
    let old = c.args.self.now in
    let new : Places = record old { rows = c.mark-in-Row.new.places } in
    let exclusive = c.args.claim.now.exclusive in
    on_ok_weaker c.mark-in-Row.result
    (λ marked. subst (λ (r : TheResource). IsMarked old new c.args.session.0 (record { resource = r; exclusive = exclusive })) (sym c.in-Row.is)
    (row_marked c.args.session.0 exclusive old new c.in-Row.table c.in-Row.row (refl, refl, refl)
    (subst (λ (p : _). (only : Bool) (q : RowName) (s : ℕ) → IsSession s → is_marked only (marks_at row_cmp new.rows q) s ≡ ((is_eq (row_cmp p q) && (not only || exclusive) && (s == c.args.session.0)) || is_marked only (marks_at row_cmp old.rows q) s)) c.row_name.ensures marked)))
    c.mark-in-Row.ensures

pub returns-in_ok-values-in-Key : goal.returns-in_ok-values-in-Key
returns-in_ok-values-in-Key c =
    let old = c.args.self.now in
    let new : Places = record old { keys = c.mark_key.new.keys } in
    let exclusive = c.args.claim.now.exclusive in
    on_ok_weaker c.mark_key.result
    (λ marked. subst (λ (r : TheResource). IsMarked old new c.args.session.0 (record { resource = r; exclusive = exclusive })) (sym c.in-Key.is)
    (key_marked c.args.session.0 exclusive old new c.in-Key.table c.in-Key.constraint c.in-Key.values (refl, refl, refl)
    (subst (λ (vs : List Value). (only : Bool) (o : KeyOwner) (v : List Value) (s : ℕ) → IsSession s → is_marked only (key_marks new.keys o v) s ≡ ((is_eq (owner_cmp (record { table = c.in-Key.table; constraint = c.in-Key.constraint }) o) && same_key vs v && (not only || exclusive) && (s == c.args.session.0)) || is_marked only (key_marks old.keys o v) s)) c.in_ok-values-in-Key.ensures
    (subst (λ (p : KeyOwner). (only : Bool) (o : KeyOwner) (v : List Value) (s : ℕ) → IsSession s → is_marked only (key_marks new.keys o v) s ≡ ((is_eq (owner_cmp p o) && same_key c.in_ok-values-in-Key.values v && (not only || exclusive) && (s == c.args.session.0)) || is_marked only (key_marks old.keys o v) s)) c.owner-place.ensures marked))))
    c.mark_key.ensures
