use Rattle.std.proofs.Common.{◌≡◌, ℕ, ◌==◌, ◌&&◌, not, Bool, List, refl, sym, subst}
use Rattle.std.specs.Ordering.{is_eq}
use Rattle.hs_base.specs.declared.numbers.RowName.{RowName}
use Rattle.hs_values.specs.declared.value.Value.{Value}
use Rattle.hs_claims.specs.Compatible.{same_key}
use Rattle.hs_claims.specs.Session.{IsSession}
use Rattle.hs_claims.specs.declared.resource.Resource.{Resource as TheResource}
use Rattle.hs_claimtable.specs.declared.places.KeyOwner.{KeyOwner}
use Rattle.hs_claimtable.specs.declared.places.Places.{Places}
use Rattle.hs_claimtable.specs.Marks.{is_marked, marks_at}
use Rattle.hs_claimtable.specs.Places.{row_cmp, owner_cmp, key_marks, IsUnmarked}
use Rattle.hs_claimtable.proofs.Resources.{catalog_unmarked, table_unmarked, row_unmarked, key_unmarked}
use Rattle.hs_claimtable.proofs.places.Places.unmark.Goals as goal

pub returns-in-Catalog : goal.returns-in-Catalog
returns-in-Catalog c =
    let old = c.args.self.now in
    let new : Places = record old { catalog = c.without-self.result } in
    subst (λ (r : TheResource). IsUnmarked old new c.args.session.0 r) (sym c.in-Catalog.is)
    (catalog_unmarked c.args.session.0 old new (refl, refl, refl) c.without-self.ensures)

pub returns-in-Table : goal.returns-in-Table
returns-in-Table c =
    let old = c.args.self.now in
    let new : Places = record old { tables = c.unmark.new.places } in
    subst (λ (r : TheResource). IsUnmarked old new c.args.session.0 r) (sym c.in-Table.is)
    (table_unmarked c.args.session.0 old new c.in-Table.table (refl, refl, refl) c.unmark.ensures)

pub returns-in-Row : goal.returns-in-Row
returns-in-Row c =
    let old = c.args.self.now in
    let new : Places = record old { rows = c.unmark-in-Row.new.places } in
    subst (λ (r : TheResource). IsUnmarked old new c.args.session.0 r) (sym c.in-Row.is)
    (row_unmarked c.args.session.0 old new c.in-Row.table c.in-Row.row (refl, refl, refl)
    (subst (λ (p : RowName). (only : Bool) (q : RowName) (s : ℕ) → IsSession s → is_marked only (marks_at row_cmp new.rows q) s ≡ (not (is_eq (row_cmp p q) && (s == c.args.session.0)) && is_marked only (marks_at row_cmp old.rows q) s)) c.row_name.ensures c.unmark-in-Row.ensures))

pub returns-in-Key : goal.returns-in-Key
returns-in-Key c =
    let old = c.args.self.now in
    let new : Places = record old { keys = c.unmark_key.new.keys } in
    subst (λ (r : TheResource). IsUnmarked old new c.args.session.0 r) (sym c.in-Key.is)
    (key_unmarked c.args.session.0 old new c.in-Key.table c.in-Key.constraint c.in-Key.values (refl, refl, refl)
    (subst (λ (p : KeyOwner). (only : Bool) (o : KeyOwner) (v : List Value) (s : ℕ) → IsSession s → is_marked only (key_marks new.keys o v) s ≡ (not (is_eq (owner_cmp p o) && same_key c.in-Key.values v && (s == c.args.session.0)) && is_marked only (key_marks old.keys o v) s)) c.owner.ensures c.unmark_key.ensures))
