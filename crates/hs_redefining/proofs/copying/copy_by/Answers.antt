use Rattle.std.proofs.Common.{◌≡◌, ℕ, List, [], ◌∷◌, sym, subst}
use Rattle.std.proofs.lemmas.Bool.{eq-eqb, ne_eqb}
use Rattle.std.specs.FinMap.{empty}
use Rattle.hs_turns.specs.Definitions.{lengthened, with_rows}
use Rattle.hs_draft.specs.Drafted.{after}
use Rattle.hs_values.specs.declared.value.Value.{Value}
use Rattle.hs_redefining.specs.Effects.{rows_by}
use Rattle.hs_redefining.specs.Longer.{AreLonger, AreWithin}
use Rattle.hs_redefining.specs.declared.effect.Effect.{Effect}
use Rattle.hs_redefining.proofs.Copied.{as_long, kept_long, own_cleared, own_long}
use Rattle.hs_redefining.proofs.copying.copy_by.Goals as goal

pub returns-in-Nothing : goal.returns-in-Nothing
returns-in-Nothing c = λ maps are within.
    let n = c.args.table.0 in
    c.copy_table.ensures maps (rows_by c.args.effect.now maps n) are
    (subst (λ (e : Effect). AreLonger [] (maps n) (rows_by e maps n)) (sym c.in-Nothing.is) (as_long (maps n))) within

pub returns-then-own-table : goal.returns-then-own-table
returns-then-own-table c = λ maps are within.
    let n = c.args.table.0 in
    let own = c.in-Clears.own.0 in
    let held = after c.args.into.now in
    subst (λ (e : Effect). (t : ℕ) → held t ≡ with_rows n (rows_by e maps n) held t) (sym c.in-Clears.is)
    (own_cleared own n maps held (eq-eqb own n c.if-own-table.true) (subst (λ (e : Effect). AreWithin (held n) (rows_by e maps n)) c.in-Clears.is within))

pub returns-else-own-table : goal.returns-else-own-table
returns-else-own-table c = λ maps are within.
    let n = c.args.table.0 in
    let own = c.in-Clears.own.0 in
    c.copy_table-in-Clears.ensures maps (rows_by c.args.effect.now maps n) are
    (subst (λ (e : Effect). AreLonger [] (maps n) (rows_by e maps n)) (sym c.in-Clears.is) (kept_long own n empty maps (ne_eqb own n c.if-own-table.false))) within

pub returns-then-own-table-2 : goal.returns-then-own-table-2
returns-then-own-table-2 c = λ maps are within.
    let n = c.args.table.0 in
    let own = c.in-Lengthens.own.0 in
    let value = c.in-Lengthens.value in
    c.copy_table-then-own-table-2.ensures maps (rows_by c.args.effect.now maps n) are
    (subst (λ (more : List Value). AreLonger more (maps n) (rows_by c.args.effect.now maps n)) (sym c.from_ref.ensures.value)
    (subst (λ (e : Effect). AreLonger (value ∷ []) (maps n) (rows_by e maps n)) (sym c.in-Lengthens.is) (own_long own n value maps (eq-eqb own n c.if-own-table-2.true))))
    within

pub returns-else-own-table-2 : goal.returns-else-own-table-2
returns-else-own-table-2 c = λ maps are within.
    let n = c.args.table.0 in
    let own = c.in-Lengthens.own.0 in
    c.copy_table-in-Lengthens.ensures maps (rows_by c.args.effect.now maps n) are
    (subst (λ (e : Effect). AreLonger [] (maps n) (rows_by e maps n)) (sym c.in-Lengthens.is) (kept_long own n (lengthened c.in-Lengthens.value (maps own)) maps (ne_eqb own n c.if-own-table-2.false))) within
