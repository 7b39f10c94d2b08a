-- Rows that stay where they are, though their table is to have none.
use Rattle.std.proofs.Common.{◌≡◌, inl, inr, ℕ, false, [], ◌∷◌, None, refl, sym, ap, ◌∙◌, arith, if◌then◌else◌}
use Rattle.std.specs.Cmp.{nat_cmp_total}
use Rattle.std.specs.FinMap.{empty, get-empty, nat_cmp-IsAntisymmetric, same_map}
use Rattle.std.specs.List.{All}
use Rattle.std.specs.Ordering.{nat_cmp}
use Rattle.std.proofs.lemmas.Bool.{or_parts}
use Rattle.std.proofs.lemmas.Bool.Decides.{eqb_tells}
use Rattle.std.proofs.lemmas.List.Elements.{All-cons, All-nil}
use Rattle.hs_changes.specs.Settings.{Maps}
use Rattle.hs_turns.specs.Definitions.{with_rows}
use Rattle.hs_index.specs.Table.{Rows}
use Rattle.hs_rows.specs.Numbers.{next_in}
use Rattle.hs_schema.specs.Catalogue.{Things}
use Rattle.hs_schema.specs.declared.thing.Thing.{Thing}
use Rattle.hs_redefining.specs.Effects.{told_by}
use Rattle.hs_redefining.specs.Tables.{has_thing, is_of}
use Rattle.hs_redefining.specs.declared.effect.Effect.{Effect}
use Rattle.hs_redefining.specs.declared.effect.Effect.TheVariants as effect
use Rattle.hs_redefining.proofs.ByNumber.{last_tells}

-- a table without a first row has none
pub no_rows : (rows : Rows) → None ≡ next_in rows None → rows ≡ empty
no_rows rows none = same_map nat_cmp_total nat_cmp-IsAntisymmetric rows empty (λ k. last_tells rows None none k (omega arith) ∙ sym (get-empty nat_cmp k))

pub stay_empty : (table : ℕ) (maps : Maps) → maps table ≡ empty → (t : ℕ) → maps t ≡ with_rows table empty maps t
stay_empty table maps none t = elim (eqb_tells t table) [
  | inl both ↦ ap maps both.1 ∙ none ∙ sym (ap (λ b. if b then empty else maps t) both.0)
  | inr other ↦ sym (ap (λ b. if b then empty else maps t) other.0)
]

-- where no thing is of the table
pub none_there : (table : ℕ) (maps : Maps) (things : Things) → has_thing things table ≡ false → All (λ (t : Thing). maps t.table.0 ≡ with_rows table empty maps t.table.0) things
none_there table maps [] h = All-nil (λ (t : Thing). maps t.table.0 ≡ with_rows table empty maps t.table.0)
none_there table maps (x ∷ xs) h =
    let parts = or_parts (is_of table x) (has_thing xs table) h in
    All-cons (λ (t : Thing). maps t.table.0 ≡ with_rows table empty maps t.table.0) x xs (sym (ap (λ b. if b then empty else maps x.table.0) parts.0)) (none_there table maps xs parts.1)

-- nothing is told where nothing is violated
pub told_none : (e : Effect) (things : Things) → None ≡ told_by e things None
told_none effect.Nothing things = refl
told_none (effect.Clears table) things = refl
told_none (effect.Lengthens table value) things = refl
