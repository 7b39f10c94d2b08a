-- Rows by their names, among those that are edited.
use Rattle.std.proofs.Common.{◌≡◌, inl, inr, ◌⊎◌, true, List, [], ◌∷◌, Option, Ordering, Less, Equal, Greater, refl, ap, sym, subst, ◌∙◌}
use Rattle.std.specs.BTreeMap.{insert_entry}
use Rattle.std.specs.List.{Contains}
use Rattle.std.specs.Ordering.{eq_by_cmp, match_ordering, nat_cmp}
use Rattle.std.proofs.lemmas.Map.Lookups.{exact_unsigned}
use Rattle.hs_base.specs.declared.numbers.RowName.{RowName}
use Rattle.hs_values.specs.declared.value.Value.{Value}
use Rattle.hs_values.proofs.Keys.{then_Equal}
use Rattle.hs_index.proofs.RowSets.{equal_from}
use Rattle.hs_rel.proofs.Selecting.{at_head, head_or_tail, in_tail}
use Rattle.hs_actions.specs.Work.{Edits, name_cmp}

-- ---- names

-- rows of one name are one
equal_named : (a b : RowName) → name_cmp a b ≡ Equal → a ≡ b
equal_named a b h =
    let both = then_Equal (nat_cmp a.table.0 b.table.0) (nat_cmp a.row.0 b.row.0) h in
    let table = exact_unsigned a.table.0 b.table.0 both.0 in
    let row = exact_unsigned a.row.0 b.row.0 both.1 in
    λ i. record { table = record { 0 = table i }; row = record { 0 = row i } }

pub named_alike : (a b : RowName) → eq_by_cmp name_cmp a b ≡ true → a ≡ b
named_alike a b h = equal_named a b (equal_from (name_cmp a b) h)

-- ---- one edit more

-- an entry is the one that is put, or one of those before
pub from_put : (name : RowName) (values : Option (List Value)) (edits : Edits) (e : RowName × Option (List Value)) → Contains (insert_entry name_cmp edits name values) e → (e ≡ (name, values)) ⊎ Contains edits e
from_put name values [] e found = elim (head_or_tail (name, values) [] e found) [
  | inl is ↦ inl (sym is)
  | inr none ↦ inr none
]
from_put name values (d ∷ ds) e found = by (from_put name values ds e) (name_cmp name d.0) refl found
  where
    by : (Contains (insert_entry name_cmp ds name values) e → (e ≡ (name, values)) ⊎ Contains ds e) → (o : Ordering) → name_cmp name d.0 ≡ o → Contains (match_ordering o ((name, values) ∷ d ∷ ds) ((d.0, values) ∷ ds) (d ∷ insert_entry name_cmp ds name values)) e → (e ≡ (name, values)) ⊎ Contains (d ∷ ds) e
    by rest Less is at = elim (head_or_tail (name, values) (d ∷ ds) e at) [
      | inl here ↦ inl (sym here)
      | inr later ↦ inr later
    ]
    by rest Equal is at = elim (head_or_tail (d.0, values) ds e at) [
      | inl here ↦ inl (sym here ∙ ap (λ (n : RowName). (n, values)) (sym (equal_named name d.0 is)))
      | inr later ↦ inr (in_tail d ds e later)
    ]
    by rest Greater is at = elim (head_or_tail d (insert_entry name_cmp ds name values) e at) [
      | inl here ↦ inr (subst (Contains (d ∷ ds)) here (at_head d ds))
      | inr later ↦ elim (rest later) [
        | inl put ↦ inl put
        | inr old ↦ inr (in_tail d ds e old)
      ]
    ]
