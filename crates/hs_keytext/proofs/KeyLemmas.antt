-- Foreign keys as they are read.
use Rattle.std.proofs.Common.{◌≡◌, ◌≢◌, ℕ, true, List, [], ◌∷◌, ◌++◌, length, refl, sym, ap, subst, ◌∙◌, IsUtf8}
use Rattle.std.specs.Prelude.{codes}
use Rattle.hs_ast.specs.declared.definition.ReferentialAction.{ReferentialAction}
use Rattle.hs_plan.specs.declared.definition.Column.{Column}
use Rattle.hs_plan.specs.declared.definition.ForeignKey.{ForeignKey}
use Rattle.hs_valuetext.proofs.NumberLemmas.{same_front}
use Rattle.hs_valuetext.proofs.TextLemmas.{Alone}
use Rattle.hs_nametext.specs.Names.{name_text, is_name, IsNameAt}
use Rattle.hs_keytext.specs.Owners.{Owner}
use Rattle.hs_keytext.specs.Places.{places_text, AreColumns, AreColumnsAt}
use Rattle.hs_keytext.specs.ForeignKeys.{actions_text, AreActions, parent_columns, Referenced, referenced_text, IsReferenced, parent_text, IsParent, IsParentNamed, parent_of, foreign_key_text, IsForeignKeyText, IsBehindColumns}

-- ---- the parent's columns and the actions

columns_first : (columns : List Column) (text inner : List ℕ) → text ≡ codes "(" ++ inner → (r : Referenced) → IsReferenced columns text r → AreColumnsAt columns inner r.0 (actions_text r.1)
columns_first columns text inner e r h = record { lawful = h.lawful; written = same_front (codes "(") inner (places_text columns r.0 ++ (codes ")" ++ actions_text r.1)) (sym e ∙ h.written) }

pub referenced_found : (columns : List Column) (text inner rest : List ℕ) (places : List ℕ) (x : ReferentialAction × ReferentialAction) → text ≡ codes "(" ++ inner → Alone (AreColumnsAt columns inner) places rest → AreActions rest x × ((p : ReferentialAction × ReferentialAction) → AreActions rest p → p ≡ x) → IsReferenced columns text (places, x) × ((r : Referenced) → IsReferenced columns text r → r ≡ (places, x))
referenced_found columns text inner rest places x e found known = (
  record { lawful = found.0.lawful; written = e ∙ ap (λ (xs : List ℕ). codes "(" ++ xs) (found.0.written ∙ ap (λ (xs : List ℕ). places_text columns places ++ (codes ")" ++ xs)) known.0.written) },
  λ r h.
      let same = found.1 r.0 (actions_text r.1) (columns_first columns text inner e r h) in
      λ i. (same.0 i, known.1 r.1 (record { written = sym same.1 }) i),
)

pub referenced_actionless : (columns : List Column) (text inner rest : List ℕ) (places : List ℕ) → text ≡ codes "(" ++ inner → Alone (AreColumnsAt columns inner) places rest → ((p : ReferentialAction × ReferentialAction) → ¬ (AreActions rest p)) → (r : Referenced) → ¬ (IsReferenced columns text r)
referenced_actionless columns text inner rest places e found none r h = none r.1 (record { written = sym (found.1 r.0 (actions_text r.1) (columns_first columns text inner e r h)).1 })

pub referenced_columnless : (columns : List Column) (text inner : List ℕ) → text ≡ codes "(" ++ inner → ((places : List ℕ) (rest : List ℕ) → ¬ (AreColumnsAt columns inner places rest)) → (r : Referenced) → ¬ (IsReferenced columns text r)
referenced_columnless columns text inner e none r h = none r.0 (actions_text r.1) (columns_first columns text inner e r h)

pub referenced_unbegun : (columns : List Column) (text : List ℕ) → ((r : List ℕ) → text ≢ codes "(" ++ r) → (r : Referenced) → ¬ (IsReferenced columns text r)
referenced_unbegun columns text other r h = other (places_text columns r.0 ++ (codes ")" ++ actions_text r.1)) h.written

-- ---- the parent

pub parent_named : (owner : Owner) (name text made : List ℕ) (r : Referenced) → IsReferenced (parent_columns owner name) text r × ((q : Referenced) → IsReferenced (parent_columns owner name) text q → q ≡ r) → made ≡ name → IsParentNamed owner name text (made, r) × ((p : List ℕ × Referenced) → IsParentNamed owner name text p → p ≡ (made, r))
parent_named owner name text made r known is = (
  record { is = is; at = known.0 },
  λ p h.
      let first : p.0 ≡ made = h.is ∙ sym is in
      λ i. (first i, known.1 p.1 h.at i),
)

pub parent_unnamed : (owner : Owner) (name text : List ℕ) → ((q : Referenced) → ¬ (IsReferenced (parent_columns owner name) text q)) → (p : List ℕ × Referenced) → ¬ (IsParentNamed owner name text p)
parent_unnamed owner name text none p h = none p.1 h.at

name_first : (owner : Owner) (text : List ℕ) (p : List ℕ × Referenced) → IsParent owner text p → IsNameAt text p.0 (referenced_text (parent_columns owner p.0) p.1)
name_first owner text p h = record { lawful = h.named; utf8 = h.utf8; written = h.written; ends = refl }

pub parent_from : (owner : Owner) (text name middle : List ℕ) → Alone (IsNameAt text) name middle → (p : List ℕ × Referenced) → IsParentNamed owner name middle p → IsParent owner text p
parent_from owner text name middle found p h = record {
  named = ap is_name h.is ∙ found.0.lawful;
  utf8 = subst IsUtf8 (sym h.is) found.0.utf8;
  lawful = subst (λ (n : List ℕ). AreColumns (parent_columns owner n) p.1.0) (sym h.is) h.at.lawful;
  written =
      found.0.written ∙ ap (λ (xs : List ℕ). name_text name ++ xs) h.at.written
      ∙ ap (λ (n : List ℕ). name_text n ++ referenced_text (parent_columns owner n) p.1) (sym h.is);
}

pub from_parent : (owner : Owner) (text name middle : List ℕ) → Alone (IsNameAt text) name middle → (p : List ℕ × Referenced) → IsParent owner text p → IsParentNamed owner name middle p
from_parent owner text name middle found p h =
    let same = found.1 p.0 (referenced_text (parent_columns owner p.0) p.1) (name_first owner text p h) in
    record {
      is = same.0;
      at = record {
        lawful = subst (λ (n : List ℕ). AreColumns (parent_columns owner n) p.1.0) same.0 h.lawful;
        written = sym same.1 ∙ ap (λ (n : List ℕ). referenced_text (parent_columns owner n) p.1) same.0;
      };
    }

pub parent_nameless : (owner : Owner) (text : List ℕ) → ((name rest : List ℕ) → ¬ (IsNameAt text name rest)) → (p : List ℕ × Referenced) → ¬ (IsParent owner text p)
parent_nameless owner text none p h = none p.0 (referenced_text (parent_columns owner p.0) p.1) (name_first owner text p h)

-- ---- behind the columns

its_parent : (owner : Owner) (columns : List ℕ) (text inner : List ℕ) → text ≡ codes " REFERENCES " ++ inner → (key : ForeignKey) → IsBehindColumns owner columns text key → IsParent owner inner (parent_of key)
its_parent owner columns text inner e key h = record { named = h.named; utf8 = h.utf8; lawful = h.theirs; written = same_front (codes " REFERENCES ") inner (parent_text owner (parent_of key)) (sym e ∙ h.written) }

pub behind_found : (owner : Owner) (columns : List ℕ) (text inner : List ℕ) (key : ForeignKey) → text ≡ codes " REFERENCES " ++ inner → IsParent owner inner (parent_of key) × ((p : List ℕ × Referenced) → IsParent owner inner p → p ≡ parent_of key) → key.columns ≡ columns → length columns ≡ length key.parent_columns → IsBehindColumns owner columns text key × ((k : ForeignKey) → IsBehindColumns owner columns text k → k ≡ key)
behind_found owner columns text inner key e known is paired = (
  record { is = is; named = known.0.named; utf8 = known.0.utf8; theirs = known.0.lawful; paired = paired; written = e ∙ ap (λ (xs : List ℕ). codes " REFERENCES " ++ xs) known.0.written },
  λ k h.
      let same : parent_of k ≡ parent_of key = known.1 (parent_of k) (its_parent owner columns text inner e k h) in
      let own : k.columns ≡ key.columns = h.is ∙ sym is in
      λ i. record { columns = own i; parent = (same i).0; parent_columns = (same i).1.0; on_delete = (same i).1.1.0; on_update = (same i).1.1.1 },
)

pub behind_unpaired : (owner : Owner) (columns : List ℕ) (text inner : List ℕ) (p : List ℕ × Referenced) → text ≡ codes " REFERENCES " ++ inner → IsParent owner inner p × ((q : List ℕ × Referenced) → IsParent owner inner q → q ≡ p) → length columns ≢ length p.1.0 → (k : ForeignKey) → ¬ (IsBehindColumns owner columns text k)
behind_unpaired owner columns text inner p e known other k h =
    let same : parent_of k ≡ p = known.1 (parent_of k) (its_parent owner columns text inner e k h) in
    other (h.paired ∙ ap (λ (q : List ℕ × Referenced). length q.1.0) same)

pub behind_parentless : (owner : Owner) (columns : List ℕ) (text inner : List ℕ) → text ≡ codes " REFERENCES " ++ inner → ((p : List ℕ × Referenced) → ¬ (IsParent owner inner p)) → (k : ForeignKey) → ¬ (IsBehindColumns owner columns text k)
behind_parentless owner columns text inner e none k h = none (parent_of k) (its_parent owner columns text inner e k h)

pub behind_unbegun : (owner : Owner) (columns : List ℕ) (text : List ℕ) → ((r : List ℕ) → text ≢ codes " REFERENCES " ++ r) → (k : ForeignKey) → ¬ (IsBehindColumns owner columns text k)
behind_unbegun owner columns text other k h = other (parent_text owner (parent_of k)) h.written

-- ---- the whole

own_first : (owner : Owner) (text inner : List ℕ) → text ≡ codes "FOREIGN KEY(" ++ inner → (k : ForeignKey) → IsForeignKeyText owner text k → AreColumnsAt owner.columns inner k.columns (codes " REFERENCES " ++ parent_text owner (parent_of k))
own_first owner text inner e k h = record { lawful = h.lawful.own; written = same_front (codes "FOREIGN KEY(") inner (places_text owner.columns k.columns ++ (codes ") REFERENCES " ++ parent_text owner (parent_of k))) (sym e ∙ h.written) }

pub key_from : (owner : Owner) (text inner rest : List ℕ) (columns : List ℕ) → text ≡ codes "FOREIGN KEY(" ++ inner → Alone (AreColumnsAt owner.columns inner) columns rest → (k : ForeignKey) → IsBehindColumns owner columns rest k → IsForeignKeyText owner text k
key_from owner text inner rest columns e found k h = record {
  lawful = record {
    own = subst (λ (cs : List ℕ). AreColumns owner.columns cs) (sym h.is) found.0.lawful;
    named = h.named;
    utf8 = h.utf8;
    theirs = h.theirs;
    paired = ap length h.is ∙ h.paired;
  };
  written =
      e ∙ ap (λ (xs : List ℕ). codes "FOREIGN KEY(" ++ xs) (found.0.written ∙ ap (λ (xs : List ℕ). places_text owner.columns columns ++ (codes ")" ++ xs)) h.written)
      ∙ ap (λ (cs : List ℕ). codes "FOREIGN KEY(" ++ (places_text owner.columns cs ++ (codes ") REFERENCES " ++ parent_text owner (parent_of k)))) (sym h.is);
}

pub from_key : (owner : Owner) (text inner rest : List ℕ) (columns : List ℕ) → text ≡ codes "FOREIGN KEY(" ++ inner → Alone (AreColumnsAt owner.columns inner) columns rest → (k : ForeignKey) → IsForeignKeyText owner text k → IsBehindColumns owner columns rest k
from_key owner text inner rest columns e found k h =
    let same = found.1 k.columns (codes " REFERENCES " ++ parent_text owner (parent_of k)) (own_first owner text inner e k h) in
    record { is = same.0; named = h.lawful.named; utf8 = h.lawful.utf8; theirs = h.lawful.theirs; paired = ap length (sym same.0) ∙ h.lawful.paired; written = sym same.1 }

pub key_columnless : (owner : Owner) (text inner : List ℕ) → text ≡ codes "FOREIGN KEY(" ++ inner → ((columns : List ℕ) (rest : List ℕ) → ¬ (AreColumnsAt owner.columns inner columns rest)) → (k : ForeignKey) → ¬ (IsForeignKeyText owner text k)
key_columnless owner text inner e none k h = none k.columns (codes " REFERENCES " ++ parent_text owner (parent_of k)) (own_first owner text inner e k h)

pub key_unbegun : (owner : Owner) (text : List ℕ) → ((r : List ℕ) → text ≢ codes "FOREIGN KEY(" ++ r) → (k : ForeignKey) → ¬ (IsForeignKeyText owner text k)
key_unbegun owner text other k h = other (places_text owner.columns k.columns ++ (codes ") REFERENCES " ++ parent_text owner (parent_of k))) h.written
