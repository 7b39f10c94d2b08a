-- Definitions of tables as they are read.
use Rattle.std.proofs.Common.{◌≡◌, ◌≢◌, ℕ, List, ◌++◌, refl, sym, ap, subst, ◌∙◌}
use Rattle.std.specs.Prelude.{codes}
use Rattle.std.specs.List.{AllByRecursion}
use Rattle.hs_ast.specs.declared.definition.Storage.{Storage}
use Rattle.hs_ast.specs.declared.definition.Storage.TheVariants as s
use Rattle.hs_plan.specs.declared.definition.Column.{Column}
use Rattle.hs_plan.specs.declared.definition.Constraint.{Constraint}
use Rattle.hs_schema.specs.Catalogue.{Things}
use Rattle.hs_valuetext.proofs.NumberLemmas.{same_front}
use Rattle.hs_valuetext.proofs.TextLemmas.{Alone}
use Rattle.hs_nametext.specs.Names.{name_text, goes_on, IsNameAt}
use Rattle.hs_columntext.specs.Columns.{columns_text, AreColumnsAt}
use Rattle.hs_tabletext.specs.Conditions.{Wording}
use Rattle.hs_tabletext.specs.Constraints.{constraint_lines, IsConstraint, AreConstraintLines}
use Rattle.hs_parttext.specs.Named.{IsNamed}
use Rattle.hs_parttext.proofs.Known.{apart}
use Rattle.hs_parttext.proofs.NamedLemmas.{Ends, named_nameless}
use Rattle.hs_tabletext.proofs.Naming.{named_read, named_none}
use Rattle.hs_tabletext.specs.declared.definition.NewTable.{NewTable}
use Rattle.hs_tabletext.specs.Tables.{create_text, IsCreateAt, owner_of, body_text, Body, IsBodyText, IsTableText}

-- ---- before the name

pub create_alone : (text : List ℕ) (storage : Storage) (rest : List ℕ) → text ≡ create_text storage ++ rest → Alone (IsCreateAt text) storage rest
create_alone text storage rest e = (e, λ other others h. same storage other rest others (sym e ∙ h))
  where
    same : (storage other : Storage) (rest others : List ℕ) → create_text storage ++ rest ≡ create_text other ++ others → (other ≡ storage) × (others ≡ rest)
    same s.Memory s.Memory rest others h = (refl, sym (same_front (codes "CREATE MEMORY TABLE ") rest others h))
    same s.Cached s.Cached rest others h = (refl, sym (same_front (codes "CREATE CACHED TABLE ") rest others h))
    same s.Memory s.Cached rest others h = absurd (apart 77 67 _ _ _ refl refl (same_front (codes "CREATE ") (codes "MEMORY TABLE " ++ rest) (codes "CACHED TABLE " ++ others) h))
    same s.Cached s.Memory rest others h = absurd (apart 67 77 _ _ _ refl refl (same_front (codes "CREATE ") (codes "CACHED TABLE " ++ rest) (codes "MEMORY TABLE " ++ others) h))

pub create_none : (text : List ℕ) → ((rest : List ℕ) → text ≢ codes "CREATE MEMORY TABLE " ++ rest) → ((rest : List ℕ) → text ≢ codes "CREATE CACHED TABLE " ++ rest) → (storage : Storage) (rest : List ℕ) → ¬ (IsCreateAt text storage rest)
create_none text memory cached s.Memory rest h = memory rest h
create_none text memory cached s.Cached rest h = cached rest h

-- ---- the columns and the constraints

its_columns : (wording : Wording) (things : Things) (name text inner : List ℕ) → text ≡ codes "(" ++ inner → (b : Body) → IsBodyText wording things name text b → AreColumnsAt inner b.0 (constraint_lines wording (owner_of things name b.0) b.1)
its_columns wording things name text inner e b h = record {
  lawful = h.lawful.columns;
  written = same_front (codes "(") inner (columns_text b.0 ++ (codes ")" ++ constraint_lines wording (owner_of things name b.0) b.1)) (sym e ∙ h.written);
}

its_lines : (wording : Wording) (things : Things) (name text inner rest : List ℕ) (columns : List Column) → text ≡ codes "(" ++ inner → Alone (AreColumnsAt inner) columns rest → (b : Body) → IsBodyText wording things name text b → (b.0 ≡ columns) × AreConstraintLines wording (owner_of things name columns) rest b.1
its_lines wording things name text inner rest columns e found b h =
    let same = found.1 b.0 (constraint_lines wording (owner_of things name b.0) b.1) (its_columns wording things name text inner e b h) in (
      same.0,
      record {
        lawful = subst (λ (cs : List Column). AllByRecursion (IsConstraint wording (owner_of things name cs)) b.1) same.0 h.lawful.constraints;
        written = sym same.1 ∙ ap (λ (cs : List Column). constraint_lines wording (owner_of things name cs) b.1) same.0;
      },
    )

pub body_found : (wording : Wording) (things : Things) (name text inner rest : List ℕ) (columns : List Column) (constraints : List Constraint) → text ≡ codes "(" ++ inner → Alone (AreColumnsAt inner) columns rest → AreConstraintLines wording (owner_of things name columns) rest constraints × ((cs : List Constraint) → AreConstraintLines wording (owner_of things name columns) rest cs → cs ≡ constraints) → IsBodyText wording things name text (columns, constraints) × ((b : Body) → IsBodyText wording things name text b → b ≡ (columns, constraints))
body_found wording things name text inner rest columns constraints e found known = (
  record {
    lawful = record { columns = found.0.lawful; constraints = known.0.lawful };
    written = e ∙ ap (λ (xs : List ℕ). codes "(" ++ xs) (found.0.written ∙ ap (λ (xs : List ℕ). columns_text columns ++ (codes ")" ++ xs)) known.0.written);
  },
  λ b h.
      let same = its_lines wording things name text inner rest columns e found b h in
      λ i. (same.0 i, known.1 b.1 same.1 i),
)

pub body_lineless : (wording : Wording) (things : Things) (name text inner rest : List ℕ) (columns : List Column) → text ≡ codes "(" ++ inner → Alone (AreColumnsAt inner) columns rest → ((cs : List Constraint) → ¬ (AreConstraintLines wording (owner_of things name columns) rest cs)) → (b : Body) → ¬ (IsBodyText wording things name text b)
body_lineless wording things name text inner rest columns e found none b h = none b.1 (its_lines wording things name text inner rest columns e found b h).1

pub body_columnless : (wording : Wording) (things : Things) (name text inner : List ℕ) → text ≡ codes "(" ++ inner → ((columns : List Column) (rest : List ℕ) → ¬ (AreColumnsAt inner columns rest)) → (b : Body) → ¬ (IsBodyText wording things name text b)
body_columnless wording things name text inner e none b h = none b.0 (constraint_lines wording (owner_of things name b.0) b.1) (its_columns wording things name text inner e b h)

pub body_unbegun : (wording : Wording) (things : Things) (name text : List ℕ) → ((r : List ℕ) → text ≢ codes "(" ++ r) → (b : Body) → ¬ (IsBodyText wording things name text b)
body_unbegun wording things name text other b h = other (columns_text b.0 ++ (codes ")" ++ constraint_lines wording (owner_of things name b.0) b.1)) h.written

-- ---- with the name

body_ends : (wording : Wording) (things : Things) → Ends (IsBodyText wording things)
body_ends wording things name text b h = ap goes_on h.written

pub named_found : (wording : Wording) (things : Things) (text name rest made : List ℕ) (body : Body) → Alone (IsNameAt text) name rest → IsBodyText wording things name rest body × ((b : Body) → IsBodyText wording things name rest b → b ≡ body) → made ≡ name → IsNamed (IsBodyText wording things) text (made, body) × ((p : List ℕ × Body) → IsNamed (IsBodyText wording things) text p → p ≡ (made, body))
named_found wording things text name rest made body = named_read (IsBodyText wording things) (body_ends wording things) text name rest made body

pub named_bodyless : (wording : Wording) (things : Things) (text name rest : List ℕ) → Alone (IsNameAt text) name rest → ((b : Body) → ¬ (IsBodyText wording things name rest b)) → (p : List ℕ × Body) → ¬ (IsNamed (IsBodyText wording things) text p)
named_bodyless wording things text name rest = named_none (IsBodyText wording things) (body_ends wording things) text name rest

pub nameless : (wording : Wording) (things : Things) (text : List ℕ) → ((name rest : List ℕ) → ¬ (IsNameAt text name rest)) → (p : List ℕ × Body) → ¬ (IsNamed (IsBodyText wording things) text p)
nameless wording things text none = named_nameless (IsBodyText wording things) (body_ends wording things) text none

-- ---- the whole

abbrev pub parts_of : NewTable → List ℕ × Body
parts_of t = (t.name, (t.columns, t.constraints))

its_parts : (wording : Wording) (things : Things) (text rest : List ℕ) (storage : Storage) → Alone (IsCreateAt text) storage rest → (t : NewTable) → IsTableText wording things text t → (t.storage ≡ storage) × IsNamed (IsBodyText wording things) rest (parts_of t)
its_parts wording things text rest storage found t h =
    let body = body_text wording (owner_of things t.name t.columns) t.constraints in
    let same = found.1 t.storage (name_text t.name ++ body) h.written in
    (same.0, record { named = h.lawful.named; rest = body; at = record { lawful = h.lawful.body; written = refl }; written = sym same.1 })

pub table_found : (wording : Wording) (things : Things) (text rest : List ℕ) (t : NewTable) → Alone (IsCreateAt text) t.storage rest → IsNamed (IsBodyText wording things) rest (parts_of t) × ((p : List ℕ × Body) → IsNamed (IsBodyText wording things) rest p → p ≡ parts_of t) → IsTableText wording things text t × ((u : NewTable) → IsTableText wording things text u → u ≡ t)
table_found wording things text rest t found known = (
  record {
    lawful = record { named = known.0.named; body = known.0.at.lawful };
    written = found.0 ∙ ap (λ (xs : List ℕ). create_text t.storage ++ xs) (known.0.written ∙ ap (λ (xs : List ℕ). name_text t.name ++ xs) known.0.at.written);
  },
  λ u h.
      let its = its_parts wording things text rest t.storage found u h in
      let same : parts_of u ≡ parts_of t = known.1 (parts_of u) its.1 in
      λ i. record { storage = its.0 i; name = (same i).0; columns = (same i).1.0; constraints = (same i).1.1 },
)

pub table_nameless : (wording : Wording) (things : Things) (text rest : List ℕ) (storage : Storage) → Alone (IsCreateAt text) storage rest → ((p : List ℕ × Body) → ¬ (IsNamed (IsBodyText wording things) rest p)) → (t : NewTable) → ¬ (IsTableText wording things text t)
table_nameless wording things text rest storage found none t h = none (parts_of t) (its_parts wording things text rest storage found t h).1

pub table_unbegun : (wording : Wording) (things : Things) (text : List ℕ) → ((storage : Storage) (rest : List ℕ) → ¬ (IsCreateAt text storage rest)) → (t : NewTable) → ¬ (IsTableText wording things text t)
table_unbegun wording things text none t h = none t.storage (name_text t.name ++ body_text wording (owner_of things t.name t.columns) t.constraints) h.written
