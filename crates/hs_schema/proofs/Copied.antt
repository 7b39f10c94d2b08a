-- Copies of maps.
use Rattle.std.proofs.Common.{◌≡◌, ℕ, Bool, true, false, cond, nat_eq, List, [], ◌∷◌, ◌++◌, Some, None, refl, sym, ap, ◌∙◌, subst, append_assoc, string_bytes, arith}
use Rattle.std.proofs.lemmas.Map.Keys.{IsDistinct-head, IsDistinct-tail}
use Rattle.std.specs.declared.alloc.Global.{Global}
use Rattle.std.specs.declared.string.String.{String}
use Rattle.std.specs.declared.vec.Vec.{Vec}
use Rattle.std.specs.List.{AllByRecursion, AllZip, IsDistinct, each_same}
use Rattle.std.specs.Map.{lookup, keys_of}
use Rattle.std.specs.Option.{option_map_or}
use Rattle.std.specs.Str.{bytes_eq}
use Rattle.indexmap.specs.IndexMap.{insert_entry}
use Rattle.hs_schema.specs.declared.table.Child.{Child}
use Rattle.hs_schema.specs.Kept.{children_at}
use Rattle.hs_schema.specs.Texts.{texts}

-- a key isn't among those before it
pub unseen : {X : Type 0} (front rest : List (ℕ × X)) (k : ℕ) (x : X) → IsDistinct nat_eq (keys_of (front ++ (k, x) ∷ rest)) → lookup (nat_eq k) front ≡ None
unseen [] rest k x distinct = refl
unseen {X} (e ∷ es) rest k x distinct =
    let apart = within es (IsDistinct-head nat_eq e.0 (keys_of (es ++ (k, x) ∷ rest)) distinct) in
    ap (λ b. cond b (Some e.1) (lookup (nat_eq k) es)) (flipped apart) ∙ unseen es rest k x (IsDistinct-tail nat_eq e.0 (keys_of (es ++ (k, x) ∷ rest)) distinct)
  where
    within : (fs : List (ℕ × X)) → AllByRecursion (λ y. nat_eq e.0 y ≡ false) (keys_of (fs ++ (k, x) ∷ rest)) → nat_eq e.0 k ≡ false
    within [] h = h.0
    within (f ∷ fs) h = within fs h.1

    flipped : nat_eq e.0 k ≡ false → nat_eq k e.0 ≡ false
    flipped h = grind (arith, h)

-- clones of texts have the same bytes
module _ {X : Type 0} (D : X → X → Type 0) (same : (v w : X) → D v w → w ≡ v) where
  pub cloned : (es fs : List (String Global × X)) → AllZip (λ p q. (string_bytes q.0 ≡ string_bytes p.0) × D p.1 q.1) es fs → texts fs ≡ texts es
  cloned [] [] h = refl
  cloned [] (f ∷ fs) h = absurd h
  cloned (e ∷ es) [] h = absurd h
  cloned (e ∷ es) (f ∷ fs) h = λ i. (h.0.0 i, same e.1 f.1 h.0.1 i) ∷ cloned es fs h.1 i

-- and clones of lists the same items
pub cloned_lists : (es fs : List (String Global × Vec Child Global)) (name : List ℕ)
    → AllZip (λ p q. (string_bytes q.0 ≡ string_bytes p.0) × (AllZip (λ (x y : Child). y ≡ x) p.1.items q.1.items × (q.1.len ≡ p.1.len))) es fs
    → children_at fs name ≡ children_at es name
cloned_lists [] [] name h = refl
cloned_lists [] (f ∷ fs) name h = absurd h
cloned_lists (e ∷ es) [] name h = absurd h
cloned_lists (e ∷ es) (f ∷ fs) name h =
    ap (λ k. option_map_or (λ v. v.items) (cond (bytes_eq name k) (Some f.1) (lookup (λ key. bytes_eq name (string_bytes key)) fs)) []) h.0.0
    ∙ by (bytes_eq name (string_bytes e.0)) (each_same e.1.items f.1.items h.0.1.0) (cloned_lists es fs name h.1)
  where
    by : (b : Bool) → f.1.items ≡ e.1.items → children_at fs name ≡ children_at es name
        → option_map_or (λ (v : Vec Child Global). v.items) (cond b (Some f.1) (lookup (λ key. bytes_eq name (string_bytes key)) fs)) []
        ≡ option_map_or (λ (v : Vec Child Global). v.items) (cond b (Some e.1) (lookup (λ key. bytes_eq name (string_bytes key)) es)) []
    by true here rest = here
    by false here rest = rest

-- an entry that is put behind copies of those before it
module _ {X : Type 0} where
  appended : (es : List (ℕ × X)) (k : ℕ) (x : X) → lookup (nat_eq k) es ≡ None → insert_entry nat_eq es k x ≡ es ++ (k, x) ∷ []
  appended [] k x h = refl
  appended (e ∷ es) k x h = by (nat_eq k e.0) h (appended es k x)
    where
      by : (b : Bool) → cond b (Some e.1) (lookup (nat_eq k) es) ≡ None → (lookup (nat_eq k) es ≡ None → insert_entry nat_eq es k x ≡ es ++ (k, x) ∷ [])
          → cond b ((e.0, x) ∷ es) (e ∷ insert_entry nat_eq es k x) ≡ e ∷ (es ++ (k, x) ∷ [])
      by true h rest = cc
      by false h rest = ap (λ ys. e ∷ ys) (rest h)

  pub put_more : (entries copied left next new : List (ℕ × X)) (k : ℕ) (x y : X) → copied ++ left ≡ entries → left ≡ (k, x) ∷ next → IsDistinct nat_eq (keys_of entries)
      → y ≡ x → new ≡ insert_entry nat_eq copied k y → new ++ next ≡ entries
  put_more entries copied left next new k x y all is distinct same put =
      let whole : copied ++ (k, x) ∷ next ≡ entries = ap (λ l. copied ++ l) (sym is) ∙ all in
      let none = unseen copied next k x (subst (λ es. IsDistinct nat_eq (keys_of es)) (sym whole) distinct) in
      ap (λ es. es ++ next) (put ∙ appended copied k y none) ∙ append_assoc copied ((k, y) ∷ []) next ∙ ap (λ z. copied ++ (k, z) ∷ next) same ∙ whole
