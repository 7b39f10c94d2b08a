-- The lists of a map with texts as keys, after one of them changed.
use Rattle.std.proofs.Common.{◌≡◌, ℕ, Bool, true, false, cond, List, [], ◌∷◌, ◌++◌, Option, Some, None, refl, sym, ap, ◌∙◌, if◌then◌else◌, rules, filter, subst, length, length-append, take, arith, Result, Ok, Err, OnErr}
use Rattle.std.proofs.lemmas.List.{append-nil}
use Rattle.std.proofs.lemmas.Slice.Eq.{bytes_eq-Decides}
use Rattle.std.specs.declared.alloc.Global.{Global}
use Rattle.std.specs.declared.string.String.{String}
use Rattle.std.specs.declared.vec.Vec.{Vec}
use Rattle.std.specs.Map.{lookup, update}
use Rattle.std.specs.Map.Calls.{RetainsPairs}
use Rattle.std.specs.Option.{option_map_or}
use Rattle.std.specs.Str.{bytes_eq}
use Rattle.hs_schema.specs.declared.table.Child.{Child}

abbrev pub Text : Type 0
Text = List ℕ

abbrev pub items : Option (Vec Child Global) → List Child
items found = option_map_or (λ v. v.items) found []

pub same_text : (a b : Text) → bytes_eq a b ≡ true → a ≡ b
same_text a b h = search (rules, bytes_eq-Decides, h)

pub text_itself : (a : Text) → bytes_eq a a ≡ true
text_itself a = search (rules, bytes_eq-Decides)

-- a list that took more at its end
pub grown : (f : Text → Option (Vec Child Global)) (parent name : Text) (w : Vec Child Global) (more : List Child) (found : Option (Vec Child Global))
    → found ≡ update bytes_eq f parent (Some w) name → w.items ≡ items (f parent) ++ more → items found ≡ items (f name) ++ (if bytes_eq parent name then more else [])
grown f parent name w more found is grows = by (bytes_eq parent name) refl
  where
    by : (b : Bool) → bytes_eq parent name ≡ b → items found ≡ items (f name) ++ (if bytes_eq parent name then more else [])
    by true e =
        ap items is ∙ ap (λ b. items (cond b (Some w) (f name))) e ∙ grows ∙ ap (λ t. items (f t) ++ more) (same_text parent name e) ∙ sym (ap (λ b. items (f name) ++ (if b then more else [])) e)
    by false e =
        ap items is ∙ ap (λ b. items (cond b (Some w) (f name))) e ∙ sym (append-nil (items (f name))) ∙ sym (ap (λ b. items (f name) ++ (if b then more else [])) e)

-- a list that lost what it took at its end
pub shrunk : (f : Text → Option (Vec Child Global)) (parent name : Text) (w : Vec Child Global) (last : Child) (before : Text → List Child) (found : Option (Vec Child Global))
    → found ≡ update bytes_eq f parent (Some w) name → ((front : List Child) (x : Child) → items (f parent) ≡ front ++ x ∷ [] → w.items ≡ front)
    → ((n : Text) → items (f n) ≡ before n ++ (if bytes_eq parent n then last ∷ [] else [])) → items found ≡ before name
shrunk f parent name w last before found is took grew = by (bytes_eq parent name) refl
  where
    by : (b : Bool) → bytes_eq parent name ≡ b → items found ≡ before name
    by true e =
        let at_end : items (f parent) ≡ before parent ++ last ∷ [] = grew parent ∙ ap (λ b. before parent ++ (if b then last ∷ [] else [])) (text_itself parent) in
        ap items is ∙ ap (λ b. items (cond b (Some w) (f name))) e ∙ took (before parent) last at_end ∙ ap before (same_text parent name e)
    by false e =
        ap items is ∙ ap (λ b. items (cond b (Some w) (f name))) e ∙ grew name ∙ ap (λ b. before name ++ (if b then last ∷ [] else [])) e ∙ append-nil (before name)

-- where no list is there, nothing was added
pub not_there : (f : Text → Option (Vec Child Global)) (parent name : Text) (last : Child) (before : Text → List Child) → f parent ≡ None
    → ((n : Text) → items (f n) ≡ before n ++ (if bytes_eq parent n then last ∷ [] else [])) → items (f name) ≡ before name
not_there f parent name last before none grew =
    let empty : [] ≡ before parent ++ last ∷ [] = sym (ap items none) ∙ grew parent ∙ ap (λ b. before parent ++ (if b then last ∷ [] else [])) (text_itself parent) in
    absurd (omega (arith, ap length empty, length-append (before parent) (last ∷ [])))

-- each list of a map without those that go
module _ {F : Type 0} (T : F → String Global → Vec Child Global → Bool → Vec Child Global → F → Type 0) (keep : Child → Bool) (f : F)
    (says : (k : String Global) (v : Vec Child Global) (b : Bool) (w : Vec Child Global) (g : F) → T f k v b w g → (b ≡ true) × (w.items ≡ filter keep v.items) × (g ≡ f)) where
  pub thinned : (test : String Global → Bool) (es kept : List (String Global × Vec Child Global)) → RetainsPairs T f es kept → items (lookup test kept) ≡ filter keep (items (lookup test es))
  thinned test [] kept h = ap (λ ks. items (lookup test ks)) h
  thinned test (e ∷ es) kept h =
      let s = says e.0 e.1 h.0 h.1 h.2 h.4 in
      let rest : items (lookup test h.3) ≡ filter keep (items (lookup test es)) = thinned test es h.3 (subst (λ g. RetainsPairs T g es h.3) s.2 h.5) in
      let front : kept ≡ (e.0, h.1) ∷ h.3 = h.6 ∙ ap (λ b. cond b ((e.0, h.1) ∷ h.3) h.3) s.0 in
      ap (λ ks. items (lookup test ks)) front ∙ by (test e.0) rest s.1
    where
      by : (b : Bool) → items (lookup test h.3) ≡ filter keep (items (lookup test es)) → h.1.items ≡ filter keep e.1.items → items (cond b (Some h.1) (lookup test h.3)) ≡ filter keep (items (cond b (Some e.1) (lookup test es)))
      by true rest same = same
      by false rest same = rest

-- a list that is put back as it was
pub put_back : (f : Text → Option (Vec Child Global)) (parent name : Text) (w : Vec Child Global) (found : Option (Vec Child Global))
    → found ≡ update bytes_eq f parent (Some w) name → w.items ≡ items (f parent) → items found ≡ items (f name)
put_back f parent name w found is same =
    let none : (if◌then◌else◌ {A = List Child} (bytes_eq parent name) [] []) ≡ [] = by (bytes_eq parent name) in
    grown f parent name w [] found is (same ∙ sym (append-nil (items (f parent)))) ∙ ap (λ ys. items (f name) ++ ys) none ∙ append-nil (items (f name))
  where
    by : (b : Bool) → (if◌then◌else◌ {A = List Child} b [] []) ≡ []
    by true = refl
    by false = refl

pub front_taken : {A : Type 0} (xs ys : List A) → take (length xs) (xs ++ ys) ≡ xs
front_taken [] ys = refl
front_taken (x ∷ xs) ys = ap (λ t. x ∷ t) (front_taken xs ys)

pub on_err : {T E Q : Type 0} (r : Result T E) → Q → OnErr r Q
on_err (Ok x) q = tt
on_err (Err e) q = q
