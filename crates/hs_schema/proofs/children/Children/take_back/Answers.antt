use Rattle.std.proofs.Common.{rules, ◌≡◌, Some, List, ℕ, ◌++◌, ◌∷◌, [], sym, ap, ◌∙◌, if◌then◌else◌}
use Rattle.std.proofs.lemmas.Map.Text.{hash_map_updates_text}
use Rattle.std.specs.HashMap.{get_by_text}
use Rattle.std.specs.Map.{update}
use Rattle.std.specs.Str.{bytes_eq}
use Rattle.hs_schema.specs.declared.table.Child.{Child}
use Rattle.hs_schema.specs.Catalogue.{children_in, child_by, child_of}
use Rattle.hs_schema.proofs.Lists.{items, shrunk, not_there}
use Rattle.hs_schema.proofs.children.Children.take_back.Goals as goal

pub returns-in-Some : goal.returns-in-Some
returns-in-Some c = λ before grew name.
    let m = c.args.self.now.lists in
    let parent = c.in-ForeignKey.key.parent in
    let table = c.args.thing.now.table in
    let own = c.in-Constraint.constraint.name in
    let child : Child = child_of table own c.in-ForeignKey.key in
    let rule : (n : List ℕ) → items (get_by_text m n) ≡ before n ++ (if bytes_eq parent n then child ∷ [] else []) = λ n. grew n ∙ ap (λ p. before n ++ children_in n table p) c.in-Constraint.is ∙ ap (λ r. before n ++ child_by table own r n) c.in-ForeignKey.is in
    let up = (c.get_mut.follows.holds c.take_last.new.list).3 (search rules) in
    let at = hash_map_updates_text c.as_str.result.now m (c.get_mut.follows.lender c.take_last.new.list) (Some c.take_last.new.list) up name ∙ ap (λ p. update bytes_eq (get_by_text m) p (Some c.take_last.new.list) name) c.as_str.ensures in
    let took : (front : List Child) (x : Child) → items (get_by_text m parent) ≡ front ++ x ∷ [] → c.take_last.new.list.items ≡ front = λ front x is. c.take_last.ensures front x (ap items c.in-Some.ensures.value ∙ ap (λ p. items (get_by_text m p)) c.as_str.ensures ∙ is) in
    shrunk (get_by_text m) parent name c.take_last.new.list child before _ at took rule

pub returns-in_default-get_mut : goal.returns-in_default-get_mut
returns-in_default-get_mut c = λ before grew name.
    let m = c.args.self.now.lists in
    let parent = c.in-ForeignKey.key.parent in
    let table = c.args.thing.now.table in
    let own = c.in-Constraint.constraint.name in
    let child : Child = child_of table own c.in-ForeignKey.key in
    let rule : (n : List ℕ) → items (get_by_text m n) ≡ before n ++ (if bytes_eq parent n then child ∷ [] else []) = λ n. grew n ∙ ap (λ p. before n ++ children_in n table p) c.in-Constraint.is ∙ ap (λ r. before n ++ child_by table own r n) c.in-ForeignKey.is in
    let same : c.get_mut.follows.lender-at-none ≡ m = c.get_mut.follows.holds-at-none in
    ap (λ (n : _). items (get_by_text n name)) same ∙ not_there (get_by_text m) parent name child before (ap (get_by_text m) (sym c.as_str.ensures) ∙ sym c.in_default-get_mut.ensures.value) rule
