use Rattle.std.proofs.Common.{rules, Some, ◌++◌, ◌∷◌, [], ap, ◌∙◌, string_bytes}
use Rattle.std.proofs.lemmas.Map.Text.{hash_map_updates_text}
use Rattle.std.specs.HashMap.{get_by_text}
use Rattle.std.specs.Map.{update}
use Rattle.std.specs.Str.{bytes_eq}
use Rattle.hs_schema.proofs.Lists.{items, grown, put_back, on_err}
use Rattle.hs_schema.proofs.children.Children.add.Goals as goal

pub returns-in-Some-clause-ok : goal.returns-in-Some-clause-ok
returns-in-Some-clause-ok c = λ name.
    let m = c.args.self.now.lists in
    let up = (c.get_mut.follows.holds c.push.new.self).3 (search rules) in
    let at = hash_map_updates_text c.args.parent.now m (c.get_mut.follows.lender c.push.new.self) (Some c.push.new.self) up name in
    grown (get_by_text m) c.args.parent.now name c.push.new.self (c.args.child ∷ []) _ at (c.in_ok-push.ensures.items ∙ ap (λ o. items o ++ c.args.child ∷ []) c.in-Some.ensures.value)

pub returns-in_err-push-clause-err : goal.returns-in_err-push-clause-err
returns-in_err-push-clause-err c = on_err c.from_residual.result (λ name.
    let m = c.args.self.now.lists in
    let up = (c.get_mut.follows.holds c.push.new.self).3 (search rules) in
    let at = hash_map_updates_text c.args.parent.now m (c.get_mut.follows.lender c.push.new.self) (Some c.push.new.self) up name in
    put_back (get_by_text m) c.args.parent.now name c.push.new.self _ at (c.in_err-push.ensures.items ∙ ap items c.in-Some.ensures.value))

pub returns-clause-ok : goal.returns-clause-ok
returns-clause-ok c = λ name.
    let m = c.args.self.now.lists in
    let parent = c.args.parent.now in
    let v = c.push-2.new.self in
    let at = hash_map_updates_text (string_bytes c.in_ok-key.key) c.get_mut.follows.lender-at-none c.insert.new.self (Some v) c.in_ok-insert.ensures.updates name
    ∙ ap (λ p. update bytes_eq (get_by_text c.get_mut.follows.lender-at-none) p (Some v) name) c.in_ok-key.ensures.ok
    ∙ ap (λ (n : _). update bytes_eq (get_by_text n) parent (Some v) name) c.get_mut.follows.holds-at-none in
    grown (get_by_text m) parent name v (c.args.child ∷ []) _ at (c.in_ok-push-2.ensures.items ∙ ap (λ ys. ys ++ c.args.child ∷ []) c.new-list.ensures.items ∙ ap (λ o. items o ++ c.args.child ∷ []) c.in_default.ensures.value)
