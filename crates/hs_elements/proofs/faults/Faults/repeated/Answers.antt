use Rattle.std.proofs.Common.{◌+◌, ◌++◌, ◌∷◌, [], ◌||◌, take, drop, sym, ap, ◌∙◌}
use Rattle.std.proofs.lemmas.List.{map-append}
use Rattle.std.specs.Str.{bytes_eq}
use Rattle.hs_ast.specs.declared.word.Identifier.{Identifier}
use Rattle.hs_elements.specs.Faults.{least_of, repeated, where_so, exists_at, is_among, names_of}
use Rattle.hs_elements.specs.Names.{is_held}
use Rattle.hs_elements.proofs.Finding.{item, front_item, least-append, among-more}
use Rattle.hs_elements.proofs.faults.Faults.repeated.Goals as goal

pub loop-name-preserved : goal.loop-name-preserved
loop-name-preserved c =
    let i = c.loop-name.name-index in
    let ns = c.args.names.now in
    let n = c.name-item.result in
    let was = c.loop-name.self in
    let before = names_of (take i ns) in
    let rest = drop (i + 1) ns in
    let next = item ns i n c.loop-name-test.true c.name-item.is in
    let more = ap names_of (front_item ns i n c.loop-name-test.true c.name-item.is) ∙ map-append (λ (m : Identifier). m.name) (take i ns) (n ∷ []) in
    let named = c.has-named.ensures ∙ ap (is_held c.loop-name.before) c.as_str-text.ensures ∙ c.loop-name.invariant.held n.name in
    record {
      found = ap (λ b. least_of c.exists_where.new.self (repeated b rest)) more
          ∙ ap (λ s. least_of s (repeated (before ++ n.name ∷ []) rest)) (c.in_ok-exists_where.ensures ∙ ap (λ b. least_of was (where_so b (exists_at n))) named)
          ∙ sym (least-append was (where_so (is_among before n.name) (exists_at n)) (repeated (before ++ n.name ∷ []) rest))
          ∙ ap (λ l. least_of was (repeated before l)) (sym next) ∙ c.loop-name.invariant.found;
      held = λ t. c.in_ok-add.ensures t ∙ ap (λ s. is_held c.loop-name.before t || bytes_eq t s) c.as_str-text.ensures ∙ ap (λ b. b || bytes_eq t n.name) (c.loop-name.invariant.held t)
          ∙ sym (ap (λ ms. is_among ms t) more ∙ among-more before n.name t);
    }
