use Rattle.std.proofs.Common.{None, sym, ap, ◌∙◌}
use Rattle.std.proofs.lemmas.Map.Iter.{rest_more, rest_all}
use Rattle.std.specs.Map.Iter.{deref_pair}
use Rattle.hs_rows.specs.Numbers.{first_number}
use Rattle.hs_keyed.proofs.Ordered.{first-of, next-of}
use Rattle.hs_keyed.proofs.behind.first.Goals as goal

pub returns-in-Some : goal.returns-in-Some
returns-in-Some c =
    let es = c.args.rows.now.entries in
    ap first_number (sym (rest_more deref_pair c.iter.result c.next.new.self c.next.result (c.in-Some.number, c.in-Some.field-0-1) c.in-Some.is c.next.ensures.steps) ∙ c.iter.ensures.rest)
    ∙ first-of es ∙ next-of es c.iter.ensures.ordered None

pub returns-in-None : goal.returns-in-None
returns-in-None c =
    let es = c.args.rows.now.entries in
    ap first_number (sym (rest_all deref_pair c.iter.result c.next.new.self c.next.result c.in-None.is c.next.ensures.steps) ∙ c.iter.ensures.rest)
    ∙ first-of es ∙ next-of es c.iter.ensures.ordered None
