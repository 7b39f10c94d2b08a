use Rattle.std.proofs.Common.{◌≡◌, true, false, ap, sym, ◌∙◌}
use Rattle.std.specs.List.{list_all}
use Rattle.hs_logged.specs.Writable.{has_lawful_values}
use Rattle.hs_logged.proofs.Values.{lawful_from, lawful_test}
use Rattle.hs_logged.proofs.Writing.{all_plain, all_printable, text_lawful}
use Rattle.hs_logged.proofs.texts.text_of.Goals as goal

pub returns-then-not-have_lawful_values : goal.returns-then-not-have_lawful_values
returns-then-not-have_lawful_values g c = λ has.
    let no : false ≡ true =
    sym c.if-not-have_lawful_values.true ∙ c.have_lawful_values.ensures ∙ ap (list_all has_lawful_values) c.as_slice.ensures
    ∙ lawful_test c.args.commit.now.changes (text_lawful (g.C.Conditions.wording c.args.conditions.now) c.args.catalog.now c.args.before c.args.commit.now.session c.args.commit.now.changes has) in
    cc

pub written-requires-clause-plain : goal.written-requires-clause-plain
written-requires-clause-plain g c = all_plain (g.C.Conditions.wording c.args.conditions.now) c.args.catalog.now c.args.commit.now.changes c.requires.plain c.requires.writable

pub written-requires-clause-printable : goal.written-requires-clause-printable
written-requires-clause-printable g c =
    all_printable (g.C.Conditions.wording c.args.conditions.now) c.args.catalog.now c.args.commit.now.changes c.requires.writable
    (lawful_from c.args.commit.now.changes (sym (ap (list_all has_lawful_values) c.as_slice.ensures) ∙ sym c.have_lawful_values.ensures ∙ c.if-not-have_lawful_values.false))
