use Rattle.std.proofs.Common.{◌≡◌, Some, OnOk, subst, ap, ◌∙◌}
use Rattle.hs_elements.specs.Faults.{exists_at, where_so}
use Rattle.hs_typed.specs.Faults.{noted}
use Rattle.hs_outlines.specs.Named.{clash, is_taken}
use Rattle.hs_outlines.proofs.naming.Given.note_clash.Goals as goal

pub returns : goal.returns
returns c = λ table is.
    let things = c.args.catalog.now in
    let names = c.args.self.now.names.items in
    let own = c.in-Some.own in
    let written : Some own ≡ c.args.name.now = cc in
    let taken : c.is_taken-taken.result ≡ is_taken things names own.name = c.is_taken-taken.ensures table is ∙ ap (is_taken things names) c.as_str.ensures in
    let same : where_so c.is_taken-taken.result (exists_at own) ≡ clash things names c.args.name.now =
    ap (λ b. where_so b (exists_at own)) taken ∙ ap (clash things names) written in
    subst (λ z. OnOk c.note_where_taken.result (c.note_where_taken.new.faults ≡ noted c.args.faults.now z)) same c.note_where_taken.ensures
