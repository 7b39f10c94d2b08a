use Rattle.std.proofs.Common.{◌≡◌, List, [], ◌∷◌, ◌++◌, IfOk, ap, subst, ◌∙◌}
use Rattle.hs_copied.specs.declared.table_copies.TableCopy.{TableCopy}
use Rattle.hs_copied.specs.Copies.{Stand, over, with_rows}
use Rattle.hs_copied.proofs.copying.copies_beside.Goals as goal

pub returns-clause-rows : goal.returns-clause-rows
unfolding with_rows
returns-clause-rows g c = λ t.
    let one : List TableCopy = record { table = c.args.table; rows = c.args.kept } ∷ [] in
    let first : c.push.new.self.items ≡ one = c.in_ok-push.ensures.items ∙ ap (λ (l : List TableCopy). l ++ one) c.new-first.ensures.items in
    subst (λ (l : List TableCopy). IfOk c.with_others.result (λ copies. Stand (over l (g.R.Rows.tables c.args.rows.now)) c.args.named.now copies)) first (c.with_others.ensures.rows t)
