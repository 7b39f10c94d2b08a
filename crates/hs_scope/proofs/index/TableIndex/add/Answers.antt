use Rattle.std.proofs.Common.{◌||◌, ap, ◌∙◌}
use Rattle.std.specs.Str.{bytes_eq}
use Rattle.hs_scope.specs.Index.{kept_at, kept_in, has_table}
use Rattle.hs_scope.specs.Sought.{both, if_passed, columns_from}
use Rattle.hs_scope.proofs.Mapped.{on_ok_both}
use Rattle.hs_scope.proofs.Seeking.{index-more}
use Rattle.hs_scope.proofs.index.TableIndex.add.Goals as goal

pub returns : goal.returns
returns c = λ before at was.
    let names = c.args.self.now.names.names.entries in
    let tables = c.args.self.now.by_table.entries in
    let t = c.args.table.now in
    let first = c.args.first in
    on_ok_both c.add_to.result (λ pairs there.
    index-more names c.add_to.new.self.names.names.entries tables c.add_to.new.self.by_table.entries before t first at was
    (λ n. ap (λ x. kept_at x.names.entries n) c.add_to.ensures.names ∙ c.in_ok-add_columns.ensures n ∙ ap (λ cs. both (kept_at names n) (columns_from first n cs)) c.as_slice.ensures)
    (λ q n. pairs q n ∙ ap (λ cs. both (kept_in tables q n) (if_passed (bytes_eq q c.as_str.result.now) (columns_from first n cs))) c.as_slice-2.ensures
    ∙ ap (λ s. both (kept_in tables q n) (if_passed (bytes_eq q s) (columns_from first n t.columns))) c.as_str.ensures)
    (λ q. there q ∙ ap (λ s. has_table tables q || bytes_eq q s) c.as_str.ensures)) c.add_to.ensures.pairs c.add_to.ensures.there
