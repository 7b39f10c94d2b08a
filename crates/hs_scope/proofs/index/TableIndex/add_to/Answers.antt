use Rattle.std.proofs.Common.{Some, Option, ap, ◌∙◌, string_bytes}
use Rattle.std.proofs.lemmas.Map.Text.{hash_map_updates_text}
use Rattle.std.specs.HashMap.{get_by_text}
use Rattle.std.specs.Map.{update}
use Rattle.std.specs.Option.{option_map_or}
use Rattle.std.specs.Str.{bytes_eq}
use Rattle.hs_scope.specs.declared.index.ColumnIndex.{ColumnIndex}
use Rattle.hs_scope.specs.declared.sought.Sought.TheVariants as sought
use Rattle.hs_scope.specs.Index.{kept_at}
use Rattle.hs_scope.specs.Sought.{both, columns_from}
use Rattle.hs_scope.proofs.Mapped.{put, put_there, set_again}
use Rattle.hs_scope.proofs.index.TableIndex.add_to.Goals as goal

pub returns-clause-pairs : goal.returns-clause-pairs
returns-clause-pairs c = λ t n.
    let f = get_by_text c.args.self.now.by_table in
    let g = get_by_text c.take_columns-index.new.by_table in
    let w = c.add_columns.new.self in
    let table = c.args.table.now in
    let more = columns_from c.args.first n c.args.columns.now in
    let at = hash_map_updates_text (string_bytes c.in_ok-key.key) c.take_columns-index.new.by_table c.insert.new.self (Some w) c.in_ok-insert.ensures.updates t
    ∙ ap (λ p. update bytes_eq g p (Some w) t) c.in_ok-key.ensures.ok ∙ set_again f g table t w (c.take_columns-index.ensures.others t) in
    put f table t w _ at (λ (o : Option ColumnIndex). option_map_or (λ (i : ColumnIndex). kept_at i.names.entries n) o sought.Missing) more
    (c.in_ok-add_columns.ensures n ∙ ap (λ s. both s more) (c.take_columns-index.ensures.columns n))

pub returns-clause-there : goal.returns-clause-there
returns-clause-there c = λ t.
    let f = get_by_text c.args.self.now.by_table in
    let g = get_by_text c.take_columns-index.new.by_table in
    let w = c.add_columns.new.self in
    let table = c.args.table.now in
    let at = hash_map_updates_text (string_bytes c.in_ok-key.key) c.take_columns-index.new.by_table c.insert.new.self (Some w) c.in_ok-insert.ensures.updates t
    ∙ ap (λ p. update bytes_eq g p (Some w) t) c.in_ok-key.ensures.ok ∙ set_again f g table t w (c.take_columns-index.ensures.others t) in
    put_there f table t w _ at
