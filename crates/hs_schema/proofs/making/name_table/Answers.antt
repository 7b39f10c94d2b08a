use Rattle.std.proofs.Common.{◌≡◌, ap, sym, ◌∙◌, ◌++◌, ◌∷◌, [], string_bytes}
use Rattle.std.proofs.lemmas.Result.{IfOk-at_ok}
use Rattle.std.specs.Option.{option_map, option_map_or}
use Rattle.std.specs.String.{string_eq}
use Rattle.indexmap.specs.IndexMap.{insert_entry}
use Rattle.hs_schema.specs.Texts.{texts}
use Rattle.hs_schema.proofs.Texts.{added}
use Rattle.hs_schema.proofs.making.name_table.Goals as goal

pub returns-in-Some : goal.returns-in-Some
returns-in-Some c =
    let es = c.args.numbers.now.entries in
    let name = c.in-Some.name in
    let table = c.args.table in
    let absent = c.requires.new (string_bytes name) (ap (option_map string_bytes) c.in-Some.is) in
    let put = IfOk-at_ok (λ _. c.insert.new.self.entries ≡ insert_entry string_eq es name table) c.unwrap-none.ensures c.insert.ensures.entries in
    ap texts put ∙ added es name table absent ∙ ap (λ o. texts es ++ option_map_or (λ n. (string_bytes n, table) ∷ []) o []) (sym c.in-Some.is)
