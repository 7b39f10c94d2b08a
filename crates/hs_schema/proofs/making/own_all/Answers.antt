use Rattle.std.proofs.Common.{take, sym, ap, ◌∙◌, string_bytes, String, Global}
use Rattle.std.specs.List.{take-map}
use Rattle.hs_base.specs.declared.numbers.TableNo.{TableNo}
use Rattle.hs_schema.specs.Texts.{texts}
use Rattle.hs_schema.proofs.making.own_all.Goals as goal

pub returns-in-Err-clause-err : goal.returns-in-Err-clause-err
returns-in-Err-clause-err c =
    let kept = c.len-kept.result in
    ap texts c.truncate.ensures.entries ∙ sym (take-map (λ (e : String Global × TableNo). (string_bytes e.0, e.1)) kept c.own.new.owners.entries)
    ∙ ap (take kept) c.in-Err.ensures.err ∙ ap (λ n. take n (texts c.loop-thing.owners.entries)) c.len-kept.ensures.len ∙ c.loop-thing.invariant.front
