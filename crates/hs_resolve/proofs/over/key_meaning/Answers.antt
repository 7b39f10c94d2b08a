use Rattle.std.proofs.Common.{ap, sym, ◌∙◌}
use Rattle.hs_meaning.specs.Layers.{KeyPart}
use Rattle.hs_meaning.specs.Queries.{key_by}
use Rattle.hs_resolve.proofs.Layers.{key_is}
use Rattle.hs_resolve.proofs.over.key_meaning.Goals as goal

pub returns : goal.returns
returns c =
    c.key_meaning.ensures c.args.catalog.now
    ∙ ap (λ (x : KeyPart). key_by c.args.plain c.args.outputs.now x.value.form.literal x.value.form.column) (sym (key_is c.args.catalog.now c.args.key.now))
