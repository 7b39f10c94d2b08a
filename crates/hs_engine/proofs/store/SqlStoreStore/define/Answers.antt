use Rattle.std.proofs.Common.{◌∙◌, [], sym}
use Rattle.std.proofs.lemmas.Result.{IfOk-weaker}
use Rattle.hs_seams.specs.Stores.{present}
use Rattle.hs_engine.proofs.Defined.{lawful_in}
use Rattle.hs_engine.proofs.Speaking.{definition_is, valid_is}
use Rattle.hs_engine.proofs.Standing.{defined_so}
use Rattle.hs_engine.proofs.store.SqlStoreStore.define.Goals as goal

pub settle_definition-requires-clause-held : goal.settle_definition-requires-clause-held
settle_definition-requires-clause-held g c = let x = c.requires.defined in (present x.w x.commits, x.stands.lawful)

pub settle_definition-requires-clause-defaults : goal.settle_definition-requires-clause-defaults
settle_definition-requires-clause-defaults g c =
    let x = c.requires.defined in
    let db = present x.w x.commits in
    lawful_in db x.text c.args.definition (sym (valid_is x.w x.stands.world.speaks db) ∙ x.valid) (sym (definition_is x.w x.stands.world.speaks db x.text) ∙ x.defines)

pub returns-clause-committed : goal.returns-clause-committed
returns-clause-committed g c = λ w commits s k by is.
    IfOk-weaker c.settle_definition.result _ _
    (λ b settled.
    defined_so (g.C.Conditions.wording c.args.self.now.conditions) s.start c.args.self.now.logbook c.settle_definition.new.book w commits k s.world [] c.args.self.now.database c.settle_definition.new.database c.args.made.now c.settle_definition.new.made s b settled)
    (c.settle_definition.ensures.settled s.start w commits k s.world.kept s.behind s.lawful by is)
