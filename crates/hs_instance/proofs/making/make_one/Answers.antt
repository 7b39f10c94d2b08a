use Rattle.std.proofs.Common.{◌≡◌, [], sym, ap, ◌∙◌, subst}
use Rattle.std.proofs.lemmas.Result.{on_ok_weaker}
use Rattle.hs_applicable.specs.Applicable.{may_make}
use Rattle.hs_turns.specs.Database.{is_definition, make}
use Rattle.hs_instance.specs.Instance.{IsInstance}
use Rattle.hs_plan.specs.declared.change.Change.{Change}
use Rattle.hs_plan.specs.declared.change.Change.TheVariants as change
use Rattle.hs_plan.specs.declared.definition.Definition.{Definition}
use Rattle.hs_instance.proofs.Ongoing.{bound_of, lawful_on, next_of}
use Rattle.hs_instance.proofs.making.make_one.Goals as goal

pub returns-in-Define : goal.returns-in-Define
returns-in-Define c = λ db s may.
    let its : c.args.change.now ≡ change.Define c.get.result.now = c.in-Define.is ∙ ap (λ (d : Definition). change.Define d) (sym c.get.ensures) in
    on_ok_weaker c.define.result
    (λ is. lawful_on db c.args.instance.now s c.requires.room c.args.change.now may c.define.new.self (subst (λ (k : Change). IsInstance (make db k) [] c.define.new.self) (sym its) is))
    (c.define.ensures db s.is)

pub returns-in-Insert : goal.returns-in-Insert
returns-in-Insert c = λ db s may.
    on_ok_weaker c.make_row.result (λ is. lawful_on db c.args.instance.now s c.requires.room c.args.change.now may c.make_row.new.self is)
    (c.make_row.ensures db s.is (ap is_definition c.in-Insert.is))

pub returns-in-Put : goal.returns-in-Put
returns-in-Put c = λ db s may.
    on_ok_weaker c.make_row-in-Put.result (λ is. lawful_on db c.args.instance.now s c.requires.room c.args.change.now may c.make_row-in-Put.new.self is)
    (c.make_row-in-Put.ensures db s.is (ap is_definition c.in-Put.is))

pub returns-in-Delete : goal.returns-in-Delete
returns-in-Delete c = λ db s may.
    on_ok_weaker c.make_row-in-Delete.result (λ is. lawful_on db c.args.instance.now s c.requires.room c.args.change.now may c.make_row-in-Delete.new.self is)
    (c.make_row-in-Delete.ensures db s.is (ap is_definition c.in-Delete.is))

pub define-requires-clause-bound : goal.define-requires-clause-bound
define-requires-clause-bound c =
    let its : c.args.change.now ≡ change.Define c.get.result.now = c.in-Define.is ∙ ap (λ (d : Definition). change.Define d) (sym c.get.ensures) in
    bound_of c.requires.held.0 c.args.instance.now c.requires.held.1.0 c.get.result.now (ap (may_make c.requires.held.0) (sym its) ∙ c.requires.held.1.1)

pub define-requires-clause-next : goal.define-requires-clause-next
define-requires-clause-next c = next_of c.requires.held.0 c.args.instance.now c.requires.held.1.0 c.get.result.now
