use Rattle.std.proofs.Common.{refl, sym, ap, ◌∙◌}
use Rattle.hs_applicable.specs.Applicable.{may_make}
use Rattle.hs_draft.specs.Drafted.{after}
use Rattle.hs_turns.specs.Database.{Database}
use Rattle.hs_instance.specs.Staying.{is_insert}
use Rattle.hs_instance.proofs.staying.stays.Goals as goal

pub returns-in-Insert : goal.returns-in-Insert
returns-in-Insert c = λ db seated behind is things so.
    let here : Database = record behind { rows = after c.args.instance.now.seated.rows.draft } in (
      ap is_insert c.in-Insert.is,
      ap (may_make behind) c.in-Insert.is ∙ sym (ap (may_make here) c.in-Insert.is) ∙ sym (c.may_make.ensures here (things ∙ sym is.things) (λ t. refl)) ∙ so,
    )
