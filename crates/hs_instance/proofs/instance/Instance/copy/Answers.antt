use Rattle.std.proofs.Common.{subst, ◌∙◌}
use Rattle.hs_acting.specs.Kept.{keys_in}
use Rattle.hs_references.specs.Referenced.{AreOf}
use Rattle.hs_schema.specs.Catalogue.{Things}
use Rattle.hs_instance.proofs.instance.Instance.copy.Goals as goal

pub returns : goal.returns
returns c = λ db is.
    let same = c.in_ok-catalog.ensures ∙ is.things in
    record {
      things = same;
      keys = subst (λ (things : Things). AreOf things (keys_in c.in_ok-keys.keys)) same c.in_ok-keys.ensures;
      rows = c.in_ok-seated.ensures db.rows is.rows;
      count = is.count;
      level = is.level;
      control = is.control;
    }
