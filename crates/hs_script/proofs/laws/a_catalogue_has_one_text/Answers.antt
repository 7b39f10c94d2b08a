use Rattle.hs_script.proofs.PrintedLemmas.{catalogue_there, catalogue_only}
use Rattle.hs_script.proofs.laws.a_catalogue_has_one_text.Goals as goal

pub returns : goal.returns
returns g c = record {
  there = λ most made small h. catalogue_there (g.C.Conditions.wording c.args.conditions.now) (g.R.Rules.may c.args.rules.now) most small made h;
  only = λ most text all h. catalogue_only (g.C.Conditions.wording c.args.conditions.now) (g.R.Rules.may c.args.rules.now) most text all h;
}
