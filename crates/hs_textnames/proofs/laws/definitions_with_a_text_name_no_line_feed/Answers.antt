use Rattle.hs_textnames.proofs.Names.{definition_single}
use Rattle.hs_textnames.proofs.laws.definitions_with_a_text_name_no_line_feed.Goals as goal

pub returns : goal.returns
returns g c = definition_single (g.C.Conditions.wording c.args.conditions.now)
