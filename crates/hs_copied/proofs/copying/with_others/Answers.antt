use Rattle.hs_rows.proofs.Looking.{not_looked}
use Rattle.hs_copied.proofs.Held.{none_held, right_first}
use Rattle.hs_copied.proofs.copying.with_others.Goals as goal

pub loop-table-init : goal.loop-table-init
loop-table-init g c = record {
  looks = not_looked g.R.Rows g.met.R.Rows.not_looked c.args.rows.now c.requires;
  first_held = λ table held. held;
  right = λ t. right_first c.args.first.items (g.R.Rows.tables c.args.rows.now);
  held = none_held c.args.first.items;
}
