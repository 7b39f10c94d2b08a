-- The page before, and what `write_row` says of the one after, make it one.
use Rattle.std.proofs.Common.{◌∙◌}
use Rattle.hs_page.proofs.Placed.{placed_page, placed_put}
use Rattle.hs_page.proofs.place.place.Goals as goal

pub returns-clause-page : goal.returns-clause-page
returns-clause-page c = placed_page _ _ _ _ c.requires c.write_row.ensures (c.write_row.auto.bytes ∙ c.requires.page.size)

pub returns-clause-put : goal.returns-clause-put
returns-clause-put c = placed_put _ _ _ _ c.requires c.write_row.ensures (c.write_row.auto.bytes ∙ c.requires.page.size)
