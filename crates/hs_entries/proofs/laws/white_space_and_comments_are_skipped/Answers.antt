use Rattle.hs_entries.proofs.Spelled.{none_of_nothing, white_skipped, line_skipped, last_line_skipped, block_skipped, unclosed_begins}
use Rattle.hs_entries.proofs.laws.white_space_and_comments_are_skipped.Goals as goal

pub returns-clause-nothing : goal.returns-clause-nothing
returns-clause-nothing c = none_of_nothing

pub returns-clause-white : goal.returns-clause-white
returns-clause-white c = white_skipped

pub returns-clause-line : goal.returns-clause-line
returns-clause-line c = line_skipped

pub returns-clause-last_line : goal.returns-clause-last_line
returns-clause-last_line c = last_line_skipped

pub returns-clause-block : goal.returns-clause-block
returns-clause-block c = block_skipped

pub returns-clause-unclosed : goal.returns-clause-unclosed
returns-clause-unclosed c = unclosed_begins
