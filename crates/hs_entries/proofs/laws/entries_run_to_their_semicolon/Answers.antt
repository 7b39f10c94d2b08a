use Rattle.hs_entries.proofs.Spelled.{whole_entry, lone_semicolon, cut_entry, unclosed_part, unclosed_first}
use Rattle.hs_entries.proofs.laws.entries_run_to_their_semicolon.Goals as goal

pub returns-clause-whole : goal.returns-clause-whole
returns-clause-whole c = whole_entry

pub returns-clause-alone : goal.returns-clause-alone
returns-clause-alone c = lone_semicolon

pub returns-clause-cut : goal.returns-clause-cut
returns-clause-cut c = cut_entry

pub returns-clause-unclosed : goal.returns-clause-unclosed
returns-clause-unclosed c = unclosed_part

pub returns-clause-unclosed_first : goal.returns-clause-unclosed_first
returns-clause-unclosed_first c = unclosed_first
