use Rattle.hs_script.proofs.NumberedLemmas.{word_cut}
use Rattle.hs_script.proofs.numbered.last_word.Goals as goal

pub returns : goal.returns
returns c = word_cut c.args.text.now c.rsplit_once.result c.rsplit_once.ensures.cases
