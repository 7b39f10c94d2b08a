use Rattle.hs_system.proofs.Grounded.{made_counted, made_regular}
use Rattle.hs_system.proofs.laws.what_texts_make_is_regular.Goals as goal

pub returns-clause-regular : goal.returns-clause-regular
returns-clause-regular g c = λ texts at made. made_regular g.S.Governed.is_named g.S.Governed.regular g.S.Governed.system g.S.Governed.governed texts at made

pub returns-clause-counted : goal.returns-clause-counted
returns-clause-counted g c = λ texts at made. made_counted g.S.Governed.is_named g.S.Governed.regular g.S.Governed.system g.S.Governed.governed texts at made
