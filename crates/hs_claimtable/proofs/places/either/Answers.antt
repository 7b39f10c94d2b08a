use Rattle.hs_claimtable.proofs.Either.{is_set-either}
use Rattle.hs_claimtable.proofs.places.either.Goals as goal

pub returns : goal.returns
returns c = λ s. is_set-either c.args.a.0 c.args.b.0 s
