use Rattle.std.specs.Str.{chars}
use Rattle.hs_scalar.specs.Like.{items_of}
use Rattle.hs_scalar.proofs.LikeLaws.{IsLike-matches}
use Rattle.hs_scalar.proofs.laws.a_text_is_like_its_pieces.Goals as goal

pub returns : goal.returns
returns c = λ text pattern escape. IsLike-matches (items_of escape (chars pattern)) (chars text)
