use Rattle.hs_rowcodec.proofs.Fields.{text_there}
use Rattle.hs_rowcodec.proofs.value.known_chars.Goals as goal

pub from_utf8_unchecked-text-requires : goal.from_utf8_unchecked-text-requires
from_utf8_unchecked-text-requires c = text_there _ _ _ c.requires c.split_at.ensures.front
