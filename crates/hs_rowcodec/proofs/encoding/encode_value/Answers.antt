use Rattle.std.proofs.Common.{IsUtf8, subst}
use Rattle.hs_rowcodec.proofs.Appends.{on_ok}
use Rattle.hs_rowcodec.proofs.Texts.{text_is_writable}
use Rattle.hs_rowcodec.proofs.encoding.encode_value.Goals as goal

pub returns-in-Text-clause-writable : goal.returns-in-Text-clause-writable
returns-in-Text-clause-writable c =
    on_ok _ (text_is_writable _ _ _ c.in-Text.is (subst IsUtf8 c.as_str.ensures c.as_str.utf8) c.requires.fits c.requires.storable)
