use Rattle.std.proofs.Common.{arith, rules}
use Rattle.hs_decimal.proofs.PrintedText.{room_left, text_from}
use Rattle.hs_decimal.proofs.printing.text.Goals as goal

pub push_fraction-requires-clause-room : goal.push_fraction-requires-clause-room
push_fraction-requires-clause-room c =
    room_left c.args.a c.unsigned_abs-size.result c.unsigned_abs-one.result c.push_sign.new.text.bytes c.format.result.now c.push_str.new.self.bytes
    c.requires (search rules) (search rules) (grind arith) c.format.ensures.text c.push_str.ensures.bytes

pub returns : goal.returns
returns c =
    text_from c.args.a c.unsigned_abs-size.result c.unsigned_abs-one.result c.push_sign.new.text.bytes c.format.result.now c.push_str.new.self.bytes _
    (search rules) (search rules) (grind arith) c.format.ensures.text c.push_str.ensures.bytes c.push_fraction.ensures
