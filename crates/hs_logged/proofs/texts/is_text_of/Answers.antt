use Rattle.hs_logged.proofs.Writing.{told_of}
use Rattle.hs_logged.proofs.texts.is_text_of.Goals as goal

pub returns-in-Ok : goal.returns-in-Ok
returns-in-Ok g c =
    told_of (g.C.Conditions.wording c.args.conditions.now) c.args.catalog.now c.args.before c.args.text.now c.args.commit.now c.in-Ok.read c.is_said_alike.result c.in-Ok.ensures.read.0 c.in-Ok.ensures.read.1 c.is_said_alike.ensures

pub returns-in-Err-Broken : goal.returns-in-Err-Broken
returns-in-Err-Broken g c =
    let none = rw c.in-Err-Broken.field-0-is at c.in-Err-Broken.ensures.read in
    λ has. none (c.args.commit.now.session, c.args.commit.now.changes) has
