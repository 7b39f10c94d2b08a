use Rattle.std.proofs.Common.{◌≡◌, ◌<◌, length, Some, None, ap, arith}
use Rattle.hs_sessions.specs.Book.{Book}
use Rattle.hs_sessions.proofs.Numbered.{found}
use Rattle.hs_sessions.proofs.sessions.Sessions.number_of.Goals as goal

pub returns-in-Some-clause-number : goal.returns-in-Some-clause-number
returns-in-Some-clause-number c = found c.self.inside.names.keys c.args.self.now.names c.args.name.now (Some c.in-Some.at) (ap (λ (b : Book). b.names) c.self.view_is) c.in-Some.ensures.index

pub returns-in-Some-clause-known : goal.returns-in-Some-clause-known
returns-in-Some-clause-known c =
    let below : c.in-Some.at < length c.self.inside.names.keys = c.in-Some.ensures.within in
    let same : length c.self.inside.sessions.items ≡ length c.args.self.now.sessions = ap (λ (b : Book). length b.sessions) c.self.view_is in
    (omega arith, omega (arith, below, c.self.invariant.0, same))

pub returns-in-None-clause-number : goal.returns-in-None-clause-number
returns-in-None-clause-number c = found c.self.inside.names.keys c.args.self.now.names c.args.name.now None (ap (λ (b : Book). b.names) c.self.view_is) c.in-None.ensures.index
