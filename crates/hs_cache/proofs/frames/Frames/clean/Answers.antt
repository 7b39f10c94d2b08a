use Rattle.std.proofs.Common.{nat_eq, sym, ◌∙◌, ap}
use Rattle.std.specs.Option.{option_copied_mut}
use Rattle.std.specs.Map.{set_value}
use Rattle.hs_cache.specs.declared.frames.Frame.{Frame}
use Rattle.hs_cache.specs.Held.{Held, changed, cleaned}
use Rattle.hs_cache.proofs.Entries.{changed_is, changed_none}
use Rattle.hs_cache.proofs.frames.Frames.clean.Goals as goal
use Rattle.hs_cache.proofs.frames.Frames.clean.Goals.{in-Some, in_default}

pub returns-clause-pages : goal.returns-clause-pages
returns-clause-pages c = elim c.match-peek_mut.branch [
  | in-Some w ↦
      let found = sym c.peek_mut.follows ∙ ap option_copied_mut w.in-Some.is in
      ap (λ i. i.cache.entries) w.self-inside-is ∙ ap (λ (x : Frame). set_value (nat_eq c.args.p.0) c.self.inside.cache.entries x) w.clean.ensures ∙ changed_is c.args.p.0 cleaned _ _ found ∙ ap (λ (held : Held). changed c.args.p.0 cleaned held.pages) c.self.view_is
  | in_default w ↦
      let found = sym c.peek_mut.follows ∙ ap option_copied_mut w.in_default.is in
      ap (λ i. i.cache.entries) w.self-inside-is ∙ changed_none c.args.p.0 cleaned _ found ∙ ap (λ (held : Held). changed c.args.p.0 cleaned held.pages) c.self.view_is
]
