use Rattle.std.proofs.Common.{◌==◌, ◌∙◌, ap, sym}
use Rattle.std.specs.List.{list_any}
use Rattle.hs_snapshots.proofs.Places.{any_start}
use Rattle.hs_snapshots.proofs.stores.Stores.has.Goals as goal

pub returns : goal.returns
returns g c = c.has_among.ensures ∙ ap (list_any (λ s. s.start == c.args.start)) c.deref.ensures.value ∙ sym (any_start c.args.start c.args.self.now.snapshots.items)
