use Rattle.std.proofs.Common.{refl, rules}
use Rattle.std.proofs.lemmas.Fn.{filter_same}
use Rattle.hs_snapshots.proofs.Standing.{released_stores, starts_released}
use Rattle.hs_snapshots.proofs.stores.Stores.release.Goals as goal

pub returns-clause-stands : goal.returns-clause-stands
returns-clause-stands g c = λ w commits seated is none.
    released_stores g.S.Store.stands c.args.self.now _ c.args.start w commits seated refl (filter_same _ _ _ (λ x b f says. (search rules, search rules)) _ _ c.retain.ensures.filtered) c.left_place-self.ensures is none

pub returns-clause-starts : goal.returns-clause-starts
returns-clause-starts g c = starts_released c.args.self.now.snapshots.items _ c.args.start (filter_same _ _ _ (λ x b f says. (search rules, search rules)) _ _ c.retain.ensures.filtered)
