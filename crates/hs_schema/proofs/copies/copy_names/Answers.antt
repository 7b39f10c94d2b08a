use Rattle.std.proofs.Common.{◌≡◌}
use Rattle.hs_base.specs.declared.numbers.TableNo.{TableNo}
use Rattle.hs_schema.proofs.Copied.{cloned}
use Rattle.hs_schema.proofs.copies.copy_names.Goals as goal

pub returns : goal.returns
returns c = cloned (λ (v w : TableNo). w ≡ v) (λ v w h. h) c.args.names.now.entries c.in_ok-clone.field-0.entries c.in_ok-clone.ensures.cases
