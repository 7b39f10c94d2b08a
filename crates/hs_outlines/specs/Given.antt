-- The names that were given so far, as they are kept.
use Rattle.std.specs.Prelude.{◌≡◌}
use Rattle.hs_elements.specs.Faults.{Text, is_among}
use Rattle.hs_elements.specs.Names.{is_held}
use Rattle.hs_schema.specs.Catalogue.{Things}
use Rattle.hs_outlines.specs.Counters.{AreTried}
use Rattle.hs_outlines.specs.declared.naming.Given.{Given}
use Rattle.hs_outlines.specs.Named.{is_taken}

pub record IsGiven (things : Things) (table : Text) (given : Given) : Type 0 where
  pub held : (name : Text) → is_held given.set name ≡ is_among given.names.items name
  pub tried : AreTried (is_taken things given.names.items) table given.counters
