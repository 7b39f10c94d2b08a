use Rattle.std.proofs.Common.{◌≡◌, ◌++◌, drop, take, length}
use Rattle.hs_schema.specs.Catalogue.{owned}
use Rattle.hs_schema.specs.Kept.{AreFree}
use Rattle.hs_schema.specs.Texts.{texts}
use Rattle.hs_schema.proofs.making.own_all.Given as goal

abbrev pub invariant-loop-thing : goal.invariant-loop-thing
invariant-loop-thing l = record {
  put : texts l.owners.entries ++ owned (drop l.thing-index l.more) ≡ texts l.fn.owners.entries ++ owned l.more;
  front : take (length l.fn.owners.entries) (texts l.owners.entries) ≡ texts l.fn.owners.entries;
  free : AreFree (texts l.owners.entries) (drop l.thing-index l.more);
}
