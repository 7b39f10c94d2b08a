use Rattle.std.proofs.Common.{ap}
use Rattle.std.specs.Ordering.{is_eq}
use Rattle.hs_values.proofs.Keys.{equal_row_keys}
use Rattle.hs_index.proofs.Indexed.{has_null-same}
use Rattle.hs_index.proofs.RowSets.{equal_from}
use Rattle.hs_index.proofs.laws.equal_keys_have_one_form.Goals as goal

pub returns : goal.returns
returns c = record {
  form = λ a b. (λ same. (equal_row_keys a b).0 (equal_from _ same), λ forms. ap is_eq ((equal_row_keys a b).1 forms));
  nulls = has_null-same;
}
