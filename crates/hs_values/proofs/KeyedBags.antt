-- A bag of rows has one order by keys, where rows that tie are identical.
use Rattle.std.proofs.Common.{◌≡◌, Bool, true, List}
use Rattle.std.specs.declared.cmp.Ordering.TheVariants.{Equal}
use Rattle.std.specs.List.{All, Contains}
use Rattle.std.specs.List.Sorted.{IsPermutation}
use Rattle.std.proofs.lemmas.List.Elements.{All-contains}
use Rattle.hs_values.specs.declared.sql_type.SqlType.{SqlType}
use Rattle.hs_values.specs.declared.value.Value.{Value}
use Rattle.hs_values.specs.Order.{row_order_of, keyed_order_of}
use Rattle.hs_values.specs.Sorted.{keyed_rows}
use Rattle.hs_values.specs.SqlType.{row_fits}
use Rattle.hs_values.specs.TotalOrder.{keyed_order_of_total}
use Rattle.hs_values.proofs.Bags.{sorted_by-permuted}
use Rattle.hs_values.proofs.KeyedRows.{keyed_ties}
use Rattle.hs_values.proofs.OneType.{one_row}

pub keyed_bag : (flags : List Bool) (rows others : List (List Value)) → IsPermutation rows others → ((a b : List Value) → Contains rows a → Contains rows b → row_order_of a b ≡ Equal → a ≡ b) → keyed_rows flags rows ≡ keyed_rows flags others
keyed_bag flags rows others permuted telling = sorted_by-permuted (keyed_order_of flags) (keyed_order_of_total flags) rows others permuted (λ a b h k e. telling a b h k ((keyed_ties flags a b).0 e))

pub keyed_typed_bag : (flags : List Bool) (types : List SqlType) (rows others : List (List Value)) → IsPermutation rows others → All (λ row. row_fits types row ≡ true) rows → keyed_rows flags rows ≡ keyed_rows flags others
keyed_typed_bag flags types rows others permuted fit = keyed_bag flags rows others permuted (λ a b h k e. one_row types a b (All-contains (λ row. row_fits types row ≡ true) rows a fit h) (All-contains (λ row. row_fits types row ≡ true) rows b fit k) e)
