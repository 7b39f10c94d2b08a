-- The orders of values and of rows are total orders.
pub use Rattle.hs_values.specs.TotalOrder.{order_of_total, row_order_of_total, keyed_order_of_total}
