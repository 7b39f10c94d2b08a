-- An equality that is TRUE.
use Rattle.std.proofs.Common.{◌≡◌, Bool, true, false, ◌&&◌, Ok, refl}
use Rattle.std.specs.Ordering.{is_eq}
use Rattle.hs_values.specs.declared.value.Value.{Value}
use Rattle.hs_values.specs.declared.value.Value.TheVariants as v
use Rattle.hs_values.specs.Order.{cmp_of, order_of}
use Rattle.hs_expression.specs.Logic.{tested}
use Rattle.hs_rel.specs.Selection.{is_true}
use Rattle.hs_lookups.specs.Asked.{are_equal}

kept : (b : Bool) → (b && true) ≡ false → b ≡ false
kept true h = h
kept false h = refl

pub not_equal : (a b : Value) → are_equal a b ≡ false → is_true (Ok (tested is_eq (cmp_of a b))) ≡ false
not_equal v.Null b h = refl
not_equal (v.Int n) v.Null h = refl
not_equal (v.Int n) (v.Int o) h = kept (is_eq (order_of (v.Int n) (v.Int o))) h
not_equal (v.Int n) (v.Dec e) h = kept (is_eq (order_of (v.Int n) (v.Dec e))) h
not_equal (v.Int n) (v.Text u) h = kept (is_eq (order_of (v.Int n) (v.Text u))) h
not_equal (v.Int n) (v.Bool u) h = kept (is_eq (order_of (v.Int n) (v.Bool u))) h
not_equal (v.Int n) (v.Day e) h = kept (is_eq (order_of (v.Int n) (v.Day e))) h
not_equal (v.Int n) (v.Micros o) h = kept (is_eq (order_of (v.Int n) (v.Micros o))) h
not_equal (v.Dec d) v.Null h = refl
not_equal (v.Dec d) (v.Int o) h = kept (is_eq (order_of (v.Dec d) (v.Int o))) h
not_equal (v.Dec d) (v.Dec e) h = kept (is_eq (order_of (v.Dec d) (v.Dec e))) h
not_equal (v.Dec d) (v.Text u) h = kept (is_eq (order_of (v.Dec d) (v.Text u))) h
not_equal (v.Dec d) (v.Bool u) h = kept (is_eq (order_of (v.Dec d) (v.Bool u))) h
not_equal (v.Dec d) (v.Day e) h = kept (is_eq (order_of (v.Dec d) (v.Day e))) h
not_equal (v.Dec d) (v.Micros o) h = kept (is_eq (order_of (v.Dec d) (v.Micros o))) h
not_equal (v.Text t) v.Null h = refl
not_equal (v.Text t) (v.Int o) h = kept (is_eq (order_of (v.Text t) (v.Int o))) h
not_equal (v.Text t) (v.Dec e) h = kept (is_eq (order_of (v.Text t) (v.Dec e))) h
not_equal (v.Text t) (v.Text u) h = kept (is_eq (order_of (v.Text t) (v.Text u))) h
not_equal (v.Text t) (v.Bool u) h = kept (is_eq (order_of (v.Text t) (v.Bool u))) h
not_equal (v.Text t) (v.Day e) h = kept (is_eq (order_of (v.Text t) (v.Day e))) h
not_equal (v.Text t) (v.Micros o) h = kept (is_eq (order_of (v.Text t) (v.Micros o))) h
not_equal (v.Bool t) v.Null h = refl
not_equal (v.Bool t) (v.Int o) h = kept (is_eq (order_of (v.Bool t) (v.Int o))) h
not_equal (v.Bool t) (v.Dec e) h = kept (is_eq (order_of (v.Bool t) (v.Dec e))) h
not_equal (v.Bool t) (v.Text u) h = kept (is_eq (order_of (v.Bool t) (v.Text u))) h
not_equal (v.Bool t) (v.Bool u) h = kept (is_eq (order_of (v.Bool t) (v.Bool u))) h
not_equal (v.Bool t) (v.Day e) h = kept (is_eq (order_of (v.Bool t) (v.Day e))) h
not_equal (v.Bool t) (v.Micros o) h = kept (is_eq (order_of (v.Bool t) (v.Micros o))) h
not_equal (v.Day d) v.Null h = refl
not_equal (v.Day d) (v.Int o) h = kept (is_eq (order_of (v.Day d) (v.Int o))) h
not_equal (v.Day d) (v.Dec e) h = kept (is_eq (order_of (v.Day d) (v.Dec e))) h
not_equal (v.Day d) (v.Text u) h = kept (is_eq (order_of (v.Day d) (v.Text u))) h
not_equal (v.Day d) (v.Bool u) h = kept (is_eq (order_of (v.Day d) (v.Bool u))) h
not_equal (v.Day d) (v.Day e) h = kept (is_eq (order_of (v.Day d) (v.Day e))) h
not_equal (v.Day d) (v.Micros o) h = kept (is_eq (order_of (v.Day d) (v.Micros o))) h
not_equal (v.Micros m) v.Null h = refl
not_equal (v.Micros m) (v.Int o) h = kept (is_eq (order_of (v.Micros m) (v.Int o))) h
not_equal (v.Micros m) (v.Dec e) h = kept (is_eq (order_of (v.Micros m) (v.Dec e))) h
not_equal (v.Micros m) (v.Text u) h = kept (is_eq (order_of (v.Micros m) (v.Text u))) h
not_equal (v.Micros m) (v.Bool u) h = kept (is_eq (order_of (v.Micros m) (v.Bool u))) h
not_equal (v.Micros m) (v.Day e) h = kept (is_eq (order_of (v.Micros m) (v.Day e))) h
not_equal (v.Micros m) (v.Micros o) h = kept (is_eq (order_of (v.Micros m) (v.Micros o))) h
