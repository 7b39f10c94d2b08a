-- What a foreign key does, case by case.
use Rattle.std.proofs.Common.{◌≡◌, ℕ, true, false, if◌then◌else◌, List, [], fold, Option, ap}
use Rattle.std.specs.Option.{unwrap_or}
use Rattle.hs_base.specs.declared.numbers.RowName.{RowName}
use Rattle.hs_values.specs.declared.value.Value.{Value}
use Rattle.hs_changes.specs.Settings.{Maps}
use Rattle.hs_actions.specs.declared.reference.Reference.{Reference}
use Rattle.hs_actions.specs.Acting.{acts_at, effect}
use Rattle.hs_actions.specs.Work.{Work, child_name, is_left_out, is_now, settled, act, children_of, take_key}
use Rattle.hs_cascade.specs.Working.{marked}

-- ---- on a child row

module _ (maps : Maps) (key : Reference) (new : Option (List Value)) (work : Work) (row : ℕ) where
  abbrev after : Work
  after = settled (child_name key row) (marked work key.place row) (effect key new (unwrap_or (is_now maps work.edits (child_name key row)) []))

  pub left_out : is_left_out key work row ≡ true → act maps key new work row ≡ work
  left_out h = ap (λ b. if b then work else after) h

  pub acts : is_left_out key work row ≡ false → act maps key new work row ≡ settled (child_name key row) (marked work key.place row) (effect key new (unwrap_or (is_now maps work.edits (child_name key row)) []))
  acts h = ap (λ b. if b then work else after) h

-- ---- for a changed row

module _ (maps : Maps) (name : RowName) (old : List Value) (work : Work) (key : Reference) where
  abbrev each : Work
  each = fold (act maps key (is_now maps work.edits name)) work (children_of maps key old)

  pub idle : acts_at key old (is_now maps work.edits name) ≡ false → take_key maps name old work key ≡ work
  idle h = ap (λ b. if b then each else work) h

  pub taken : acts_at key old (is_now maps work.edits name) ≡ true → take_key maps name old work key ≡ fold (act maps key (is_now maps work.edits name)) work (children_of maps key old)
  taken h = ap (λ b. if b then each else work) h
