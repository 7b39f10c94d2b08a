-- The laws of histories, over the history of a run.
use Rattle.std.proofs.Common.{◌≡◌, ℕ, true, List, sym, subst}
use Rattle.hs_entries.specs.declared.item.Item.{Item}
use Rattle.hs_turns.specs.Database.{Database}
use Rattle.hs_turns.specs.Each.{Each}
use Rattle.hs_turns.specs.Events.{reached}
use Rattle.hs_turns.specs.Histories.{History, state}
use Rattle.hs_turns.specs.Language.{Laws, Stands}
use Rattle.hs_turns.specs.Promises.{AreMade, EachEnded, IsCommitted, IsFirst, IsInOrder, IsSerial, IsSnapshot}
use Rattle.hs_turns.proofs.Ended.{Right, in_order}
use Rattle.hs_turns.proofs.Lists.{each_map, each_both}
use Rattle.hs_turns.proofs.Whole.{Whole, whole}
use Rattle.hs_turns.specs.Dialect.{Dialect, language_of}
use Rattle.hs_turns.specs.Laws.{history_after}
use Rattle.hs_turns.proofs.Reached.{run_r}

module _ (d : Dialect) (opening : Database) (made : ℕ) (laws : Laws (language_of d)) (stands : Stands (language_of d) opening) where
  carried : (P : History → Type 0) → ((h : History) → Whole (language_of d) laws opening h → P h) → (items : List Item) (n : ℕ) → P (history_after d opening made items n)
  carried P holds items n = let r = run_r d opening made items n in subst P (sym r.1) (holds (reached (language_of d) opening r.0) (whole (language_of d) laws opening stands r.0))

  abbrev Rights : History → Type 0
  Rights h = Each (Right (language_of d) opening h.commits) h.ended

  pub serial : (items : List Item) (n : ℕ) → EachEnded (history_after d opening made items n) (IsSerial (language_of d) opening)
  serial = carried (λ h. EachEnded h (IsSerial (language_of d) opening)) (λ h w. each_map (Right (language_of d) opening h.commits) (IsSerial (language_of d) opening h.commits) (λ e r. r.serial) h.ended w.ended)

  pub committed : (items : List Item) (n : ℕ) → EachEnded (history_after d opening made items n) IsCommitted
  committed = carried (λ h. EachEnded h IsCommitted) (λ h w. w.committed)

  pub made_by : (items : List Item) (n : ℕ) → AreMade (history_after d opening made items n).commits (history_after d opening made items n).ended
  made_by = carried (λ h. AreMade h.commits h.ended) (λ h w. w.made)

  pub ordered : (items : List Item) (n : ℕ) → EachEnded (history_after d opening made items n) (IsInOrder (language_of d) opening)
  ordered = carried (λ h. EachEnded h (IsInOrder (language_of d) opening))
      (λ h w. each_both (Right (language_of d) opening h.commits) (IsCommitted h.commits) (IsInOrder (language_of d) opening h.commits) (in_order (language_of d) opening h.commits) h.ended w.ended w.committed)

  pub snapshots : (items : List Item) (n : ℕ) → EachEnded (history_after d opening made items n) (IsSnapshot (language_of d) opening)
  snapshots = carried (λ h. EachEnded h (IsSnapshot (language_of d) opening)) (λ h w. each_map (Right (language_of d) opening h.commits) (IsSnapshot (language_of d) opening h.commits) (λ e r. r.snapshot) h.ended w.ended)

  pub first : (items : List Item) (n : ℕ) → EachEnded (history_after d opening made items n) IsFirst
  first = carried (λ h. EachEnded h IsFirst) (λ h w. each_map (Right (language_of d) opening h.commits) (IsFirst h.commits) (λ e r. r.first) h.ended w.ended)

  pub valid : (items : List Item) (n k : ℕ) → d.is_valid (state opening (history_after d opening made items n).commits k) ≡ true
  valid items n k = carried (λ h. d.is_valid (state opening h.commits k) ≡ true) (λ h w. (w.stands k).0) items n
