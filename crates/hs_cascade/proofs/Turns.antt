-- How often the loop over the list turns.
use Rattle.std.proofs.Common.{◌≡◌, ℕ, zero, suc, ◌<◌, List, [], ◌∷◌, length, drop, refl, sym, ap, ◌∙◌, arith}
use Rattle.hs_base.specs.declared.numbers.RowName.{RowName}
use Rattle.hs_changes.specs.Settings.{Maps}
use Rattle.hs_actions.specs.Referencing.{Keys}
use Rattle.hs_actions.specs.Work.{Work, take_keys, step_on, step, steps, enough, worked}
use Rattle.hs_actions.proofs.Ending.{list_ends, worked_step, worked_done}

module _ (before : Maps) (keys : Keys) where
  abbrev pub turned : ℕ → List RowName → ℕ
  turned n [] = 0
  turned n (name ∷ rest) = suc n

  abbrev pub turns_within : ℕ → Work → ℕ
  turns_within zero work = 0
  turns_within (suc n) work = turned (turns_within n (step before keys work)) work.list

  -- any number of steps after which nothing is left gives the same
  alike : (n m : ℕ) (work : Work) → (steps n before keys work).list ≡ [] → (steps m before keys work).list ≡ [] → turns_within n work ≡ turns_within m work
  alike zero zero work h g = refl
  alike zero (suc m) work h g = sym (ap (turned (turns_within m (step before keys work))) h)
  alike (suc n) zero work h g = ap (turned (turns_within n (step before keys work))) g
  alike (suc n) (suc m) work h g = ap (λ t. turned t work.list) (alike n m (step before keys work) h g)

  abbrev pub turns : Work → ℕ
  turns work = turns_within (enough before keys work) work

  fewer_within : (n : ℕ) (work : Work) (name : RowName) (rest : List RowName) → work.list ≡ name ∷ rest → (steps n before keys work).list ≡ [] → turns (step before keys work) < turns_within n work
  fewer_within zero work name rest front h = absurd (let no : name ∷ rest ≡ [] = sym front ∙ h in cc)
  fewer_within (suc n) work name rest front h =
      let same : turns (step before keys work) ≡ turns_within n (step before keys work) = alike (enough before keys (step before keys work)) n (step before keys work) (list_ends before keys (step before keys work)) h in
      let is : turns_within (suc n) work ≡ suc (turns_within n (step before keys work)) = ap (turned (turns_within n (step before keys work))) front in
      omega arith

  module _ (work : Work) (name : RowName) (rest : List RowName) (front : work.list ≡ name ∷ rest) (done : Work) (is : done ≡ take_keys before keys name (record work { list = rest })) where
    is_step : done ≡ step before keys work
    is_step = is ∙ sym (ap (step_on before keys work) front)

    pub fewer : turns done < turns work
    fewer = let same : turns done ≡ turns (step before keys work) = ap turns is_step in let less = fewer_within (enough before keys work) work name rest front (list_ends before keys work) in omega arith

    pub worked_on : worked before keys done ≡ worked before keys work
    worked_on = ap (worked before keys) is_step ∙ worked_step before keys work

  none : (names : List RowName) → names ≡ drop 1 names → names ≡ []
  none [] h = refl
  none (name ∷ rest) h = absurd (let long : suc (length rest) ≡ length rest = ap length h in omega arith)

  -- where the list is empty, the work is done
  pub worked_out : (work : Work) (rest : List RowName) → work.list ≡ rest → rest ≡ drop 1 work.list → record work { list = rest } ≡ worked before keys work
  worked_out work rest same less = ap (λ l. record work { list = l }) (sym same) ∙ sym (worked_done before keys work (none work.list (same ∙ less)))
