use Rattle.std.proofs.Common.{ℕ, ◌≡◌, ◌+◌, List, [], ◌∷◌, ◌++◌, length, sym, ap, subst, ◌∙◌, arith, append-nil, length-append}
use Rattle.hs_entries.specs.declared.item.Item.{Item}
use Rattle.hs_entries.specs.declared.item.Item.TheVariants.{Entry}
use Rattle.hs_run.specs.declared.gathered.Gathered.{Gathered}
use Rattle.hs_run.specs.Future.{TakesOn}
use Rattle.hs_run_tests.specs.Silent.{IsSilent}
use Rattle.hs_run_tests.proofs.Truth.{takes_silent}
use Rattle.hs_run_tests.proofs.silent.SilentTurns.take.Goals as goal

pub returns-clause-takes : goal.returns-clause-takes
returns-clause-takes c = λ f ahead.
    let made = c.args.self.now.made in
    let old = c.args.gathered.now in
    let new : Gathered = record { told = old.told; made = c.push.new.self; session = old.session } in
    let entry : Item = Entry c.in-Entry.number c.in-Entry.session c.in-Entry.text c.in-Entry.at in
    let pushed : c.push.new.self ≡ old.made ++ c.in-Entry.text ∷ [] = c.in_ok-push.ensures.ok ∙ ap (λ (l : List ℕ). old.made ++ l ∷ []) (c.as_bytes.ensures.value ∙ c.as_str.ensures) in
    subst (λ (item : Item). TakesOn (IsSilent (made + 1)) f item old new) (sym c.in-Entry.is)
    (takes_silent made (made + 1) f entry old new ahead (sym (append-nil old.told)) pushed (omega (arith, ap length pushed, length-append old.made (c.in-Entry.text ∷ []))))
