use Rattle.std.proofs.Common.{◌≡◌, ◌==◌, ◌&&◌, ◌∙◌, Bool, true, false, cond, refl, sym, arith}
use Rattle.hs_turns.specs.Database.{Database}
use Rattle.hs_program_tests.specs.Tally.{counted, is_short, with_count}
use Rattle.hs_program_tests.proofs.tally.TallyEngine.redo.Goals as goal

-- a long text alone changes the count
count_is : (database : Database) (text short : Bool) → (database.count == 0) ≡ short → ((cond text database (with_count 1)).count == 0) ≡ (text && short)
count_is database true short is = is
count_is database false short is = refl

pub returns-clause-made : goal.returns-clause-made
returns-clause-made c = λ yes opened stands.
    let count = count_is opened.database (is_short c.args.text.now) c.args.self.now.short stands.2 ∙ sym c.still_short-self.ensures in
    (counted opened c.args.text.now, (record { made = refl; only = λ other is. is }, (omega (arith, stands.0), stands.1, count)))
