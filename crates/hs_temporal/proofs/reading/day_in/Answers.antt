use Rattle.std.proofs.Common.{sym, ◌∙◌}
use Rattle.hs_temporal.proofs.StampLemmas.{date_text-fields, day_read}
use Rattle.hs_temporal.specs.Days.{year_of, month_of, monthday_of}
use Rattle.hs_temporal.proofs.reading.day_in.Goals as goal

pub returns-in_err-year : goal.returns-in_err-year
returns-in_err-year c =
    rw c.from_residual.ensures (λ day h e.
    c.in_err-year.ensures (year_of day) (month_of day) (monthday_of day) (sym (date_text-fields day) ∙ e))

pub returns : goal.returns
returns c =
    let f = c.in_ok-year.ensures in
    day_read c.args.text.now c.in_ok-year.year c.in_ok-year.month c.in_ok-year.day (f.0, f.1, f.2) f.3 c.day_at.result c.day_at.ensures
