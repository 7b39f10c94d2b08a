use Rattle.std.proofs.Common.{FitsSigned, w16, w32, sym, ◌∙◌, rules}
use Rattle.std.proofs.lemmas.Int.{to_z-of_z}
use Rattle.hs_temporal.specs.Days.{year_of, month_of, monthday_of}
use Rattle.hs_temporal.proofs.StampLemmas.{date_text-fields}
use Rattle.hs_temporal.proofs.TextLemmas.{date_bytes_are}
use Rattle.hs_temporal.proofs.printing.date_bytes.Goals as goal

pub returns : goal.returns
returns c =
    let fits_day : FitsSigned w32 c.args.day = c.ranges.day in
    let fits_year : FitsSigned w16 c.date_of-date.result.year = search rules in
    let year = simp to_z-of_z at c.date_of-date.ensures.year in
    let month = c.from-month.ensures ∙ simp to_z-of_z at c.date_of-date.ensures.month in
    let day = c.from-day.ensures ∙ simp to_z-of_z at c.date_of-date.ensures.day in
    date_bytes_are (year_of c.args.day) (month_of c.args.day) (monthday_of c.args.day) _ _ _ _ _ _ _ _
    (rw year at (simp to_z-of_z at c.digit.ensures), rw year at (simp to_z-of_z at c.digit-2.ensures), rw year at (simp to_z-of_z at c.digit-3.ensures), rw year at (simp to_z-of_z at c.digit-4.ensures))
    (rw month at c.digit-5.ensures, rw month at c.digit-6.ensures)
    (rw day at c.digit-7.ensures, rw day at c.digit-8.ensures)
    ∙ sym (date_text-fields c.args.day)
