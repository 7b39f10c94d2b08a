use Rattle.std.proofs.Common.{◌≡◌, FitsSigned, None, subst, to_z, of_z, to_z-of_z}
use Rattle.std.specs.Int.{w64}
use Rattle.hs_values.specs.declared.sql_type.SqlType.{SqlType}
use Rattle.hs_valuetext.specs.Values.{IsPlainValue}
use Rattle.hs_valuetext.proofs.Splits.{moment_fits}
use Rattle.hs_valuetext.proofs.ValueLemmas.{dec_found, dec_missing, stamp_found, stamp_missing}
use Rattle.hs_valuetext.proofs.tokens.likely_value.Goals as goal

pub returns-in-Some-clause-found : goal.returns-in-Some-clause-found
returns-in-Some-clause-found c = λ y h some.
    dec_found c.in-Decimal.precision c.in-Decimal.scale c.args.text.now c.read_printed.result c.in-Some.d c.in-Some.is c.read_printed.ensures.inverse y (subst (λ (t : SqlType). IsPlainValue t c.args.text.now y) c.in-Decimal.is h) some

pub returns-in-None-clause-found : goal.returns-in-None-clause-found
returns-in-None-clause-found c = λ y h some.
    dec_missing c.in-Decimal.precision c.in-Decimal.scale c.args.text.now c.read_printed.result c.in-None.is c.read_printed.ensures.inverse None y (subst (λ (t : SqlType). IsPlainValue t c.args.text.now y) c.in-Decimal.is h) some

pub returns-in-Some-read_moment-clause-found : goal.returns-in-Some-read_moment-clause-found
returns-in-Some-read_moment-clause-found c = λ y h some.
    let fits : FitsSigned w64 c.in-Some-read_moment.micros = moment_fits c.in-Some-read_moment.micros c.in-Some-read_moment.ensures.0.lawful in
    let back : to_z w64 (of_z w64 c.in-Some-read_moment.micros) ≡ c.in-Some-read_moment.micros = to_z-of_z fits in
    rw back (stamp_found c.args.text.now c.in-Some-read_moment.micros c.in-Some-read_moment.ensures.1 y (subst (λ (t : SqlType). IsPlainValue t c.args.text.now y) c.in-Stamp.is h) some)

pub returns-in-None-read_moment-clause-found : goal.returns-in-None-read_moment-clause-found
returns-in-None-read_moment-clause-found c = λ y h some.
    stamp_missing c.args.text.now c.in-None-read_moment.ensures None y (subst (λ (t : SqlType). IsPlainValue t c.args.text.now y) c.in-Stamp.is h) some
