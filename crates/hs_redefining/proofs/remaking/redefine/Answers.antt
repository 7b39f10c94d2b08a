use Rattle.std.proofs.Common.{◌≡◌, ◌<◌, length, refl, arith}
use Rattle.std.proofs.lemmas.Option.{slice_get_within}
use Rattle.std.proofs.lemmas.Result.{on_ok_weaker}
use Rattle.hs_redefining.proofs.remaking.redefine.Goals as goal

pub returns : goal.returns
returns c = λ maps is.
    let none : length c.args.seated.now.steps.items ≡ 0 = is.count in
    on_ok_weaker c.remake_all.result
    (λ rows. record {
      rows = rows;
      of_rows = refl;
      inserted = is.inserted;
      count = is.count;
      steps = λ i step h. absurd (let low : i < length c.args.seated.now.steps.items = slice_get_within c.args.seated.now.steps.items i step h in omega (arith, low, none));
    })
    (c.remake_all.ensures maps is.rows)
