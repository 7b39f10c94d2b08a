use Rattle.std.proofs.Common.{◌≡◌, ◌<◌, [], length, refl, arith}
use Rattle.std.proofs.lemmas.Option.{slice_get_within}
use Rattle.hs_turns.specs.Database.{apply}
use Rattle.hs_seated.specs.Seated.{IsSeated}
use Rattle.hs_seated.proofs.seated.Seated.commit.Goals as goal

pub returns : goal.returns
returns c = λ db seated is count none.
    let at : IsSeated db.rows [] c.back.new.self = c.in_ok-back.ensures db.rows seated is in
    let empty : length c.back.new.self.steps.items ≡ 0 = at.count in
    record {
      rows = c.accept.ensures.rows (apply db c.args.changes.now).rows (c.in_ok-make_all.ensures db at.rows count none);
      of_rows = refl;
      inserted = at.inserted;
      count = at.count;
      steps = λ i step h. absurd (let low : i < length c.back.new.self.steps.items = slice_get_within c.back.new.self.steps.items i step h in omega (arith, low, empty));
    }
