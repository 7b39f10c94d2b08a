use Rattle.std.proofs.Common.{[], refl, sym}
use Rattle.hs_engine.proofs.Engines.{store_stands}
use Rattle.hs_engine.specs.Meets.{sql_governed}
use Rattle.hs_engine.specs.Sql.{IsRegular, sql_system}
use Rattle.hs_plainsql.specs.Naming.{are_named}
use Rattle.hs_system.proofs.Lawful.{counted}
use Rattle.hs_system.specs.Meaning.{world_at}
use Rattle.hs_turns.specs.Machine.{start}
use Rattle.hs_engine.proofs.engine.SqlEngineEngine.turns.Goals as goal

pub returns : goal.returns
returns c = record {
  ahead = λ opened s sound.
      let run = world_at sql_system opened c.args.size in
      let stands = store_stands c.args.self opened c.args.size s sound _ refl in
      let begun = c.new-transactions.ensures run stands (sym s.counted) (counted are_named IsRegular sql_system sql_governed opened sound.reached) in
      (run, (start run.run.opening [], (c.new.ensures run begun, refl)));
}
