-- Rows before a statement that are those of all tables.
use Rattle.std.proofs.Common.{◌≡◌, true, refl, ap}
use Rattle.hs_plan.specs.declared.plan.Plan.{Plan}
use Rattle.hs_plan.specs.declared.plan.Plan.TheVariants as p
use Rattle.hs_changes.specs.Settings.{Maps}
use Rattle.hs_actions.specs.Referencing.{Keys}
use Rattle.hs_exec.specs.Before.{AreBefore}
use Rattle.hs_exec.specs.Needed.{AreChanged}

all_changed : (keys : Keys) (plan : Plan) → AreChanged keys plan (λ table. true)
all_changed keys (p.Query query) = tt
all_changed keys (p.Insert insert) = tt
all_changed keys (p.Update update) = record { own = refl; children = λ t key inside found may. refl }
all_changed keys (p.Delete delete) = record { own = refl; children = λ t key inside found may. refl }
all_changed keys (p.LockTable all) = tt
all_changed keys (p.Define definition) = tt
all_changed keys (p.Session statement) = tt

pub serve : (tables : Maps) (keys : Keys) (plan : Plan) (before : Maps) → before ≡ tables → AreBefore tables keys plan before
serve tables keys plan before same = record {
  changed = λ table. true;
  are = all_changed keys plan;
  agree = λ table is. ap (λ (m : Maps). m table) same;
}
