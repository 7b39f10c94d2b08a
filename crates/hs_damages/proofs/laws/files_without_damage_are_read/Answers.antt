use Rattle.hs_damages.proofs.Sighted.{none_unborn, unborn_none, stands_shown}
use Rattle.hs_damages.proofs.Standing.{stands}
use Rattle.hs_damages.proofs.laws.files_without_damage_are_read.Goals as goal

pub returns-clause-none : goal.returns-clause-none
returns-clause-none c = none_unborn

pub returns-clause-unborn : goal.returns-clause-unborn
returns-clause-unborn c = unborn_none

pub returns-clause-point : goal.returns-clause-point
returns-clause-point c = stands

pub returns-clause-slot : goal.returns-clause-slot
returns-clause-slot c = stands_shown
