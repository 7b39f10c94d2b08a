-- What the log of a run gives, as the clauses of `run` say it: for crates that stand on this one alone.
pub use Rattle.hs_engine.specs.Standing.{sql_meaning}
pub use Rattle.hs_program.specs.Command.{database_of}
pub use Rattle.hs_program.specs.Damaged.{IsDamagedAt}
pub use Rattle.hs_program.specs.Meaning.{Opened}
pub use Rattle.hs_program.specs.Opening.{IsInvalid, IsOpened}
