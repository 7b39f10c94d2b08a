-- SQL as it is read is plain.
use Rattle.std.proofs.Common.{Bool, List, refl}
use Rattle.hs_turns.specs.Histories.{Commit}
use Rattle.hs_language.specs.Sql.{sql}
use Rattle.hs_plainsql.specs.Naming.{are_named}
use Rattle.hs_plainsql.proofs.Sql.{sql_plain}
use Rattle.hs_plainwords.specs.Dialects.{IsPlainDialect}
use Rattle.hs_reading.specs.Reading.{reading_of}
use Rattle.hs_reading.proofs.Binding.{binds_plainly}
use Rattle.hs_reading.proofs.PlainReading.{reads_plainly}

pub sql_plain_as_read : (room : List Commit → Commit → Bool) → IsPlainDialect are_named (sql (reading_of room))
sql_plain_as_read room = sql_plain (reading_of room) (reads_plainly (reading_of room) binds_plainly (λ text. refl) (λ things text. refl))
