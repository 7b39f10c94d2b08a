-- How a host in memory stands to its files.
use Rattle.std.specs.Prelude.{Bool, true}
use Rattle.hs_host.specs.Files.{Standing}
use Rattle.hs_memhost.specs.declared.mounting.Mounting.{Mounting}

-- it reads them honestly, and they are those of another program or not
abbrev pub standing_of : Mounting → Bool → Standing
standing_of m is_foreign = record { name = m.name; is_open = m.is_open; is_foreign = is_foreign; is_honest = true }
