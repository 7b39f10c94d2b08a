-- Five files in memory, as a host keeps them.
use Rattle.std.specs.Prelude.{ℕ, List}
use Rattle.hs_host.specs.Files.{Five}
use Rattle.hs_memhost.specs.declared.files.Files.{Files}

-- the bytes of each
abbrev pub contents_of : Files → Five (List ℕ)
contents_of f = record { script0 = f.script0.items; script1 = f.script1.items; log = f.log.items; data_ = f.pages.items; backup = f.backup.items }
