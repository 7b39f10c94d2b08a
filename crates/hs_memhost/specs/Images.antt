-- Five files in memory, as a host takes them.
use Rattle.std.specs.Prelude.{ℕ, List}
use Rattle.hs_host.specs.Files.{Five}
use Rattle.hs_memhost.specs.declared.images.Images.{Images}

-- the bytes of each
abbrev pub files_of : Images → Five (List ℕ)
files_of i = record { script0 = i.script0; script1 = i.script1; log = i.log; data_ = i.pages; backup = i.backup }
