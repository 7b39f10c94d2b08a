-- What a call used of the outside, and what it left alone.
use Rattle.std.specs.Prelude.{◌≡◌, ℕ, ◌≤◌, List, ◌++◌}
use Rattle.hs_host.specs.declared.file_kind.FileKind.{FileKind}
use Rattle.hs_host.specs.declared.source.Source as source
use Rattle.hs_host.specs.declared.host.Host as host
use Rattle.hs_host.specs.Files.{IsHonest, IsOnly}
use Rattle.hs_host.specs.Moments.{Moment, Since, IsStill, IsReading, OneFile}

-- Each takes the members of a host as `H.Source` and `H.Host.own` in a contract, and as `g.H.Source` and `g.H.Host` in a
-- proof. What a record says follows for two calls, one behind the other, from what it says of each (`proofs/Used.antt`).

-- Contracts may speak of the bytes of this host, and it is honest.
pub record Told {H : Type 0} (s : source.Ghosts H) (g : host.Ghosts H) (h : H) : Type 0 where
  pub tells : s.tells
  pub honest : IsHonest (g.standing h)

-- Only the files were used: input, output and how the host stands are as before.
pub record UsesDisk {H : Type 0} (s : source.Ghosts H) (g : host.Ghosts H) (old new : H) : Type 0 where
  pub standing : g.standing new ≡ g.standing old
  pub unread : s.unread new ≡ s.unread old
  pub input_faults : s.input_faults new ≡ s.input_faults old
  pub written : g.written new ≡ g.written old
  pub output_faults : g.output_faults new ≡ g.output_faults old
  pub disk_later : g.disk_faults old ≤ g.disk_faults new

-- Only the output was used.
pub record UsesOutput {H : Type 0} (s : source.Ghosts H) (g : host.Ghosts H) (old new : H) : Type 0 where
  pub standing : g.standing new ≡ g.standing old
  pub unread : s.unread new ≡ s.unread old
  pub input_faults : s.input_faults new ≡ s.input_faults old
  pub files : g.files new ≡ g.files old
  pub disk_faults : g.disk_faults new ≡ g.disk_faults old
  pub output_later : g.output_faults old ≤ g.output_faults new

-- Only the input was used. While it is read, output and disk are as before, and what is no longer unread was taken.
pub record UsesInput {H : Type 0} (s : source.Ghosts H) (g : host.Ghosts H) (old new : H) : Type 0 where
  pub standing : g.standing new ≡ g.standing old
  pub written : g.written new ≡ g.written old
  pub output_faults : g.output_faults new ≡ g.output_faults old
  pub files : g.files new ≡ g.files old
  pub disk_faults : g.disk_faults new ≡ g.disk_faults old
  pub moments : s.tells → Since (IsReading (g.history old).now) (g.history old) (g.history new)
  pub taken : s.tells → (g.history new).now.taken ++ s.unread new ≡ (g.history old).now.taken ++ s.unread old

-- Anything may have been used, but no count of faults fell and the host stands as before.
pub record UsesAll {H : Type 0} (s : source.Ghosts H) (g : host.Ghosts H) (old new : H) : Type 0 where
  pub standing : g.standing new ≡ g.standing old
  pub input_later : s.input_faults old ≤ s.input_faults new
  pub output_later : g.output_faults old ≤ g.output_faults new
  pub disk_later : g.disk_faults old ≤ g.disk_faults new

-- Files were read, and none was changed.
pub record ReadsFiles {H : Type 0} (s : source.Ghosts H) (g : host.Ghosts H) (old new : H) : Type 0 where
  pub uses : UsesDisk s g old new
  pub files : Told s g old → g.files new ≡ g.files old
  pub moments : Told s g old → Since (IsStill (g.history old).now) (g.history old) (g.history new)

-- Of the files one was moved on, and at each moment this holds.
pub record Moves {H : Type 0} (s : source.Ghosts H) (g : host.Ghosts H) (file : FileKind) (P : Moment → Type 0) (old new : H) : Type 0 where
  pub uses : UsesDisk s g old new
  pub others : Told s g old → IsOnly (g.files old) file (g.files new)
  pub moments : Told s g old → Since P (g.history old) (g.history new)

-- And at each moment whatever a crash leaves of it has this property, and of the others what it might have left before.
abbrev pub ChangesFile : {H : Type 0} → source.Ghosts H → host.Ghosts H → FileKind → (List ℕ → Type 0) → H → H → Type 0
ChangesFile s g file Q old new = Moves s g file (OneFile (g.history old).now file Q) old new
