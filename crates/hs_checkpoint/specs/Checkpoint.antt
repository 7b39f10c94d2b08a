-- What a checkpoint and a creation make of the files.
use Rattle.std.specs.Prelude.{◌≡◌, ◌⊎◌, ℕ, ◌+◌, not, List, [], ◌∷◌}
use Rattle.hs_host.specs.declared.file_kind.FileKind.{FileKind}
use Rattle.hs_host.specs.declared.file_kind.FileKind.TheVariants.{Log, Backup}
use Rattle.hs_host.specs.Files.{Five, of}
use Rattle.hs_gate.specs.Gated.{created}
use Rattle.hs_gate.specs.Rewriting.{body_of}
use Rattle.hs_slots.specs.Points.{Point, IsOlder, slot}
use Rattle.hs_slots.specs.Anew.{renewed}

-- the log or the backup doesn't count for a point, which has nothing of it
pub record DoesNotCount (p : Point) (file : FileKind) (bytes : List ℕ) : Type 0 where
  pub older : IsOlder p.epoch bytes
  pub none : ((file ≡ Log) × (p.logged ≡ [])) ⊎ ((file ≡ Backup) × (p.images ≡ []))

-- A checkpoint of these payloads was made: the slot that wasn't the current one is written anew with them, log and backup are
-- started with the same epoch, and the rest is as before.
pub record HasTurned (p : Point) (payloads : List (List ℕ)) (old new : Five (List ℕ)) : Type 0 where
  pub written : of new (slot (not p.second)) ≡ renewed (of old (slot (not p.second))) (p.epoch + 1) payloads
  pub current : of new (slot p.second) ≡ of old (slot p.second)
  pub backup : new.backup ≡ renewed old.backup (p.epoch + 1) []
  pub log : new.log ≡ renewed old.log (p.epoch + 1) []
  pub pages : new.data_ ≡ old.data_

-- the files of a database that was just created
abbrev pub created_files : List (List ℕ) → Five (List ℕ)
created_files payloads = record {
  script0 = 0 ∷ 1 ∷ body_of 1 payloads;
  script1 = 0 ∷ 0 ∷ [];
  log = created;
  data_ = [];
  backup = created;
}
