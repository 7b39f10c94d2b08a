-- How moments pass, call after call.
use Rattle.std.proofs.Common.{◌≡◌, ◌⊎◌, ℕ, List, [], ◌∷◌, ◌++◌, Result, Ok, Err, OnOk, inl, inr, refl, sym, ◌∙◌, ap, subst, append_assoc, append-nil}
use Rattle.hs_host.specs.declared.file_kind.FileKind.{FileKind}
use Rattle.hs_host.specs.declared.host_fault.HostFault.{HostFault}
use Rattle.hs_host.specs.declared.host_fault.HostFault.TheVariants.{Fault, NoMemory}
use Rattle.hs_host.specs.Moments.{Call, on_file, told, asked, Moment, History, Each, Since, Next, Passes, IsStill, IsSynced, IsSyncing, IsPrinted, IsAsked, IsReading}

each_append : (P : Moment → Type 0) (ms ns : List Moment) → Each P ms → Each P ns → Each P (ms ++ ns)
each_append P [] ns pm pn = pn
each_append P (m ∷ ms) ns pm pn = (pm.0, each_append P ms ns pm.1 pn)

each_weaker : (P Q : Moment → Type 0) (ms : List Moment) → ((m : Moment) → P m → Q m) → Each P ms → Each Q ms
each_weaker P Q [] f pm = tt
each_weaker P Q (m ∷ ms) f pm = (f m pm.0, each_weaker P Q ms f pm.1)

-- no moment passed
pub since_none : (P : Moment → Type 0) (h : History) → Since P h h
since_none P h = record { between = []; is = refl; each = tt }

pub since_weaker : {P Q : Moment → Type 0} {a b : History} → Since P a b → ((m : Moment) → P m → Q m) → Since Q a b
since_weaker {P} {Q} s f = record { between = s.between; is = s.is; each = each_weaker P Q s.between f s.each }

pub since_join : {P : Moment → Type 0} {a b c : History} → Since P a b → Since P b c → Since P a c
since_join {P} {a} {b} {c} ab bc =
    record {
      between = bc.between ++ ab.between;
      is = bc.is ∙ ap (λ (l : List Moment). bc.between ++ l) ab.is ∙ sym (append_assoc bc.between ab.between (a.now ∷ a.past));
      each = each_append P bc.between ab.between bc.each ab.each;
    }

abbrev first_of : Moment → List Moment → Moment
first_of m [] = m
first_of m (n ∷ ns) = n

now_of : (P : Moment → Type 0) (between rest : List Moment) (before now : Moment) (past : List Moment) → now ∷ past ≡ between ++ before ∷ rest → Each P between → (now ≡ before) ⊎ P now
now_of P [] rest before now past is each = inl (ap (first_of before) is)
now_of P (m ∷ ms) rest before now past is each = inr (subst P (sym (ap (first_of before) is)) each.0)

-- the present moment is that of before, or has the property of those that passed
pub since_now : {P : Moment → Type 0} {a b : History} → Since P a b → (b.now ≡ a.now) ⊎ P b.now
since_now {P} {a} {b} s = now_of P s.between a.past a.now b.now b.past s.is s.each

-- so the one moment that a call makes is one that has passed
pub next_since : {P : Moment → Type 0} {a b : History} → Next P a b → Since P a b
next_since {P} {a} {b} n = record { between = b.now ∷ []; is = ap (λ (l : List Moment). b.now ∷ l) n.past; each = (n.now, tt) }

pub same_since : {P : Moment → Type 0} {a b : History} → b ≡ a → Since P a b
same_since {P} {a} {b} is = record { between = []; is = ap (λ (h : History). h.now ∷ h.past) is; each = tt }

pub passes_since : {T : Type 0} {P : Moment → Type 0} {a b : History} (result : Result T HostFault) → Passes P result a b → Since P a b
passes_since (Ok x) n = next_since n
passes_since (Err Fault) n = next_since n
passes_since (Err NoMemory) n = elim n [ inl is ↦ same_since is | inr next ↦ next_since next ]

-- after an `Ok` the moment is the present one
pub passes_now : {T : Type 0} (P : Moment → Type 0) (a b : History) (result : Result T HostFault) → Passes P result a b → OnOk result (P b.now)
passes_now P a b (Ok x) n = n.now
passes_now P a b (Err e) n = tt

pub synced_now : {T : Type 0} (a b : History) (file : FileKind) (bytes : List ℕ) (result : Result T HostFault) → Passes (IsSyncing a.now file bytes result) result a b → OnOk result (IsSynced a.now file bytes b.now)
synced_now a b file bytes (Ok x) n = n.now
synced_now a b file bytes (Err e) n = tt

-- what a call on a file that changed nothing leaves of a moment
pub still_disks : {a b : History} → Since (IsStill a.now) a b → b.now.disks ≡ a.now.disks
still_disks s = elim (since_now s) [ inl is ↦ ap (λ (m : Moment). m.disks) is | inr is ↦ ap (λ (m : Moment). m.disks) is ]

-- handing over output leaves the disk as it was
pub told_disks : {a b : History} {bytes : List ℕ} → Since (IsPrinted a.now bytes) a b → b.now.disks ≡ a.now.disks
told_disks s = elim (since_now s) [ inl is ↦ ap (λ (m : Moment). m.disks) is | inr t ↦ ap (λ (m : Moment). m.disks) t.is ]

-- and so does asking for input
pub read_disks : {a b : History} → Since (IsReading a.now) a b → b.now.disks ≡ a.now.disks
read_disks s = elim (since_now s) [ inl is ↦ ap (λ (m : Moment). m.disks) is | inr t ↦ ap (λ (m : Moment). m.disks) t.is ]

-- a prefix of these bytes is one of these and more
pub told_more : (before m : Moment) (bytes more : List ℕ) → IsPrinted before bytes m → IsPrinted before (bytes ++ more) m
told_more before m bytes more t =
    record { piece = t.piece; rest = t.rest ++ more; is = t.is; whole = sym (append_assoc t.piece t.rest more) ∙ ap (λ (l : List ℕ). l ++ more) t.whole }

-- what is handed over behind what was
pub told_on : (before mid m : Moment) (piece rest bytes : List ℕ) → mid ≡ record before { out = before.out ++ piece; call = mid.call } → piece ++ rest ≡ bytes → IsPrinted mid rest m → IsPrinted before bytes m
told_on before mid m piece rest bytes is whole t = record {
  piece = piece ++ t.piece;
  rest = t.rest;
  is =
      t.is ∙ ap (λ (k : Moment). record k { out = k.out ++ t.piece; call = told }) is
      ∙ ap (λ (l : List ℕ). record before { out = l; call = told }) (append_assoc before.out piece t.piece);
  whole = append_assoc piece t.piece t.rest ∙ ap (λ (l : List ℕ). piece ++ l) t.whole ∙ whole;
}

-- one read is reading
pub asked_reading : (before m : Moment) (bytes : List ℕ) → IsAsked before bytes m → IsReading before m
asked_reading before m bytes is = record {
  given = [];
  bytes = bytes;
  is = is ∙ ap (λ (l : List ℕ). record before { taken = l ++ bytes; call = asked l }) (sym (append-nil before.taken));
}

-- and one behind others
reading_from : (before mid m : Moment) (read : List ℕ) → mid ≡ record before { taken = before.taken ++ read; call = mid.call } → IsReading mid m → IsReading before m
reading_from before mid m read is r = record {
  given = read ++ r.given;
  bytes = r.bytes;
  is =
      r.is ∙ ap (λ (k : Moment). record k { taken = k.taken ++ r.given ++ r.bytes; call = asked (k.taken ++ r.given) }) is
      ∙ ap (λ (l : List ℕ). record before { taken = l ++ r.bytes; call = asked l }) (append_assoc before.taken read r.given);
}

-- what was taken, whatever the last call was
reading_is : (before m : Moment) (r : IsReading before m) → m ≡ record before { taken = before.taken ++ (r.given ++ r.bytes); call = m.call }
reading_is before m r =
    r.is ∙ ap (λ (l : List ℕ). record before { taken = l; call = asked (before.taken ++ r.given) }) (append_assoc before.taken r.given r.bytes)
    ∙ ap (λ (c : Call). record before { taken = before.taken ++ (r.given ++ r.bytes); call = c }) (sym (ap (λ (k : Moment). k.call) r.is))

pub reading_on : {a b c : History} → Since (IsReading a.now) a b → Since (IsReading b.now) b c → Since (IsReading a.now) a c
reading_on {a} {b} {c} ab bc = since_join ab (since_weaker bc (λ m r. elim (since_now ab) [
  | inl is ↦ subst (λ (k : Moment). IsReading k m) is r
  | inr one ↦ reading_from a.now b.now m (one.given ++ one.bytes) (reading_is a.now b.now one) r
]))

-- one call on files after the other, none of which changed what the disk has
pub still_on : {a b c : History} → Since (IsStill a.now) a b → Since (IsStill b.now) b c → Since (IsStill a.now) a c
still_on {a} {b} {c} ab bc = since_join ab (since_weaker bc (λ m is. elim (since_now ab) [
  | inl same ↦ is ∙ ap (λ (k : Moment). record k { call = on_file }) same
  | inr one ↦ is ∙ ap (λ (k : Moment). record k { call = on_file }) one
]))
