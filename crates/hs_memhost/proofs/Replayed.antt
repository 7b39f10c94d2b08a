-- One call more.
use Rattle.std.proofs.Common.{◌≡◌, ℕ, Bool, true, cond, List, [], ◌∷◌, ◌++◌, Result, Ok, Err, OnOk, OnErr, refl, sym, ap, subst, ◌∙◌}
use Rattle.hs_host.specs.Files.{Five}
use Rattle.hs_host.specs.Moments.{History, Moment, Next}
use Rattle.hs_memhost.specs.declared.call.Call.{Call}
use Rattle.hs_memhost.specs.Replay.{State, first_state, after_call, after_calls, moments_before, files_after, history_of}
use Rattle.hs_memhost.specs.Devices.{Keeps}

pub after_push : (s : State) (calls : List Call) (call : Call) → after_calls s (calls ++ call ∷ []) ≡ after_call (after_calls s calls) call
after_push s [] call = refl
after_push s (c ∷ calls) call = after_push (after_call s c) calls call

before_push : (s : State) (calls : List Call) (call : Call) (past : List Moment) → moments_before s (calls ++ call ∷ []) past ≡ (after_calls s calls).moment ∷ moments_before s calls past
before_push s [] call past = refl
before_push s (c ∷ calls) call past = before_push (after_call s c) calls call (s.moment ∷ past)

pub pushed : (files : Five (List ℕ)) (old new : List Call) (call : Call) → new ≡ old ++ call ∷ [] → after_calls (first_state files) new ≡ after_call (after_calls (first_state files) old) call
pushed files old new call is = ap (after_calls (first_state files)) is ∙ after_push (first_state files) old call

-- its moment is the next one
pub next_pushed : (P : Moment → Type 0) (files : Five (List ℕ)) (old new : List Call) (call : Call) → new ≡ old ++ call ∷ [] → P (after_call (after_calls (first_state files) old) call).moment
    → Next P (history_of files old) (history_of files new)
next_pushed P files old new call is p = record {
  past = ap (λ (calls : List Call). moments_before (first_state files) calls []) is ∙ before_push (first_state files) old call [];
  now = subst P (sym (ap (λ (s : State). s.moment) (pushed files old new call is))) p;
}

-- a call that changes neither files nor output, kept or not
pub files_noted : {T E : Type 0} (files : Five (List ℕ)) (old new : List Call) (call : Call) (result : Result T E) → OnOk result (new ≡ old ++ call ∷ []) → OnErr result (new ≡ old)
    → ((s : State) → (after_call s call).files ≡ s.files) → files_after files new ≡ files_after files old
files_noted files old new call (Ok x) ok err same = ap (λ (s : State). s.files) (pushed files old new call ok) ∙ same (after_calls (first_state files) old)
files_noted files old new call (Err e) ok err same = ap (files_after files) err

pub out_noted : {T E : Type 0} (files : Five (List ℕ)) (old new : List Call) (call : Call) (result : Result T E) → OnOk result (new ≡ old ++ call ∷ []) → OnErr result (new ≡ old)
    → ((s : State) → (after_call s call).moment.out ≡ s.moment.out) → (history_of files new).now.out ≡ (history_of files old).now.out
out_noted files old new call (Ok x) ok err same = ap (λ (s : State). s.moment.out) (pushed files old new call ok) ∙ same (after_calls (first_state files) old)
out_noted files old new call (Err e) ok err same = ap (λ (calls : List Call). (history_of files calls).now.out) err

pub moment_noted : {T E : Type 0} (files : Five (List ℕ)) (old new : List Call) (call : Call) (result : Result T E) → OnOk result (new ≡ old ++ call ∷ []) → OnErr result (new ≡ old)
    → Keeps (λ m. m ≡ (after_call (after_calls (first_state files) old) call).moment) result (history_of files old) (history_of files new)
moment_noted files old new call (Ok x) ok err = next_pushed _ files old new call ok refl
moment_noted files old new call (Err e) ok err = ap (history_of files) err

-- where the files are kept twice
pub is_present : (b : Bool) (x present first : Five (List ℕ)) → b ≡ true → x ≡ cond b present first → x ≡ present
is_present b x present first copied is = is ∙ ap (λ (c : Bool). cond c present first) copied

pub if_copied : (b : Bool) (x present first : Five (List ℕ)) → b ≡ true → x ≡ present → x ≡ cond b present first
if_copied b x present first copied is = is ∙ sym (ap (λ (c : Bool). cond c present first) copied)

-- the same from a history that is this one
pub next_from : {P : Moment → Type 0} {old mid new : History} → mid ≡ old → Next P mid new → Next P old new
next_from {P} {old} {mid} {new} is n = subst (λ (h : History). Next P h new) is n
