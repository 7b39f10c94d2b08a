-- What reading the input does to the moments of a host in memory.
use Rattle.std.proofs.Common.{◌≡◌, ◌⊎◌, ℕ, suc, List, [], ◌∷◌, ◌++◌, length, inl, inr, refl, sym, ◌∙◌, ap, arith, append_assoc}
use Rattle.hs_host.specs.Moments.{History, Moment, Since, Next, IsAsked, IsReading}
use Rattle.hs_host.proofs.Passing.{since_none, since_weaker, next_since, same_since, asked_reading, reading_on}

-- From one history and input to another: input alone was asked for, and what is no longer there was taken.
pub record Reads (old : History) (before : List ℕ) (new : History) (after : List ℕ) : Type 0 where
  pub moments : Since (IsReading old.now) old new
  pub taken : new.now.taken ++ after ≡ old.now.taken ++ before

pub reads_none : (h : History) (l : List ℕ) → Reads h l h l
reads_none h l = record { moments = since_none (IsReading h.now) h; taken = refl }

pub reads_then : (a b c : History) (k l m : List ℕ) → Reads a k b l → Reads b l c m → Reads a k c m
reads_then a b c k l m ab bc = record { moments = reading_on ab.moments bc.moments; taken = bc.taken ∙ ab.taken }

-- One call asked for input and took these bytes. At want of memory no moment may stand for it.
abbrev pub TakesAtOnce : List ℕ → History → History → Type 0
TakesAtOnce bytes old new = ((bytes ≡ []) × (new ≡ old)) ⊎ Next (IsAsked old.now bytes) old new

pub takes_reads : (a b : History) (bytes k l : List ℕ) → k ≡ bytes ++ l → TakesAtOnce bytes a b → Reads a k b l
takes_reads a b bytes k l is (inl none) = record {
  moments = same_since none.1;
  taken = ap (λ (h : History). h.now.taken ++ l) none.1 ∙ ap (λ (x : List ℕ). a.now.taken ++ x) (sym (is ∙ ap (λ (x : List ℕ). x ++ l) none.0));
}
takes_reads a b bytes k l is (inr next) = record {
  moments = since_weaker (next_since next) (λ m is. asked_reading a.now m bytes is);
  taken = ap (λ (m : Moment). m.taken ++ l) next.now ∙ append_assoc a.now.taken bytes l ∙ ap (λ (x : List ℕ). a.now.taken ++ x) (sym is);
}

not_longer : (m : Moment) (past : List Moment) → past ≡ m ∷ past → ⊥
not_longer m past is = omega (arith, ap length is)

-- where a moment was made, it is that of the call
pub takes_next : (a b : History) (bytes : List ℕ) → TakesAtOnce bytes a b → b.past ≡ a.now ∷ a.past → Next (IsAsked a.now bytes) a b
takes_next a b bytes (inl none) made = absurd (not_longer a.now a.past (sym (ap (λ (h : History). h.past) none.1) ∙ made))
takes_next a b bytes (inr next) made = next
