-- What texts make that are made again one after another, and what a log gives.
use Rattle.std.proofs.Common.{◌≡◌, ℕ, ◌+◌, true, false, cond, List, [], ◌∷◌, ◌++◌, length, None, refl, sym, ap, subst, ◌∙◌, arith}
use Rattle.hs_log.specs.Log.{IsLogOf, IsWholeLog, is_born, is_broken, texts_of}
use Rattle.hs_log.proofs.Logs.{log_parts}
use Rattle.hs_program.specs.Crash.{GivesSame}
use Rattle.hs_program.specs.Lawful.{IsLawful, IsSound}
use Rattle.hs_program.specs.Meaning.{Meaning, Opened, nothing_logged}
use Rattle.hs_program.specs.Opening.{AreMadeOnly, AreRedone, HasFirstEpoch, IsMade, IsOpened, MakesOnly, texts_at}

pub unborn_texts : (log : List ℕ) → is_born log ≡ false → texts_at log ≡ []
unborn_texts log unborn = ap (λ b. cond b (texts_of log) []) unborn

-- the texts of a born log
pub born_texts : (log : List ℕ) → is_born log ≡ true → texts_at log ≡ texts_of log
born_texts log born = ap (λ b. cond b (texts_of log) []) born

-- a log that wasn't born has no header
pub unborn_never : {A : Type 0} (log : List ℕ) → is_born log ≡ false → is_born log ≡ true → A
unborn_never log unborn born = absurd (let e : true ≡ false = sym born ∙ unborn in cc)

module _ (m : Meaning) where
  -- texts behind those that made something go on from there
  pub redone_behind : (ts more : List (List ℕ)) (o p q : Opened) → AreRedone m o ts p → AreRedone m p more q → AreRedone m o (ts ++ more) q
  redone_behind [] more o p q first behind = subst (λ x. AreRedone m x more q) first behind
  redone_behind (t ∷ ts) more o p q first behind = (first.0, first.1, redone_behind ts more first.0 p q first.2 behind)

  -- and where all are made again, the first ones are, and then the others
  pub redone_apart : (ts more : List (List ℕ)) (o q : Opened) → AreRedone m o (ts ++ more) q → (p : Opened) × AreRedone m o ts p × AreRedone m p more q
  redone_apart [] more o q all = (o, refl, all)
  redone_apart (t ∷ ts) more o q all = let rest = redone_apart ts more all.0 q all.2 in (rest.0, (all.0, all.1, rest.1), rest.2)

  -- ---- texts that make one thing alone

  pub only_redone : (ts : List (List ℕ)) (o p : Opened) → AreMadeOnly m o ts p → AreRedone m o ts p
  only_redone [] o p is = is
  only_redone (t ∷ ts) o p is = (is.0, is.1.made, only_redone ts is.0 p is.2)

  -- whatever they make is this
  only_is : (ts : List (List ℕ)) (o p q : Opened) → AreMadeOnly m o ts p → AreRedone m o ts q → q ≡ p
  only_is [] o p q only made = made ∙ sym only
  only_is (t ∷ ts) o p q only made = only_is ts only.0 p q only.2 (subst (λ x. AreRedone m x ts q) (only.1.only made.0 made.1) made.2)

  pub only_one : (ts : List (List ℕ)) (o p a b : Opened) → AreMadeOnly m o ts p → AreRedone m o ts a → AreRedone m o ts b → a ≡ b
  only_one ts o p a b only one other = only_is ts o p a only one ∙ sym (only_is ts o p b only other)

  -- so do the first ones of them
  pub only_first : (ts more : List (List ℕ)) (o q : Opened) → AreMadeOnly m o (ts ++ more) q → (p : Opened) × AreMadeOnly m o ts p
  only_first [] more o q all = (o, refl)
  only_first (t ∷ ts) more o q all = let rest = only_first ts more all.0 q all.2 in (rest.0, (all.0, all.1, rest.1))

  -- and one more
  pub only_more : (ts : List (List ℕ)) (t : List ℕ) (o p q : Opened) → AreMadeOnly m o ts p → MakesOnly m p t q → AreMadeOnly m o (ts ++ t ∷ []) q
  only_more [] t o p q first one = (q, subst (λ x. MakesOnly m x t q) first one, refl)
  only_more (s ∷ ts) t o p q first one = (first.0, first.1, only_more ts t first.0 p q first.2 one)

  module _ (law : IsLawful m) where
    -- there are as many commits as texts
    pub counted : (ts : List (List ℕ)) (o p : Opened) → AreRedone m o ts p → p.commits ≡ o.commits + length ts
    counted [] o p is = let same : p.commits ≡ o.commits = ap (λ x. x.commits) is in omega (arith, same)
    counted (t ∷ ts) o p is = omega (arith, counted ts is.0 p is.2, law.counts o is.0 t is.1)

  -- ---- what a log gives
  pub made_of : (log : List ℕ) (opened : Opened) → is_born log ≡ true → HasFirstEpoch log → is_broken log ≡ false → AreRedone m (nothing_logged m) (texts_of log) opened → IsMade m log opened
  made_of log opened born header whole made = record {
    header = λ b. header;
    whole = λ b. whole;
    made = subst (λ ts. AreRedone m (nothing_logged m) ts opened) (sym (born_texts log born)) made;
  }

  -- a log of the program gives what its texts give
  pub log_gives : (log : List ℕ) (texts : List (List ℕ)) (opened : Opened) → IsLogOf 1 texts log → AreRedone m (nothing_logged m) texts opened → m.violated opened ≡ None → IsOpened m log opened
  log_gives log texts opened is made valid =
      let parts = log_parts 1 texts log is in
      record { made = made_of log opened parts.0 parts.1 parts.3 (subst (λ ts. AreRedone m (nothing_logged m) ts opened) (sym parts.2) made); valid = valid }

  -- what a log gives is what a run may begin with
  pub opened_sound : (log : List ℕ) (opened : Opened) → IsOpened m log opened → IsSound m opened
  opened_sound log opened is = record { reached = (texts_at log, is.made.made); valid = is.valid }

  -- one that isn't born has no texts
  pub unborn_only : (log : List ℕ) → is_born log ≡ false → AreMadeOnly m (nothing_logged m) (texts_at log) (nothing_logged m)
  unborn_only log unborn = subst (λ ts. AreMadeOnly m (nothing_logged m) ts (nothing_logged m)) (sym (unborn_texts log unborn)) refl

  unborn_one : (log : List ℕ) (opened : Opened) → is_born log ≡ false → IsMade m log opened → opened ≡ nothing_logged m
  unborn_one log opened unborn is = subst (λ ts. AreRedone m (nothing_logged m) ts opened) (unborn_texts log unborn) is.made

  module _ (law : IsLawful m) where
    pub unborn_gives : (log : List ℕ) → is_born log ≡ false → IsOpened m log (nothing_logged m)
    unborn_gives log unborn = record {
      made = record {
        header = λ born. unborn_never log unborn born;
        whole = λ born. unborn_never log unborn born;
        made = subst (λ ts. AreRedone m (nothing_logged m) ts (nothing_logged m)) (sym (unborn_texts log unborn)) refl;
      };
      valid = law.starts;
    }

    -- a new log gives no more than an unborn one
    pub new_same : (old new : List ℕ) → is_born old ≡ false → IsWholeLog 1 [] new → GivesSame m old new
    new_same old new unborn whole =
        let parts = log_parts 1 [] new whole.log in (
          λ opened is. subst (IsOpened m new) (sym (unborn_one old opened unborn is.made)) (log_gives new [] (nothing_logged m) whole.log refl law.starts),
          born_texts new parts.0 ∙ parts.2 ∙ sym (unborn_texts old unborn),
        )
