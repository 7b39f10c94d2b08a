-- That a run knows what a log gives as one alone: a damage, an invalid database or a valid one.
use Rattle.std.proofs.Common.{◌≡◌, ◌<◌, ◌≤◌, inl, inr, ℕ, ◌+◌, Bool, true, false, List, [], ◌∷◌, ◌++◌, length, Option, None, Some, refl, sym, ap, subst, ◌∙◌, arith, append-nil, length-append}
use Rattle.std.proofs.lemmas.Bool.{cases_order}
use Rattle.std.proofs.lemmas.Option.{same_Some}
use Rattle.hs_log.specs.Log.{is_born, is_broken, texts_of}
use Rattle.hs_run.proofs.Prefixes.{split_front}
use Rattle.hs_program.specs.Damaged.{GivesOneAlone, IsDamagedAlone, IsDamagedAt, IsFirstDamage, IsInvalidAlone, IsOnlyDamage, MakesNothing}
use Rattle.hs_program.specs.Lawful.{IsLawful}
use Rattle.hs_program.specs.Meaning.{Meaning, Opened, nothing_logged}
use Rattle.hs_program.specs.Opening.{AreMadeOnly, AreRedone, HasFirstEpoch, IsMade, texts_at}
use Rattle.hs_program.proofs.Replayed.{born_texts, only_first, only_one, redone_apart, unborn_gives, unborn_only}

abbrev nothing : Option (List ℕ)
nothing = None

never : {A : Type 0} (name : List ℕ) → nothing ≡ Some name → A
never name is = absurd (cc)

module _ (m : Meaning) where
  -- texts make one thing at most
  abbrev MakeOne : List (List ℕ) → Type 0
  MakeOne texts = (a b : Opened) → AreRedone m (nothing_logged m) texts a → AreRedone m (nothing_logged m) texts b → a ≡ b

  -- so it is of the first ones of texts that make one thing alone
  firsts_one : (all behind front rest : List (List ℕ)) (last : Opened) → AreMadeOnly m (nothing_logged m) all last → all ++ behind ≡ front ++ rest → length front ≤ length all → MakeOne front
  firsts_one all behind front rest last only is long a b =
      let parts = split_front all behind front rest is long in
      let first = only_first m front parts.0 (nothing_logged m) last (subst (λ ts. AreMadeOnly m (nothing_logged m) ts last) parts.1.0 only) in
      only_one m front (nothing_logged m) first.0 a b first.1

  -- what stands from the first damaged text on
  behind : (texts : List (List ℕ)) (broken : Bool) (n : ℕ) (f : IsFirstDamage m texts broken n) → (more : List (List ℕ)) × (texts ≡ f.good ++ more)
  behind texts broken n f = elim f.next [
    | inl next ↦ (next.text ∷ next.rest, next.is)
    | inr all ↦ ([], all.0 ∙ sym (append-nil f.good))
  ]

  -- where a text makes nothing, none is made again behind it
  stops : (front more rest : List (List ℕ)) (text : List ℕ) (o p : Opened) → ((next : Opened) → ¬ (m.Redone o text next)) → front ++ more ≡ text ∷ rest → AreRedone m o front p → length front ≡ 0
  stops [] more rest text o p none is made = refl
  stops (t ∷ front) more rest text o p none is made =
      let same : t ≡ text = cc in absurd (none made.0 (subst (λ x. m.Redone o x made.0) same made.1))

  -- no text in front of a damaged one is damaged
  never_before : (texts : List (List ℕ)) (broken : Bool) (a b : ℕ) (one : IsFirstDamage m texts broken a) → MakeOne one.good → IsFirstDamage m texts broken b → a < b → ⊥
  never_before texts broken a b one alone other less = elim one.next [ inl next ↦ made_again next | inr all ↦ too_long all.0 ]
    where
      more : (l : List (List ℕ)) × (texts ≡ other.good ++ l)
      more = behind texts broken b other

      made_again : MakesNothing m texts one.good one.opened → ⊥
      made_again next =
          let parts = split_front other.good more.0 one.good (next.text ∷ next.rest) (sym more.1 ∙ next.is) (omega (arith, one.count, other.count, less)) in
          let apart = redone_apart m one.good parts.0 (nothing_logged m) other.opened (subst (λ ts. AreRedone m (nothing_logged m) ts other.opened) parts.1.0 other.made) in
          let same : apart.0 ≡ one.opened = alone apart.0 one.opened apart.1 one.made in
          let none = stops parts.0 more.0 next.rest next.text one.opened other.opened next.none parts.1.1 (subst (λ o. AreRedone m o parts.0 other.opened) same apart.2) in
          absurd (omega (arith, one.count, other.count, less, none, ap length parts.1.0, length-append one.good parts.0))

      too_long : texts ≡ one.good → ⊥
      too_long is = absurd (omega (arith, one.count, other.count, less, ap length is, ap length more.1, length-append other.good more.0))

  -- texts that are all made again have no damage
  all_whole : (texts : List (List ℕ)) (broken : Bool) (number : ℕ) (opened : Opened) → AreRedone m (nothing_logged m) texts opened → broken ≡ false → (first : IsFirstDamage m texts broken number) → MakeOne first.good → ⊥
  all_whole texts broken number opened made whole first alone = elim first.next [ inl next ↦ made_again next | inr all ↦ (let e : true ≡ false = sym all.1 ∙ whole in absurd (cc)) ]
    where
      made_again : MakesNothing m texts first.good first.opened → ⊥
      made_again next =
          let apart = redone_apart m first.good (next.text ∷ next.rest) (nothing_logged m) opened (subst (λ ts. AreRedone m (nothing_logged m) ts opened) next.is made) in
          let same : apart.0 ≡ first.opened = alone apart.0 first.opened apart.1 first.made in
          next.none apart.2.0 (subst (λ o. m.Redone o next.text apart.2.0) same apart.2.1)

  -- ---- of a log whose texts make one thing alone
  module _ (log : List ℕ) (opened : Opened) (is : IsMade m log opened) (only : AreMadeOnly m (nothing_logged m) (texts_at log) opened) where
    same : (other : Opened) → IsMade m log other → other ≡ opened
    same other made = only_one m (texts_at log) (nothing_logged m) opened other opened only made.made is.made

    undamaged : (number : ℕ) → IsDamagedAt m log number → ⊥
    undamaged number damaged = elim damaged.damage [ inl header ↦ header.1 (is.header damaged.born) | inr texts ↦ made_again texts.1 ]
      where
        texts : texts_at log ≡ texts_of log
        texts = born_texts log damaged.born

        made_again : IsFirstDamage m (texts_of log) (is_broken log) number → ⊥
        made_again first =
            let more = behind (texts_of log) (is_broken log) number first in
            all_whole (texts_of log) (is_broken log) number opened (subst (λ ts. AreRedone m (nothing_logged m) ts opened) texts is.made) (is.whole damaged.born) first
            (firsts_one (texts_of log) [] first.good more.0 opened (subst (λ ts. AreMadeOnly m (nothing_logged m) ts opened) texts only)
            (append-nil (texts_of log) ∙ more.1) (omega (arith, ap length more.1, length-append first.good more.0)))

    pub valid_alone : m.violated opened ≡ None → GivesOneAlone m log
    valid_alone valid = record {
      one = λ a b one other. same a one.made ∙ sym (same b other.made);
      whole = undamaged;
      valid = λ name invalid. never name (sym valid ∙ ap (λ o. m.violated o) (sym (same invalid.opened invalid.made)) ∙ invalid.violates);
    }

    pub invalid_alone : (name : List ℕ) → m.violated opened ≡ Some name → IsInvalidAlone m log name
    invalid_alone name violates = record {
      one = λ other invalid. same_Some other name (sym invalid.violates ∙ ap (λ o. m.violated o) (same invalid.opened invalid.made) ∙ violates);
      nothing = λ other gives. never name (sym gives.valid ∙ ap (λ o. m.violated o) (same other gives.made) ∙ violates);
      whole = undamaged;
    }

  -- ---- of one that is damaged
  module _ (log : List ℕ) (born : is_born log ≡ true) where
    pub header_alone : (number : ℕ) → number ≡ 0 → ¬ (HasFirstEpoch log) → IsDamagedAlone m log number
    header_alone number zero none = record {
      one = λ other damaged. elim damaged.damage [ inl header ↦ header.0 ∙ sym zero | inr texts ↦ absurd (none texts.0) ];
      nothing = λ opened gives. none (gives.made.header born);
      valid = λ name invalid. none (invalid.made.header born);
    }

    module _ (first : HasFirstEpoch log) (number : ℕ) (found : IsOnlyDamage m (texts_of log) (is_broken log) number) where
      alone : MakeOne found.first.good
      alone a b = only_one m found.first.good (nothing_logged m) found.first.opened a b found.only

      one : (other : ℕ) → IsFirstDamage m (texts_of log) (is_broken log) other → other ≡ number
      one other there = elim (cases_order other number) [
        | inl same ↦ same
        | inr (inl less) ↦ absurd (never_before (texts_of log) (is_broken log) other number there (before less) found.first less)
        | inr (inr less) ↦ absurd (never_before (texts_of log) (is_broken log) number other found.first alone there less)
      ]
        where
          before : other < number → MakeOne there.good
          before less =
              let here = behind (texts_of log) (is_broken log) number found.first in
              let further = behind (texts_of log) (is_broken log) other there in
              firsts_one found.first.good here.0 there.good further.0 found.first.opened found.only (sym here.1 ∙ further.1) (omega (arith, found.first.count, there.count, less))

      unmade : (opened : Opened) → IsMade m log opened → ⊥
      unmade opened made =
          all_whole (texts_of log) (is_broken log) number opened (subst (λ ts. AreRedone m (nothing_logged m) ts opened) (born_texts log born) made.made) (made.whole born) found.first alone

      pub texts_alone : IsDamagedAlone m log number
      texts_alone = record {
        one = λ other damaged. elim damaged.damage [ inl header ↦ absurd (header.1 first) | inr texts ↦ one other texts.1 ];
        nothing = λ opened gives. unmade opened gives.made;
        valid = λ name invalid. unmade invalid.opened invalid.made;
      }

  -- ---- of one that isn't born
  pub unborn_alone : IsLawful m → (log : List ℕ) → is_born log ≡ false → GivesOneAlone m log
  unborn_alone law log unborn = valid_alone log (nothing_logged m) (unborn_gives m law log unborn).made (unborn_only m log unborn) law.starts

  -- ---- which number a damage has
  pub damaged_group : (log : List ℕ) (before : ℕ) → IsDamagedAt m log (before + 1) → IsFirstDamage m (texts_of log) (is_broken log) (before + 1)
  damaged_group log before is = elim is.damage [ inl header ↦ absurd (omega (arith, header.0)) | inr texts ↦ texts.1 ]

  pub damaged_header : (log : List ℕ) → IsDamagedAt m log 0 → (is_born log ≡ true) × ¬ (HasFirstEpoch log)
  damaged_header log is = elim is.damage [ inl header ↦ (is.born, header.1) | inr texts ↦ absurd (omega (arith, texts.1.count)) ]

  pub header_damaged : (log : List ℕ) → is_born log ≡ true → ¬ (HasFirstEpoch log) → IsDamagedAt m log 0
  header_damaged log born none = record { born = born; damage = inl (refl, none) }
