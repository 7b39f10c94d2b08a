-- The commits of a log, while they are made again.
use Rattle.std.proofs.Common.{◌≡◌, inl, inr, ℕ, ◌+◌, true, false, List, [], ◌∷◌, ◌++◌, length, None, Some, refl, ap, ◌∙◌, sym, subst, arith, append_assoc, append-nil, length-append}
use Rattle.hs_host.specs.declared.source.Source as source
use Rattle.hs_host.specs.declared.host.Host as host
use Rattle.hs_host.specs.Used.{Told}
use Rattle.hs_log.specs.Log.{is_broken}
use Rattle.hs_log.specs.LogReading.{count_in, left_in}
use Rattle.hs_log.specs.declared.log_reader.LogReader.{LogReader}
use Rattle.hs_program.specs.Damaged.{IsOnlyDamage}
use Rattle.hs_program.specs.Lawful.{IsLawful, IsStanding}
use Rattle.hs_program.specs.Meaning.{Meaning, Opened, nothing_logged}
use Rattle.hs_program.specs.Opening.{AreMadeOnly, IsReached, MakesOnly}
use Rattle.hs_program.specs.Run.{AllMade, MakeInvalid, Redoes}
use Rattle.hs_program.proofs.Replayed.{counted, only_more, only_redone}

module _ {E H : Type 0} (m : Meaning) (stands_for : E → Opened → Type 0) (s : source.Ghosts H) (g : host.Ghosts H) (reader : LogReader) (old : H) where
  -- an engine stands for what the texts made that were read so far, and they made nothing else
  pub record IsReplaying (now : LogReader) (engine : E) : Type 0 where
    pub opened : Opened
    pub stands : stands_for engine opened
    pub texts : List (List ℕ)
    pub made : AreMadeOnly m (nothing_logged m) texts opened
    pub counted : length texts ≡ count_in now
    pub so_far : Told s g old → texts ++ left_in now (g.files old).log ≡ left_in reader (g.files old).log

  pub replaying_first : (engine : E) → stands_for engine (nothing_logged m) → count_in reader ≡ 0 → IsReplaying reader engine
  replaying_first engine stands none = record {
    opened = nothing_logged m;
    stands = stands;
    texts = [];
    made = refl;
    counted = sym none;
    so_far = λ told. refl;
  }

  module _ (now : LogReader) (engine : E) (r : IsReplaying now engine) where
    abbrev reached : IsReached m r.opened
    reached = (r.texts, only_redone m r.texts (nothing_logged m) r.opened r.made)

    abbrev pub standing : IsStanding m stands_for engine
    standing = record { opened = r.opened; stands = r.stands; reached = reached }

    pub so_many : IsLawful m → r.opened.commits ≡ count_in now
    so_many law = omega (arith, counted m law r.texts (nothing_logged m) r.opened reached.1, r.counted)

    -- one more was made again
    pub replaying_on : (new : LogReader) (after : E) (text : List ℕ) (next : Opened) → MakesOnly m r.opened text next → stands_for after next → count_in new ≡ count_in now + 1
        → (Told s g old → left_in now (g.files old).log ≡ text ∷ left_in new (g.files old).log) → IsReplaying new after
    replaying_on new after text next made stands count takes = record {
      opened = next;
      stands = stands;
      texts = r.texts ++ text ∷ [];
      made = only_more m r.texts text (nothing_logged m) r.opened next r.made made;
      counted = omega (arith, length-append r.texts (text ∷ []), r.counted, count);
      so_far = λ told. append_assoc r.texts (text ∷ []) (left_in new (g.files old).log) ∙ ap (λ ts. r.texts ++ ts) (sym (takes told)) ∙ r.so_far told;
    }

    -- one can't be
    pub replaying_stops : (text : List ℕ) (rest : List (List ℕ)) (number : ℕ) → ((next : Opened) → ¬ (m.Redone r.opened text next)) → number ≡ count_in now + 1 → Told s g old
        → left_in now (g.files old).log ≡ text ∷ rest → IsOnlyDamage m (left_in reader (g.files old).log) (is_broken (g.files old).log) number
    replaying_stops text rest number none count told takes = record {
      first = record {
        good = r.texts;
        opened = r.opened;
        count = omega (arith, r.counted, count);
        made = reached.1;
        next = inl (record { text = text; rest = rest; is = sym (r.so_far told) ∙ ap (λ ts. r.texts ++ ts) takes; none = none });
      };
      only = r.made;
    }

    -- where none is left, these were all
    all_read : Told s g old → left_in now (g.files old).log ≡ [] → left_in reader (g.files old).log ≡ r.texts
    all_read told none = sym (r.so_far told) ∙ ap (λ ts. r.texts ++ ts) none ∙ append-nil r.texts

    -- one behind them isn't whole
    pub replaying_breaks : (number : ℕ) → number ≡ count_in now + 1 → Told s g old → left_in now (g.files old).log ≡ [] → is_broken (g.files old).log ≡ true
        → IsOnlyDamage m (left_in reader (g.files old).log) (is_broken (g.files old).log) number
    replaying_breaks number count told none breaks = record {
      first = record {
        good = r.texts;
        opened = r.opened;
        count = omega (arith, r.counted, count);
        made = reached.1;
        next = inr (all_read told none, breaks);
      };
      only = r.made;
    }

    -- all were
    all_made : Told s g old → (left_in now (g.files old).log ≡ []) × (is_broken (g.files old).log ≡ false) → AllMade m reader (g.files old).log r.opened
    all_made told ends = (subst (λ ts. AreMadeOnly m (nothing_logged m) ts r.opened) (sym (all_read told ends.0)) r.made, ends.1)

    pub replaying_ends : m.violated r.opened ≡ None → (Told s g old → (left_in now (g.files old).log ≡ []) × (is_broken (g.files old).log ≡ false)) → Redoes m stands_for s g reader old engine
    replaying_ends valid ends = record {
      opened = r.opened;
      stands = r.stands;
      sound = record { reached = reached; valid = valid };
      is = λ told. all_made told (ends told);
    }

    -- and violate a constraint
    pub replaying_violates : (name : List ℕ) → m.violated r.opened ≡ Some name → Told s g old → (left_in now (g.files old).log ≡ []) × (is_broken (g.files old).log ≡ false) → MakeInvalid m reader (g.files old).log name
    replaying_violates name violates told ends = record { opened = r.opened; made = all_made told ends; violates = violates }
