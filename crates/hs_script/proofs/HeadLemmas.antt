-- The first group of a slot, as it is read.
use Rattle.std.proofs.Common.{◌≡◌, ◌≢◌, ℕ, Bool, true, false, List, ◌++◌, get_or, refl, sym, ap, subst, ◌∙◌, arith, codes}
use Rattle.std.specs.Fmt.{decimal}
use Rattle.std.proofs.lemmas.Bool.{eqb-false}
use Rattle.hs_claims.specs.declared.model.ControlKind.{ControlKind}
use Rattle.hs_claims.specs.declared.model.ControlKind.TheVariants as k
use Rattle.hs_valuetext.proofs.NumberLemmas.{same_front}
use Rattle.hs_valuetext.proofs.TextLemmas.{Alone}
use Rattle.hs_rowtext.specs.Numbers.{IsNumberAt}
use Rattle.hs_script.specs.declared.head.Head.{Head}
use Rattle.hs_script.specs.Heads.{control_text, last_text, settings_text, head_text, IsHead, IsHeadText, IsCountAt, IsControlAt}

-- ---- a count

as_number : (front text inner : List ℕ) → text ≡ front ++ inner → (n : ℕ) (rest : List ℕ) → IsCountAt front text n rest → IsNumberAt inner n rest
as_number front text inner e n rest h = record {
  lawful = h.lawful;
  written = same_front front inner (decimal n ++ rest) (sym e ∙ h.written);
  ends = h.ends;
}

as_count : (front text inner : List ℕ) → text ≡ front ++ inner → (n : ℕ) (rest : List ℕ) → IsNumberAt inner n rest → IsCountAt front text n rest
as_count front text inner e n rest h = record { lawful = h.lawful; written = e ∙ ap (λ (xs : List ℕ). front ++ xs) h.written; ends = h.ends }

pub count_from : (front text inner : List ℕ) → text ≡ front ++ inner → (n : ℕ) (rest : List ℕ) → IsNumberAt inner n rest → IsCountAt front text n rest
count_from = as_count

pub from_count : (front text inner : List ℕ) → text ≡ front ++ inner → (n : ℕ) (rest : List ℕ) → IsCountAt front text n rest → IsNumberAt inner n rest
from_count = as_number

pub count_unbegun : (front text : List ℕ) → ((inner : List ℕ) → text ≢ front ++ inner) → (n : ℕ) (rest : List ℕ) → ¬ (IsCountAt front text n rest)
count_unbegun front text other n rest h = other (decimal n ++ rest) h.written

-- ---- the model

differ : (at x y : ℕ) (xs ys : List ℕ) → x ≢ y → get_or xs at 0 ≡ x → get_or ys at 0 ≡ y → xs ≡ ys → ⊥
differ at x y xs ys not is there e = not (sym is ∙ ap (λ (zs : List ℕ). get_or zs at 0) e ∙ there)

pub control_alone : (text : List ℕ) (control : ControlKind) (rest : List ℕ) → IsControlAt text control rest → Alone (IsControlAt text) control rest
control_alone text control rest e = (e, λ other others h. same control other rest others (sym e ∙ h))
  where
    front : ControlKind → List ℕ
    front kind = codes "\nCONTROL " ++ (control_text kind ++ codes "\nLEVEL ")

    same : (kind other : ControlKind) (rest others : List ℕ) → codes "\nCONTROL " ++ (control_text kind ++ (codes "\nLEVEL " ++ rest)) ≡ codes "\nCONTROL " ++ (control_text other ++ (codes "\nLEVEL " ++ others)) → (other ≡ kind) × (others ≡ rest)
    same k.Locks k.Locks rest others h = (refl, sym (same_front (codes "\nCONTROL LOCKS\nLEVEL ") rest others h))
    same k.MvLocks k.MvLocks rest others h = (refl, sym (same_front (codes "\nCONTROL MVLOCKS\nLEVEL ") rest others h))
    same k.Mvcc k.Mvcc rest others h = (refl, sym (same_front (codes "\nCONTROL MVCC\nLEVEL ") rest others h))
    same k.Locks k.MvLocks rest others h = absurd (differ 9 76 77 _ _ (eqb-false 76 77 refl) refl refl h)
    same k.Locks k.Mvcc rest others h = absurd (differ 9 76 77 _ _ (eqb-false 76 77 refl) refl refl h)
    same k.MvLocks k.Locks rest others h = absurd (differ 9 77 76 _ _ (eqb-false 77 76 refl) refl refl h)
    same k.MvLocks k.Mvcc rest others h = absurd (differ 11 76 67 _ _ (eqb-false 76 67 refl) refl refl h)
    same k.Mvcc k.Locks rest others h = absurd (differ 9 77 76 _ _ (eqb-false 77 76 refl) refl refl h)
    same k.Mvcc k.MvLocks rest others h = absurd (differ 11 67 76 _ _ (eqb-false 67 76 refl) refl refl h)

pub control_none : (text : List ℕ) → ((rest : List ℕ) → text ≢ codes "\nCONTROL LOCKS\nLEVEL " ++ rest) → ((rest : List ℕ) → text ≢ codes "\nCONTROL MVLOCKS\nLEVEL " ++ rest) → ((rest : List ℕ) → text ≢ codes "\nCONTROL MVCC\nLEVEL " ++ rest) → (control : ControlKind) (rest : List ℕ) → ¬ (IsControlAt text control rest)
control_none text a b d k.Locks rest h = a rest h
control_none text a b d k.MvLocks rest h = b rest h
control_none text a b d k.Mvcc rest h = d rest h

-- ---- the level

pub level_known : (text : List ℕ) (s : Bool) → last_text s ≡ text → (last_text s ≡ text) × ((other : Bool) → last_text other ≡ text → other ≡ s)
level_known text s e = (e, λ other h. same s other (e ∙ sym h))
  where
    same : (s other : Bool) → last_text s ≡ last_text other → other ≡ s
    same true true h = refl
    same false false h = refl
    same true false h = absurd (differ 0 83 82 _ _ (eqb-false 83 82 refl) refl refl h)
    same false true h = absurd (differ 0 82 83 _ _ (eqb-false 82 83 refl) refl refl h)

pub level_none : (text : List ℕ) → text ≢ codes "SERIALIZABLE\n" → text ≢ codes "READ COMMITTED\n" → (s : Bool) → ¬ (last_text s ≡ text)
level_none text a b true h = a (sym h)
level_none text a b false h = b (sym h)

-- ---- the whole, part by part

abbrev pub behind_pages : Head → List ℕ
behind_pages h = settings_text h.control h.serializable

abbrev pub behind_changes : Head → List ℕ
behind_changes h = codes "\nPAGES " ++ (decimal h.pages ++ behind_pages h)

abbrev pub behind_commits : Head → List ℕ
behind_commits h = codes "\nCHANGES " ++ (decimal h.changes ++ behind_changes h)

-- all heads of this text agree with what was read, and have this rest
abbrev pub Agrees : List ℕ → (Head → Type 0) → Type 0
Agrees text P = (h : Head) → IsHeadText text h → P h

its_commits : (text : List ℕ) (h : Head) → IsHeadText text h → IsCountAt (codes "FORMAT 1\nCOMMITS ") text h.commits.0 (behind_commits h)
its_commits text h is =
    let lawful = is.lawful in
    record { lawful = omega (arith, lawful.commits, lawful.changes); written = is.written; ends = refl }

its_changes : (rest : List ℕ) (h : Head) → IsHead h → behind_commits h ≡ rest → IsCountAt (codes "\nCHANGES ") rest h.changes (behind_changes h)
its_changes rest h lawful e = record { lawful = omega (arith, lawful.changes); written = sym e; ends = refl }

its_pages : (rest : List ℕ) (h : Head) → IsHead h → behind_changes h ≡ rest → IsCountAt (codes "\nPAGES ") rest h.pages (behind_pages h)
its_pages rest h lawful e = record { lawful = omega (arith, lawful.pages); written = sym e; ends = refl }

pub commits_agree : (text rest : List ℕ) (commits : ℕ) → Alone (IsCountAt (codes "FORMAT 1\nCOMMITS ") text) commits rest → Agrees text (λ h. (h.commits.0 ≡ commits) × (behind_commits h ≡ rest))
commits_agree text rest commits found h is = found.1 h.commits.0 (behind_commits h) (its_commits text h is)

pub no_commits : (text : List ℕ) → ((n : ℕ) (rest : List ℕ) → ¬ (IsCountAt (codes "FORMAT 1\nCOMMITS ") text n rest)) → (h : Head) → ¬ (IsHeadText text h)
no_commits text none h is = none h.commits.0 (behind_commits h) (its_commits text h is)

pub changes_agree : (text middle rest : List ℕ) (changes : ℕ) → Agrees text (λ h. behind_commits h ≡ middle) → Alone (IsCountAt (codes "\nCHANGES ") middle) changes rest → Agrees text (λ h. (h.changes ≡ changes) × (behind_changes h ≡ rest))
changes_agree text middle rest changes before found h is = found.1 h.changes (behind_changes h) (its_changes middle h is.lawful (before h is))

pub no_changes : (text middle : List ℕ) → Agrees text (λ h. behind_commits h ≡ middle) → ((n : ℕ) (rest : List ℕ) → ¬ (IsCountAt (codes "\nCHANGES ") middle n rest)) → (h : Head) → ¬ (IsHeadText text h)
no_changes text middle before none h is = none h.changes (behind_changes h) (its_changes middle h is.lawful (before h is))

pub pages_agree : (text middle rest : List ℕ) (pages : ℕ) → Agrees text (λ h. behind_changes h ≡ middle) → Alone (IsCountAt (codes "\nPAGES ") middle) pages rest → Agrees text (λ h. (h.pages ≡ pages) × (behind_pages h ≡ rest))
pages_agree text middle rest pages before found h is = found.1 h.pages (behind_pages h) (its_pages middle h is.lawful (before h is))

pub no_pages : (text middle : List ℕ) → Agrees text (λ h. behind_changes h ≡ middle) → ((n : ℕ) (rest : List ℕ) → ¬ (IsCountAt (codes "\nPAGES ") middle n rest)) → (h : Head) → ¬ (IsHeadText text h)
no_pages text middle before none h is = none h.pages (behind_pages h) (its_pages middle h is.lawful (before h is))

pub control_agrees : (text middle rest : List ℕ) (control : ControlKind) → Agrees text (λ h. behind_pages h ≡ middle) → Alone (IsControlAt middle) control rest → Agrees text (λ h. (h.control ≡ control) × (last_text h.serializable ≡ rest))
control_agrees text middle rest control before found h is = found.1 h.control (last_text h.serializable) (sym (before h is))

pub no_control : (text middle : List ℕ) → Agrees text (λ h. behind_pages h ≡ middle) → ((control : ControlKind) (rest : List ℕ) → ¬ (IsControlAt middle control rest)) → (h : Head) → ¬ (IsHeadText text h)
no_control text middle before none h is = none h.control (last_text h.serializable) (sym (before h is))

pub no_level : (text rest : List ℕ) → Agrees text (λ h. last_text h.serializable ≡ rest) → ((s : Bool) → ¬ (last_text s ≡ rest)) → (h : Head) → ¬ (IsHeadText text h)
no_level text rest before none h is = none h.serializable (before h is)

-- what was read of a text
pub record IsRead (text : List ℕ) (made : Head) : Type 0 where
  pub after_commits : List ℕ
  pub after_changes : List ℕ
  pub after_pages : List ℕ
  pub after_control : List ℕ
  pub commits : Alone (IsCountAt (codes "FORMAT 1\nCOMMITS ") text) made.commits.0 after_commits
  pub changes : Alone (IsCountAt (codes "\nCHANGES ") after_commits) made.changes after_changes
  pub pages : Alone (IsCountAt (codes "\nPAGES ") after_changes) made.pages after_pages
  pub control : Alone (IsControlAt after_pages) made.control after_control
  pub level : (last_text made.serializable ≡ after_control) × ((s : Bool) → last_text s ≡ after_control → s ≡ made.serializable)

its_text : (text : List ℕ) (made : Head) → IsRead text made → text ≡ head_text made
its_text text made r =
    r.commits.0.written
    ∙ ap (λ (xs : List ℕ). codes "FORMAT 1\nCOMMITS " ++ (decimal made.commits.0 ++ xs)) r.changes.0.written
    ∙ ap (λ (xs : List ℕ). codes "FORMAT 1\nCOMMITS " ++ (decimal made.commits.0 ++ (codes "\nCHANGES " ++ (decimal made.changes ++ xs)))) r.pages.0.written
    ∙ ap (λ (xs : List ℕ). codes "FORMAT 1\nCOMMITS " ++ (decimal made.commits.0 ++ (codes "\nCHANGES " ++ (decimal made.changes ++ (codes "\nPAGES " ++ (decimal made.pages ++ xs)))))) (r.control.0 ∙ ap (λ (xs : List ℕ). codes "\nCONTROL " ++ (control_text made.control ++ (codes "\nLEVEL " ++ xs))) (sym r.level.0))

pub only_head : (text : List ℕ) (made : Head) → IsRead text made → (h : Head) → IsHeadText text h → h ≡ made
only_head text made r h is =
    let commits = commits_agree text r.after_commits made.commits.0 r.commits h is in
    let changes = r.changes.1 h.changes (behind_changes h) (its_changes r.after_commits h is.lawful commits.1) in
    let pages = r.pages.1 h.pages (behind_pages h) (its_pages r.after_changes h is.lawful changes.1) in
    let control = r.control.1 h.control (last_text h.serializable) (sym pages.1) in
    let level = r.level.1 h.serializable control.1 in
    λ i. record { commits = record { 0 = commits.0 i }; changes = changes.0 i; pages = pages.0 i; control = control.0 i; serializable = level i }

pub head_found : (text : List ℕ) (made : Head) → IsRead text made → IsHead made → IsHeadText text made × ((h : Head) → IsHeadText text h → h ≡ made)
head_found text made r lawful = (record { lawful = lawful; written = its_text text made r }, only_head text made r)

pub head_unlawful : (text : List ℕ) (made : Head) → IsRead text made → ¬ (IsHead made) → (h : Head) → ¬ (IsHeadText text h)
head_unlawful text made r not h is = not (subst IsHead (only_head text made r h is) is.lawful)
