-- The definitions of a catalogue, as they are read.
use Rattle.std.proofs.Common.{◌≡◌, ◌≢◌, ℕ, ◌<◌, List, [], ◌∷◌, length, refl, sym, ap, subst, arith}
use Rattle.hs_plan.specs.declared.definition.Definition.{Definition}
use Rattle.hs_schema.specs.Catalogue.{Things, after}
use Rattle.hs_valuetext.proofs.TextLemmas.{Alone}
use Rattle.hs_tabletext.specs.Conditions.{Wording}
use Rattle.hs_committext.specs.Definitions.{IsDefinitionText}
use Rattle.hs_script.specs.Numbered.{IsRunAt}
use Rattle.hs_script.specs.Definitions.{Numbered, May, Fits, IsNumberedText, AreMade, Makes, IsCatalogueText}
use Rattle.hs_script.proofs.NumberedLemmas.{run_shorter}

-- ---- one definition

pub numbered_known : (wording : Wording) (things : Things) (text said rest : List ℕ) (number : ℕ) (definition : Definition) → Alone (IsRunAt text) (number, said) rest → IsDefinitionText wording things said definition × ((d : Definition) → IsDefinitionText wording things said d → d ≡ definition) → Alone (IsNumberedText wording things text) (number, definition) rest
numbered_known wording things text said rest number definition found known = (
  record { said = said; run = found.0; of = known.0 },
  λ n others h.
      let same = found.1 (n.0, h.said) others h.run in
      let number_is : n.0 ≡ number = ap (λ (p : ℕ × List ℕ). p.0) same.0 in
      let said_is : h.said ≡ said = ap (λ (p : ℕ × List ℕ). p.1) same.0 in
      let of : IsDefinitionText wording things said n.1 = subst (λ (t : List ℕ). IsDefinitionText wording things t n.1) said_is h.of in
      let definition_is : n.1 ≡ definition = known.1 n.1 of in
      ((λ i. (number_is i, definition_is i)), same.1),
)

pub numbered_unknown : (wording : Wording) (things : Things) (text said rest : List ℕ) (number : ℕ) → Alone (IsRunAt text) (number, said) rest → ((d : Definition) → ¬ (IsDefinitionText wording things said d)) → (n : Numbered) (others : List ℕ) → ¬ (IsNumberedText wording things text n others)
numbered_unknown wording things text said rest number found none n others h =
    let same = found.1 (n.0, h.said) others h.run in
    let said_is : h.said ≡ said = ap (λ (p : ℕ × List ℕ). p.1) same.0 in
    none n.1 (subst (λ (t : List ℕ). IsDefinitionText wording things t n.1) said_is h.of)

pub numbered_missing : (wording : Wording) (things : Things) (text : List ℕ) → ((p : ℕ × List ℕ) (rest : List ℕ) → ¬ (IsRunAt text p rest)) → (n : Numbered) (others : List ℕ) → ¬ (IsNumberedText wording things text n others)
numbered_missing wording things text none n others h = none (n.0, h.said) others h.run

-- ---- one behind another

module _ (wording : Wording) (may : May) (most : ℕ) where
  -- the catalogues that are meant are those that the rest makes of what was made
  pub record SameMade (text : List ℕ) (things : Things) (rest : List ℕ) : Type 0 where
    pub onward : (all : Things) → IsCatalogueText wording may most text all → Makes wording may most things rest all
    pub back : (all : Things) → Makes wording may most things rest all → IsCatalogueText wording may most text all

  pub same_made : (text : List ℕ) (none : Things) → none ≡ [] → SameMade text none text
  same_made text none empty = record {
    onward = λ all h. subst (λ (ts : Things). Makes wording may most ts text all) (sym empty) h;
    back = λ all h. subst (λ (ts : Things). Makes wording may most ts text all) empty h;
  }

  -- the first definition of such a rest is the one at its front
  record Cut (things : Things) (rest more : List ℕ) (n : Numbered) (all : Things) : Type 0 where
    fits : Fits may most things n
    others : Makes wording may most (after things n.1 n.0) more all

  cut : (things : Things) (rest more : List ℕ) (n : Numbered) → rest ≢ [] → Alone (IsNumberedText wording things rest) n more → (all : Things) → (made : List Numbered) → AreMade wording may most things made rest all → Cut things rest more n all
  cut things rest more n some found all [] h = absurd (some h.0)
  cut things rest more n some found all (m ∷ ms) h =
      let same = found.1 m h.rest h.at in
      let there : Makes wording may most (after things m.1 m.0) h.rest all = record { made = ms; are = h.others } in
      let by_rest : Makes wording may most (after things m.1 m.0) more all = subst (λ (r : List ℕ). Makes wording may most (after things m.1 m.0) r all) same.1 there in
      record {
        fits = subst (λ (x : Numbered). Fits may most things x) same.0 h.fits;
        others = subst (λ (x : Numbered). Makes wording may most (after things x.1 x.0) more all) same.0 by_rest;
      }

  pub made_more : (text : List ℕ) (things new : Things) (rest more : List ℕ) (n : Numbered) → SameMade text things rest → rest ≢ [] → Alone (IsNumberedText wording things rest) n more → Fits may most things n → new ≡ after things n.1 n.0 → SameMade text new more
  made_more text things new rest more n so_far some found fits is = record {
    onward = λ all h.
        let before = so_far.onward all h in
        let parts = cut things rest more n some found all before.made before.are in
        subst (λ (ts : Things). Makes wording may most ts more all) (sym is) parts.others;
    back = λ all h.
        let there : Makes wording may most (after things n.1 n.0) more all = subst (λ (ts : Things). Makes wording may most ts more all) is h in
        so_far.back all (record { made = n ∷ there.made; are = record { rest = more; at = found.0; fits = fits; others = there.are } });
  }

  pub made_unfit : (text : List ℕ) (things : Things) (rest more : List ℕ) (n : Numbered) → SameMade text things rest → rest ≢ [] → Alone (IsNumberedText wording things rest) n more → ¬ (Fits may most things n) → (all : Things) → ¬ (IsCatalogueText wording may most text all)
  made_unfit text things rest more n so_far some found not all h =
      let before = so_far.onward all h in
      not (cut things rest more n some found all before.made before.are).fits

  none_made : (things : Things) (rest : List ℕ) → rest ≢ [] → ((n : Numbered) (more : List ℕ) → ¬ (IsNumberedText wording things rest n more)) → (all : Things) (made : List Numbered) → ¬ (AreMade wording may most things made rest all)
  none_made things rest some none all [] h = some h.0
  none_made things rest some none all (m ∷ ms) h = none m h.rest h.at

  pub made_missing : (text : List ℕ) (things : Things) (rest : List ℕ) → SameMade text things rest → rest ≢ [] → ((n : Numbered) (more : List ℕ) → ¬ (IsNumberedText wording things rest n more)) → (all : Things) → ¬ (IsCatalogueText wording may most text all)
  made_missing text things rest so_far some none all h = none_made things rest some none all (so_far.onward all h).made (so_far.onward all h).are

  unwritten : (things : Things) (n : Numbered) (more : List ℕ) → IsNumberedText wording things [] n more → ⊥
  unwritten things n more h = let less = run_shorter [] (n.0, h.said) more h.run in absurd (omega (arith, less))

  nothing_left : (things : Things) (all : Things) (made : List Numbered) → AreMade wording may most things made [] all → all ≡ things
  nothing_left things all [] h = h.1
  nothing_left things all (m ∷ ms) h = absurd (unwritten things m h.rest h.at)

  pub all_made : (text : List ℕ) (things : Things) (rest : List ℕ) → SameMade text things rest → rest ≡ [] → IsCatalogueText wording may most text things × ((all : Things) → IsCatalogueText wording may most text all → all ≡ things)
  all_made text things rest so_far none = (
    so_far.back things (record { made = []; are = (none, refl) }),
    λ all h.
        let found = so_far.onward all h in
        nothing_left things all found.made (subst (λ (r : List ℕ). AreMade wording may most things found.made r all) none found.are),
  )

  pub made_shorter : (things : Things) (rest more : List ℕ) (n : Numbered) → IsNumberedText wording things rest n more → length more < length rest
  made_shorter things rest more n h = run_shorter rest (n.0, h.said) more h.run
