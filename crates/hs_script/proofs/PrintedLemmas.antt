-- Lines with numbers, as they are written.
use Rattle.std.proofs.Common.{◌≡◌, ℕ, ◌<◌, ◌^◌, true, false, List, [], ◌∷◌, ◌++◌, inl, inr, refl, sym, ap, ◌∙◌, append_assoc, append-nil, arith}
use Rattle.std.specs.List.{flat_map, AllByRecursion}
use Rattle.std.proofs.lemmas.Bool.{cases_Bool}
use Rattle.std.proofs.lemmas.List.Concat.{flat_map-append}
use Rattle.hs_schema.specs.Catalogue.{Things, after}
use Rattle.hs_valuetext.proofs.Bits.{or_false}
use Rattle.hs_parttext.specs.Lines.{is_feed, has_feed}
use Rattle.hs_tabletext.specs.Conditions.{Wording}
use Rattle.hs_committext.specs.Definitions.{definition_text}
use Rattle.hs_script.specs.Numbered.{line_end, IsPast, numbered_lines, joined, is_some_line, IsRunAt, numbered_byte, numbered_text}
use Rattle.hs_script.specs.Definitions.{Numbered, May, Fits, AreMade, IsCatalogueText, definitions_text, all_made, Follow}
use Rattle.hs_script.proofs.NumberedLemmas.{past_run, past_nothing}

-- ---- line by line

once : (number b : ℕ) → is_feed b ≡ false → numbered_byte number b ≡ b ∷ []
once number b other = rw other refl

plain_line : (number : ℕ) (line : List ℕ) → has_feed line ≡ false → flat_map (numbered_byte number) line ≡ line
plain_line number [] h = refl
plain_line number (b ∷ line) h =
    let parts = or_false (is_feed b) (has_feed line) h in
    (λ i. once number b parts.0 i ++ plain_line number line parts.1 i)

pub last_line : (number : ℕ) (line : List ℕ) → has_feed line ≡ false → numbered_text number line ≡ line ++ line_end number
last_line number line h = ap (λ (xs : List ℕ). xs ++ line_end number) (plain_line number line h)

pub first_of : (number : ℕ) (line more : List ℕ) → has_feed line ≡ false → numbered_text number (line ++ 10 ∷ more) ≡ (line ++ line_end number) ++ numbered_text number more
first_of number line more h =
    ap (λ (xs : List ℕ). xs ++ line_end number) (flat_map-append (numbered_byte number) line (10 ∷ more) ∙ ap (λ (xs : List ℕ). xs ++ flat_map (numbered_byte number) (10 ∷ more)) (plain_line number line h))
    ∙ append_assoc line (line_end number ++ flat_map (numbered_byte number) more) (line_end number)
    ∙ ap (λ (xs : List ℕ). line ++ xs) (append_assoc (line_end number) (flat_map (numbered_byte number) more) (line_end number))
    ∙ sym (append_assoc line (line_end number) (numbered_text number more))

pub printed_line : (number : ℕ) (rest line more out new whole : List ℕ) → has_feed line ≡ false → rest ≡ line ++ 10 ∷ more → out ++ numbered_text number rest ≡ whole → new ≡ out ++ (line ++ line_end number) → new ++ numbered_text number more ≡ whole
printed_line number rest line more out new whole plain is so_far made =
    ap (λ (xs : List ℕ). xs ++ numbered_text number more) made
    ∙ append_assoc out (line ++ line_end number) (numbered_text number more)
    ∙ ap (λ (xs : List ℕ). out ++ xs) (sym (first_of number line more plain) ∙ ap (numbered_text number) (sym is))
    ∙ so_far

pub printed_last : (number : ℕ) (rest out new whole : List ℕ) → has_feed rest ≡ false → out ++ numbered_text number rest ≡ whole → new ≡ out ++ (rest ++ line_end number) → new ≡ whole
printed_last number rest out new whole plain so_far made = made ∙ ap (λ (xs : List ℕ). out ++ xs) (sym (last_line number rest plain)) ∙ so_far

-- ---- a text by its lines

pub record Lines (text : List ℕ) : Type 0 where
  pub lines : List (List ℕ)
  pub some : is_some_line lines ≡ true
  pub bare : AllByRecursion (λ line. has_feed line ≡ false) lines
  pub is : text ≡ joined lines

put_byte : (b : ℕ) (text : List ℕ) (lines : List (List ℕ)) → is_feed b ≡ false → is_some_line lines ≡ true → AllByRecursion (λ line. has_feed line ≡ false) lines → text ≡ joined lines → Lines (b ∷ text)
put_byte b text [] other some bare is = absurd cc
put_byte b text (line ∷ lines) other some bare is = record {
  lines = (b ∷ line) ∷ lines;
  some = refl;
  bare = (rw other bare.0, bare.1);
  is = ap (λ (xs : List ℕ). b ∷ xs) is;
}

joined_front : (lines : List (List ℕ)) → is_some_line lines ≡ true → joined ([] ∷ lines) ≡ 10 ∷ joined lines
joined_front [] some = absurd cc
joined_front (line ∷ lines) some = refl

feed_is : (b : ℕ) → is_feed b ≡ true → b ≡ 10
feed_is b h = grind (arith, h)

pub lines_in : (text : List ℕ) → Lines text
lines_in [] = record { lines = [] ∷ []; some = refl; bare = (refl, tt); is = refl }
lines_in (b ∷ text) =
    let behind = lines_in text in
    elim (cases_Bool (is_feed b)) [
      | inl feed ↦ record {
        lines = [] ∷ behind.lines;
        some = refl;
        bare = (refl, behind.bare);
        is = (λ i. feed_is b feed i ∷ behind.is i) ∙ sym (joined_front behind.lines behind.some);
      }
      | inr other ↦ put_byte b text behind.lines other behind.some behind.bare behind.is
    ]

pub by_lines : (number : ℕ) (lines : List (List ℕ)) → is_some_line lines ≡ true → AllByRecursion (λ line. has_feed line ≡ false) lines → numbered_text number (joined lines) ≡ numbered_lines number lines
by_lines number [] some bare = absurd cc
by_lines number (line ∷ []) some bare =
    ap (numbered_text number) (append-nil line) ∙ last_line number line bare.0 ∙ sym (append-nil (line ++ line_end number))
by_lines number (line ∷ another ∷ lines) some bare =
    first_of number line (joined (another ∷ lines)) bare.0
    ∙ ap (λ (xs : List ℕ). (line ++ line_end number) ++ xs) (by_lines number (another ∷ lines) refl bare.1)

pub run_of : (number : ℕ) (said text rest : List ℕ) → number < 2 ^ 64 → text ≡ numbered_text number said ++ rest → IsPast number rest → IsRunAt text (number, said) rest
run_of number said text rest small written past =
    let its = lines_in said in
    record {
      lawful = small;
      lines = its.lines;
      some = its.some;
      bare = its.bare;
      said = its.is;
      written = written ∙ ap (λ (xs : List ℕ). xs ++ rest) (ap (numbered_text number) its.is ∙ by_lines number its.lines its.some its.bare);
      past = past;
    }

-- ---- definitions, one behind another

module _ (wording : Wording) (may : May) (most : ℕ) (small : most < 2 ^ 64) where
  past_next : (before : ℕ) → before < 2 ^ 64 → (things : Things) (made : List Numbered) → Follow wording may most before things made → IsPast before (definitions_text wording things made)
  past_next before low things [] h = past_nothing before
  past_next before low things (n ∷ ns) h =
      let fits : Fits may most things n = h.1 in
      let high : n.0 < 2 ^ 64 = omega (arith, fits.within) in
      let behind : IsPast n.0 (definitions_text wording (after things n.1 n.0) ns) = past_next n.0 high (after things n.1 n.0) ns h.3 in
      past_run (definitions_text wording things (n ∷ ns)) (n.0, definition_text wording things n.1) (definitions_text wording (after things n.1 n.0) ns) before low
      (run_of n.0 (definition_text wording things n.1) (definitions_text wording things (n ∷ ns)) (definitions_text wording (after things n.1 n.0) ns) high refl behind)
      (λ e. omega (arith, e, h.0))

  pub they_are_made : (before : ℕ) (things : Things) (made : List Numbered) → Follow wording may most before things made → AreMade wording may most things made (definitions_text wording things made) (all_made things made)
  they_are_made before things [] h = (refl, refl)
  they_are_made before things (n ∷ ns) h =
      let fits : Fits may most things n = h.1 in
      let high : n.0 < 2 ^ 64 = omega (arith, fits.within) in
      let others : List ℕ = definitions_text wording (after things n.1 n.0) ns in
      record {
        rest = others;
        at = record {
          said = definition_text wording things n.1;
          run = run_of n.0 (definition_text wording things n.1) (definitions_text wording things (n ∷ ns)) others high refl (past_next n.0 high (after things n.1 n.0) ns h.3);
          of = record { lawful = h.2; written = refl };
        };
        fits = fits;
        others = they_are_made n.0 (after things n.1 n.0) ns h.3;
      }

  pub catalogue_there : (made : List Numbered) → Follow wording may most 0 [] made → IsCatalogueText wording may most (definitions_text wording [] made) (all_made [] made)
  catalogue_there made h = record { made = made; are = they_are_made 0 [] made h }

module _ (wording : Wording) (may : May) (most : ℕ) where
  their_text : (things : Things) (made : List Numbered) (text : List ℕ) (all : Things) → AreMade wording may most things made text all → (text ≡ definitions_text wording things made) × (all ≡ all_made things made)
  their_text things [] text all h = h
  their_text things (n ∷ ns) text all h =
      let behind = their_text (after things n.1 n.0) ns h.rest all h.others in
      let run = h.at.run in
      let said : h.at.said ≡ definition_text wording things n.1 = h.at.of.written in
      let lines : numbered_lines n.0 run.lines ≡ numbered_text n.0 (definition_text wording things n.1) = sym (by_lines n.0 run.lines run.some run.bare) ∙ ap (numbered_text n.0) (sym run.said ∙ said) in
      (run.written ∙ (λ i. lines i ++ behind.0 i), behind.1)

  pub catalogue_only : (text : List ℕ) (all : Things) → IsCatalogueText wording may most text all → (made : List Numbered) × (text ≡ definitions_text wording [] made) × (all ≡ all_made [] made)
  catalogue_only text all h =
      let is = their_text [] h.made text all h.are in
      (h.made, is.0, is.1)
