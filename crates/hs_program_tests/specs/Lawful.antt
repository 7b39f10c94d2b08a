-- That a database that counts is one that can be run.
use Rattle.std.proofs.Common.{◌≡◌, ℕ, ◌+◌, ◌&&◌, Bool, true, false, cond, List, [], ◌∷◌, ◌++◌, length, sym, ap, subst, ◌∙◌, arith, refl, append-nil}
use Rattle.std.specs.List.{list_all}
use Rattle.std.proofs.lemmas.List.Folds.{list_all-append}
use Rattle.hs_entries.specs.Entry.{is_session}
use Rattle.hs_entries.specs.declared.item.Item.{Item}
use Rattle.hs_entries.specs.declared.item.Item.TheVariants.{Entry, Bad, TooLong, End}
use Rattle.hs_run.specs.Items.{AreTold, is_taken, is_text, is_told}
use Rattle.hs_run.specs.Pieces.{made_by}
use Rattle.hs_run.specs.Running.{pieces}
use Rattle.hs_run_tests.specs.Silent.{pieces_of, silent_future}
use Rattle.hs_run_tests.proofs.Truth.{silent_true}
use Rattle.hs_program.specs.Lawful.{IsLawful}
use Rattle.hs_program.specs.Meaning.{Opened}
use Rattle.hs_program.specs.Opening.{AreRedone}
use Rattle.hs_program_tests.specs.Tally.{counted, is_short, tallied, with_commits, with_count}

abbrev AreShort : List (List ℕ) → Type 0
AreShort texts = list_all is_short texts ≡ true

both : (a b : Bool) → (a && b) ≡ true → (a ≡ true) × (b ≡ true)
both true b is = (refl, is)
both false b is = absurd (cc)

joined : (a b : Bool) → a ≡ true → b ≡ true → (a && b) ≡ true
joined a b one other = ap (λ c. c && b) one ∙ other

-- the texts of entries are short
made_short : (items : List Item) → AreTold items → AreShort (made_by (pieces_of items))
made_short [] told = refl
made_short (Entry number name text at ∷ items) told =
    let parts = both (is_told (Entry number name text at)) (list_all is_told items) told in
    let taken = both (is_taken (Entry number name text at)) (is_text (Entry number name text at)) parts.0 in
    let short = both (is_session name) (is_short text) taken.0 in
    joined (is_short text) (list_all is_short (made_by (pieces_of items))) short.1 (made_short items parts.1)
made_short (Bad number ∷ items) told = made_short items told
made_short (TooLong number ∷ items) told = made_short items told
made_short (End ∷ items) told = absurd (cc)

all_short : (items : List Item) → AreTold items → AreShort (made_by (pieces_of items ++ []))
all_short items told = subst (λ ps. AreShort (made_by ps)) (sym (append-nil (pieces_of items))) (made_short items told)

first_short : (front rest : List (List ℕ)) → AreShort (front ++ rest) → AreShort front
first_short front rest all = (both (list_all is_short front) (list_all is_short rest) (sym (list_all-append is_short front rest) ∙ all)).0

-- such texts are counted alone
abbrev with : Opened → ℕ → Opened
with opened commits = record opened { commits = commits }

counts_short : (opened : Opened) (text : List ℕ) → is_short text ≡ true → counted opened text ≡ with_commits 1 opened
counts_short opened text short = ap (λ (b : Bool). record { database = cond b opened.database (with_count 1); last = opened.last; commits = opened.commits + 1 }) short

one_more : (opened : Opened) (text : List ℕ) (texts : List (List ℕ)) → is_short text ≡ true → with_commits (length texts) (counted opened text) ≡ with_commits (length (text ∷ texts)) opened
one_more opened text texts short =
    let same : opened.commits + 1 + length texts ≡ opened.commits + length (text ∷ texts) = omega arith in
    ap (with_commits (length texts)) (counts_short opened text short) ∙ ap (with opened) same

no_more : (opened : Opened) → opened ≡ with_commits 0 opened
no_more opened = let same : opened.commits ≡ opened.commits + 0 = omega arith in ap (with opened) same

all_made : (texts : List (List ℕ)) (opened : Opened) → AreShort texts → AreRedone tallied opened texts (with_commits (length texts) opened)
all_made [] opened short = sym (no_more opened)
all_made (text ∷ texts) opened short =
    let parts = both (is_short text) (list_all is_short texts) short in
    (counted opened text, refl, subst (AreRedone tallied (counted opened text) texts) (one_more opened text texts parts.0) (all_made texts (counted opened text) parts.1))

pub is_lawful : IsLawful tallied
is_lawful = record {
  counts = λ opened next text is. ap (λ (o : Opened). o.commits) is;
  starts = refl;
  begins = λ opened size. refl;
  is_true = λ opened size sound items told. silent_true opened.commits items;
  remade = λ opened size sound items told front rest all. (all_made front opened (first_short front rest (subst AreShort all (all_short items told))), sound.valid);
}
