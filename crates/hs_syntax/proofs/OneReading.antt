-- A statement's tokens have one reading that is meant.
use Rattle.std.proofs.Common.{◌≡◌, ℕ, List, refl, sym, ◌∙◌, subst}
use Rattle.hs_grammar.specs.declared.types.Item.{Item}
use Rattle.hs_grammar.specs.Grammar.{Sentence, tokens_of}
use Rattle.hs_grammar.specs.Answer.{Serves}
use Rattle.hs_grammar.proofs.OneSentence.{one_sentence}
use Rattle.hs_syntax.specs.declared.table.TheConstants.{ROWS}
use Rattle.hs_syntax.specs.Rows.{table_of}
use Rattle.hs_syntax.specs.Literal.{IsBuiltBy, IsStatement}
use Rattle.hs_syntax.specs.Meant.{MeantAs, HasNoSpot, IsMeantBy, HasOneReading}
use Rattle.hs_syntax.specs.Statement.{table_grammar}
use Rattle.hs_syntax.proofs.Meant.{same_tokens, nothing_else, one_way}
use Rattle.hs_syntax.proofs.Written.{written}
use Rattle.hs_syntax.proofs.Derived.{derived_as}

-- the table serves its grammar
pub served : Serves table_grammar ROWS (table_of ROWS)
served = (refl, refl)

-- a sentence that some reading is meant as is the reading that is meant
from_sentence : (w : List ℕ) (m : List Item) → Sentence table_grammar m → tokens_of m ≡ w → IsMeantBy w m
from_sentence w m d e = record {
  built = (written m d, e);
  meant = λ other b.
      let x = derived_as other b.0 in
      subst (λ z. MeantAs other z) (one_sentence table_grammar ROWS (table_of ROWS) served x.0 m x.1 d (same_tokens x.2 ∙ b.1 ∙ sym e)) x.2;
}

some_reading : (w : List ℕ) → IsStatement w → (items : List Item) × IsMeantBy w items
some_reading w s = let x = derived_as s.0 s.1.0 in (x.0, from_sentence w x.0 x.1 (same_tokens x.2 ∙ s.1.1))

plain_reading : (w : List ℕ) (reading : List Item) → IsBuiltBy w reading → HasNoSpot reading → IsMeantBy w reading
plain_reading w reading b h =
    let x = derived_as reading b.0 in
    subst (λ z. IsMeantBy w z) (sym (nothing_else x.2 h)) (from_sentence w x.0 x.1 (same_tokens x.2 ∙ b.1))

pub one_reading : HasOneReading
one_reading = record {
  some = some_reading;
  one = λ w a b x y. one_way (y.meant a x.built) (x.meant b y.built);
  plain = plain_reading;
}
