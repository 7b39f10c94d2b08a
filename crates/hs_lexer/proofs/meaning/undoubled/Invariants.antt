use Rattle.std.proofs.Common.{◌≡◌, ◌++◌, length}
use denote.Shadow.{shadow}
use denote.Text.{Utf8}
use Rattle.std.specs.Prelude.{string_bytes}
use Rattle.hs_lexer.specs.Content.{undoubled}
use Rattle.hs_lexer.proofs.meaning.undoubled.Given as goal

abbrev pub invariant-loop-front : goal.invariant-loop-front
invariant-loop-front l = record {
  text : shadow (Utf8 l.rest);
  told : string_bytes l.out ++ undoubled l.quote l.rest ≡ undoubled l.quote l.text;
}

abbrev pub decreases-loop-front : goal.decreases-loop-front
decreases-loop-front l = length l.rest
