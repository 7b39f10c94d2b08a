-- Statements, as they stand in their entries.
use Rattle.std.proofs.Common.{◌≡◌, ℕ, ◌+◌, ◌≤◌, ◌&&◌, true, List, [], ◌∷◌, length, Ok, sym, subst, ◌∙◌, arith}
use Rattle.std.specs.Prelude.{nat_lt}
use Rattle.std.specs.List.{list_all}
use Rattle.std.proofs.lemmas.Bool.{and_parts, ltb-true}
use Rattle.hs_ast.specs.declared.statement.Stmt.{Stmt}
use Rattle.hs_asking.specs.Asking.{IsStatement}
use Rattle.hs_entries.specs.Entry.{is_letter, is_name_byte, is_session, place_of, statement_of}
use Rattle.hs_read.specs.Read.{IsReadAs, statement_in}
use Rattle.hs_read.proofs.Reading.{is_read}
use Rattle.hs_requested.specs.Asked.{HasTree}
use Rattle.hs_requested.specs.declared.request.Request.{Request}
use Rattle.hs_requests.proofs.Behind.{place, statement}
use Rattle.hs_schema.specs.Catalogue.{Text}
use Rattle.hs_turns.specs.Turns.{whole_text}

-- the name of a session is short
pub short_name : (name : List ℕ) → is_session name ≡ true → length name ≤ 32
short_name [] h = omega arith
short_name (b ∷ bs) h =
    let outer = and_parts (is_letter b) (nat_lt (length bs) 32 && list_all is_name_byte bs) h in
    let inner = and_parts (nat_lt (length bs) 32) (list_all is_name_byte bs) outer.1 in
    let few = ltb-true (length bs) 32 inner.0 in omega (arith, few)

-- the tree of a text is that of the entry in which it stands
pub tree_in : (name text : Text) (request : Request) → is_session name ≡ true → HasTree (statement_in text) request → HasTree (statement_in (statement_of (whole_text name text))) request
tree_in name text request session h = subst (λ (t : Text). HasTree (statement_in t) request) (sym (statement name text session)) h

pub read_so : (text : Text) (its : Stmt) → IsStatement its text → IsReadAs (statement_of text) (Ok its)
read_so text its is = subst (IsReadAs (statement_of text)) is (is_read (statement_of text))

pub placed : (at : ℕ) (name text : Text) → is_session name ≡ true → at ≡ length name + 1 → at ≡ place_of (whole_text name text)
placed at name text session here = here ∙ sym (place name text session)
