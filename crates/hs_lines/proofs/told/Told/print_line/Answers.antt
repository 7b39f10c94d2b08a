use Rattle.std.proofs.Common.{◌≡◌, ℕ, List, ◌++◌, ap, sym, ◌∙◌, subst, append_assoc}
use Rattle.std.specs.Prelude.{OnOk, codes}
use Rattle.std.specs.Fmt.{decimal}
use Rattle.hs_turns.specs.Lines.{Line, EndOf, OfItem, line_text, no_session, words_text}
use Rattle.hs_lines.specs.Names.{name_in}
use Rattle.hs_lines.specs.Told.{line_at, lines_of, refused_line, words_of}
use Rattle.hs_lines.proofs.Texts.{single, spoken, written}
use Rattle.hs_lines.proofs.told.Told.print_line.Goals as goal

pub returns-in-Bad : goal.returns-in-Bad
returns-in-Bad c =
    let line = refused_line c.in-Bad.number no_session (codes "entry") in
    let e : line_at c.args.names.now c.args.self.now c.args.at ≡ line = single c.args.names.now c.args.self.now c.args.at line (ap (lines_of c.args.names.now) c.in-Bad.is) c.requires in
    subst (λ (l : Line). OnOk c.push_refused.result (c.push_refused.new.out.items ≡ c.args.out.now.items ++ (line_text l ++ codes "\n"))) (sym e) c.push_refused.ensures

pub returns-in-TooLong : goal.returns-in-TooLong
returns-in-TooLong c =
    let line = refused_line c.in-TooLong.number no_session (codes "too long") in
    let e : line_at c.args.names.now c.args.self.now c.args.at ≡ line = single c.args.names.now c.args.self.now c.args.at line (ap (lines_of c.args.names.now) c.in-TooLong.is) c.requires in
    subst (λ (l : Line). OnOk c.push_refused-in-TooLong.result (c.push_refused-in-TooLong.new.out.items ≡ c.args.out.now.items ++ (line_text l ++ codes "\n"))) (sym e) c.push_refused-in-TooLong.ensures

pub returns-in-TooManySessions : goal.returns-in-TooManySessions
returns-in-TooManySessions c =
    let line = refused_line c.in-TooManySessions.number c.in-TooManySessions.session (codes "sessions") in
    let e : line_at c.args.names.now c.args.self.now c.args.at ≡ line = single c.args.names.now c.args.self.now c.args.at line (ap (lines_of c.args.names.now) c.in-TooManySessions.is) c.requires in
    subst (λ (l : Line). OnOk c.push_refused-in-TooManySessions.result (c.push_refused-in-TooManySessions.new.out.items ≡ c.args.out.now.items ++ (line_text l ++ codes "\n"))) (sym e)
    (subst (λ (s : List ℕ). OnOk c.push_refused-in-TooManySessions.result (c.push_refused-in-TooManySessions.new.out.items ≡ c.args.out.now.items ++ (line_text (refused_line c.in-TooManySessions.number s (codes "sessions")) ++ codes "\n"))) c.as_str.ensures c.push_refused-in-TooManySessions.ensures)

pub returns-in_ok-push_end-in-EndOf : goal.returns-in_ok-push_end-in-EndOf
returns-in_ok-push_end-in-EndOf c =
    let out = c.args.out.now.items in
    let line = EndOf (name_in c.args.names.now c.in-EndOf.session.0) in
    let e : line_at c.args.names.now c.args.self.now c.args.at ≡ line = single c.args.names.now c.args.self.now c.args.at line (ap (lines_of c.args.names.now) c.in-EndOf.is) c.requires in
    written c.extend_from_slice-in-EndOf.result c.extend_from_slice-in-EndOf.new.self.items c.push_end.new.out.items (codes "\n") (out ++ (line_text (line_at c.args.names.now c.args.self.now c.args.at) ++ codes "\n")) c.extend_from_slice-in-EndOf.ensures.items
    (ap (λ (l : List ℕ). l ++ codes "\n") (c.in_ok-push_end-in-EndOf.ensures ∙ ap (λ (s : List ℕ). out ++ (codes "end " ++ s ++ codes ": rolled back")) c.name-in-EndOf.ensures)
    ∙ append_assoc out (line_text line) (codes "\n") ∙ ap (λ (l : Line). out ++ (line_text l ++ codes "\n")) (sym e))

pub returns-in_ok-push_words-in-OfEntry : goal.returns-in_ok-push_words-in-OfEntry
returns-in_ok-push_words-in-OfEntry c =
    let out = c.args.out.now.items in
    let names = c.args.names.now in
    let session = name_in names c.in-OfEntry.session.0 in
    let word = c.index.result.now in
    let line = OfItem c.in-OfEntry.number session (words_of names word) in
    let front = decimal c.in-OfEntry.number ++ codes " " ++ session ++ codes ": " in
    let e : line_at names c.args.self.now c.args.at ≡ line = spoken names c.args.self.now c.args.at c.in-OfEntry.number session c.in-OfEntry.words.items word (ap (lines_of names) c.in-OfEntry.is) c.requires c.index.ensures in
    written c.extend_from_slice.result c.extend_from_slice.new.self.items c.push_words.new.out.items (codes "\n") (out ++ (line_text (line_at names c.args.self.now c.args.at) ++ codes "\n")) c.extend_from_slice.ensures.items
    (ap (λ (l : List ℕ). l ++ codes "\n")
    (c.in_ok-push_words-in-OfEntry.ensures ∙ ap (λ (l : List ℕ). l ++ words_text (words_of names word)) (c.in_ok-push_item-in-OfEntry.ensures ∙ ap (λ (s : List ℕ). out ++ (decimal c.in-OfEntry.number ++ codes " " ++ s ++ codes ": ")) c.name.ensures) ∙ append_assoc out front (words_text (words_of names word)))
    ∙ append_assoc out (line_text line) (codes "\n") ∙ ap (λ (l : Line). out ++ (line_text l ++ codes "\n")) (sym e))
