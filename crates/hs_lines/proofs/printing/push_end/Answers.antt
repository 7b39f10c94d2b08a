use Rattle.std.proofs.Common.{ℕ, List, ◌++◌, ap, ◌∙◌, append_assoc}
use Rattle.std.specs.Prelude.{codes}
use Rattle.hs_lines.proofs.Texts.{written}
use Rattle.hs_lines.proofs.printing.push_end.Goals as goal

pub returns : goal.returns
returns c =
    let out = c.args.out.now.items in
    let name = c.args.session.now in
    written c.extend_from_slice-3.result c.extend_from_slice-3.new.self.items c.extend_from_slice-2.new.self.items (codes ": rolled back") (out ++ (codes "end " ++ name ++ codes ": rolled back")) c.extend_from_slice-3.ensures.items
    (ap (λ (l : List ℕ). l ++ codes ": rolled back") (c.in_ok-extend_from_slice-2.ensures.items ∙ ap (λ (l : List ℕ). c.extend_from_slice.new.self.items ++ l) c.as_bytes.ensures.value ∙ ap (λ (l : List ℕ). l ++ name) c.in_ok-extend_from_slice.ensures.items)
    ∙ append_assoc (out ++ codes "end ") name (codes ": rolled back") ∙ append_assoc out (codes "end ") (name ++ codes ": rolled back"))
