use Rattle.std.proofs.Common.{◌≡◌, ◌++◌, ◌∷◌, [], None, sym, ap, ◌∙◌, if◌then◌else◌, string_bytes}
use Rattle.std.specs.Map.{lookup}
use Rattle.std.specs.Str.{bytes_eq}
use Rattle.hs_schema.specs.Texts.{texts}
use Rattle.hs_schema.proofs.Texts.{added}
use Rattle.hs_elements.specs.Columns.{has_column}
use Rattle.hs_elements.proofs.Typed.{none_of}
use Rattle.hs_elements.proofs.columns.Columns.add.Goals as goal

pub returns : goal.returns
returns c =
    let name = c.args.name.now in
    let old = c.args.self.now in
    let more = old ++ (name, c.args.data_type) ∷ [] in
    let es = c.self.inside.types.entries in
    let key = c.in_ok-key.key in
    let no = sym c.has.ensures ∙ c.if-has.false in
    let none : lookup (bytes_eq (string_bytes key)) (texts es) ≡ None = none_of _ (ap (λ k. has_column (texts es) k) c.in_ok-key.ensures.ok ∙ ap (λ t. has_column t name) c.self.view_is ∙ no) in
    ap texts c.in_ok-insert.ensures.entries ∙ added es key c.args.data_type none ∙ ap (λ k. texts es ++ (k, c.args.data_type) ∷ []) c.in_ok-key.ensures.ok
    ∙ ap (λ t. t ++ (name, c.args.data_type) ∷ []) c.self.view_is ∙ sym (ap (λ b. if b then old else more) no)
