use Rattle.std.proofs.Common.{true, cond, ap, ◌∙◌, string_bytes}
use Rattle.std.proofs.lemmas.Map.Text.{hash_set_updates_text}
use Rattle.std.specs.HashSet.{contains_text}
use Rattle.std.specs.Str.{bytes_eq}
use Rattle.hs_elements.proofs.Typed.{held-more}
use Rattle.hs_elements.proofs.names.NameSet.add.Goals as goal

pub returns : goal.returns
returns c = λ n.
    let s = c.args.self.now.names in
    hash_set_updates_text (string_bytes c.in_ok-key.key) s c.insert.new.self true c.in_ok-insert.ensures.updates n
    ∙ ap (λ k. cond (bytes_eq k n) true (contains_text s n)) c.in_ok-key.ensures.ok ∙ held-more c.args.name.now n (contains_text s n)
