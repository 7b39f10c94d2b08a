use Rattle.std.proofs.Common.{Some, Option, ap, ◌∙◌, string_bytes}
use Rattle.std.proofs.lemmas.Map.Text.{hash_map_updates_text}
use Rattle.std.specs.HashMap.{get_by_text}
use Rattle.std.specs.Map.{update}
use Rattle.std.specs.Option.{option_map_or}
use Rattle.std.specs.Str.{bytes_eq}
use Rattle.hs_scope.specs.declared.sought.Sought.{Sought}
use Rattle.hs_scope.specs.declared.sought.Sought.TheVariants as sought
use Rattle.hs_scope.specs.Sought.{both}
use Rattle.hs_scope.proofs.Mapped.{put}
use Rattle.hs_scope.proofs.index.ColumnIndex.add.Goals as goal

pub returns : goal.returns
returns c = λ n.
    let m = c.args.self.now.names in
    let v = c.and-found.result in
    let at = hash_map_updates_text (string_bytes c.in_ok-key.key) m c.insert.new.self (Some v) c.in_ok-insert.ensures.updates n
    ∙ ap (λ p. update bytes_eq (get_by_text m) p (Some v) n) c.in_ok-key.ensures.ok in
    put (get_by_text m) c.args.name.now n v _ at (λ (o : Option Sought). option_map_or (λ (s : Sought). s) o sought.Missing) c.args.here (c.and-found.ensures ∙ ap (λ s. both s c.args.here) c.find.ensures)
