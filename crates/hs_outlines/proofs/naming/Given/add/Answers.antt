use Rattle.std.proofs.Common.{◌≡◌, ◌++◌, [], ◌∷◌, ◌||◌, rules, sym, ap, ◌∙◌}
use Rattle.std.specs.Str.{bytes_eq}
use Rattle.hs_elements.specs.Faults.{is_among}
use Rattle.hs_elements.specs.Names.{is_held}
use Rattle.hs_elements.proofs.Finding.{among-more}
use Rattle.hs_outlines.specs.Named.{is_taken}
use Rattle.hs_outlines.proofs.Giving.{all_still_tried, more_taken}
use Rattle.hs_outlines.proofs.naming.Given.add.Goals as goal

pub returns-clause-given : goal.returns-clause-given
returns-clause-given c = λ things table is.
    let names = c.args.self.now.names.items in
    let name = c.args.name in
    let more : c.push.new.self.items ≡ names ++ name ∷ [] = search rules in
    record {
      held = λ t. c.in_ok-add.ensures t ∙ ap (λ s. is_held c.args.self.now.set t || bytes_eq t s) c.as_str.ensures
          ∙ ap (λ b. b || bytes_eq t name) (is.held t) ∙ sym (among-more names name t) ∙ sym (ap (λ l. is_among l t) more);
      tried = all_still_tried (is_taken things names) (is_taken things c.push.new.self.items) table c.args.self.now.counters
          (λ t was. ap (λ l. is_taken things l t) more ∙ more_taken things names name (among-more names name) t was) is.tried;
    }
