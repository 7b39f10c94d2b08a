use Rattle.std.proofs.Common.{ℕ, ◌+◌, ◌/◌, ◌%◌, Bool, List, ◌++◌, codes, if◌then◌else◌, sym, ◌∙◌, ap}
use Rattle.std.specs.Fmt.{decimal}
use Rattle.std.proofs.lemmas.Bool.{ne_eqb}
use Rattle.hs_workload.proofs.Lines.{line_of}
use Rattle.hs_workload.proofs.generated.push_statement.Goals as goal

pub returns : goal.returns
returns c =
    line_of _ _ _ _ _ _ _ c.in_ok-extend.ensures.ok c.in_ok-push_number.ensures c.in_ok-extend-2.ensures.ok
    ∙ ap (λ (n : ℕ). c.args.out.now ++ (codes "UPDATE W SET V = V + 1 WHERE ID = " ++ decimal n ++ codes ";\n")) c.from.ensures
    ∙ ap (λ (t : Bool). c.args.out.now ++ (if t then codes "COMMIT;\n" else codes "UPDATE W SET V = V + 1 WHERE ID = " ++ decimal ((c.args.x / 20) % 100) ++ codes ";\n"))
    (sym (ne_eqb ((c.args.x / 4) % 5) 0 c.if-x-eq0.false))
