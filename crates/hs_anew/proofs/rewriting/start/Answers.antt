use Rattle.std.proofs.Common.{◌≡◌, ℕ, List, [], ◌∷◌, ◌++◌, take, sym, ◌∙◌, ap, arith, append-nil}
use Rattle.hs_host.specs.Files.{of}
use Rattle.hs_host.specs.Used.{Told, ChangesFile}
use Rattle.hs_host.proofs.Used.{changes_on, changes_weaker, told_on, told_back}
use Rattle.hs_gate.specs.Gated.{IsAtRest, empty, started}
use Rattle.hs_gate.specs.Groups.{eight_bytes}
use Rattle.hs_gate.proofs.Fronts.{born_same, started_fresh}
use Rattle.hs_gate.proofs.Torn.{settled_stands}
use Rattle.hs_slots.specs.Anew.{IsAnew, renewed}
use Rattle.hs_anew.proofs.Gates.{shut_anew, opened_anew, renewed_groups, opened_text}
use Rattle.hs_anew.proofs.rewriting.start.Goals as goal
use Rattle.hs_anew.proofs.rewriting.start.Goals.{After-begin, After-finish, In_ok-finish}

beginning : (g : _) (c : After-begin g) → ChangesFile g.H.Source g.H.Host c.args.file (IsAnew (of (g.H.Host.files c.args.host.now) c.args.file) c.args.epoch []) c.args.host.now c.begin.new.host
beginning g c = changes_weaker c.begin.ensures.changes (λ told left shut. shut_anew _ left c.args.epoch [] shut)

finishing : (g : _) (c : After-finish g) → ChangesFile g.H.Source g.H.Host c.args.file (IsAnew (of (g.H.Host.files c.args.host.now) c.args.file) c.args.epoch []) c.args.host.now c.finish.new.host
finishing g c = changes_on (beginning g (goal.at.After-finish g c).After-begin) (changes_weaker c.finish.ensures.changes (λ later left opened.
    let told = told_back c.begin.ensures.changes.uses later in
    let staged = c.in_ok-begin.ensures.staged told in
    let within = (c.requires.ready told).gate.within in
    let birth = born_same 1 _ _ (c.in_ok-begin.ensures.birth told) (omega arith) (omega (arith, staged.kept.within)) (omega (arith, within)) in
    opened_anew _ _ left c.args.epoch [] (omega (arith, c.ranges.epoch)) (omega arith) birth (opened_text _ (eight_bytes c.args.epoch) left (opened _ staged))))

pub finish-requires-clause-staged : goal.finish-requires-clause-staged
finish-requires-clause-staged g c = λ later. (_, c.in_ok-begin.ensures.staged (told_back c.begin.ensures.changes.uses later))

pub returns-in_err-begin-clause-changes : goal.returns-in_err-begin-clause-changes
returns-in_err-begin-clause-changes g c = beginning g (goal.at.returns-in_err-begin-clause-changes g c).After-begin

pub returns-in_err-finish-clause-changes : goal.returns-in_err-finish-clause-changes
returns-in_err-finish-clause-changes g c = finishing g (goal.at.returns-in_err-finish-clause-changes g c).After-finish

pub returns-clause-changes : goal.returns-clause-changes
returns-clause-changes g c = finishing g (goal.at.returns-clause-changes g c).After-finish

bytes_are : (g : _) (c : In_ok-finish g) → Told g.H.Source g.H.Host c.args.host.now → of (g.H.Host.files c.finish.new.host) c.args.file ≡ started (of (g.H.Host.files c.args.host.now) c.args.file) c.args.epoch
bytes_are g c told =
    c.in_ok-finish.ensures.bytes (told_on c.begin.ensures.changes.uses told) _ (c.in_ok-begin.ensures.staged told)
    ∙ ap (λ (l : List ℕ). l ++ (1 ∷ (eight_bytes c.args.epoch ++ 0 ∷ []))) (c.in_ok-begin.ensures.birth told)

-- a start is the whole file written anew without groups
renewed_is : (old : List ℕ) (epoch : ℕ) → started old epoch ≡ renewed old epoch []
renewed_is old epoch = ap (λ (l : List ℕ). take 1 old ++ 1 ∷ (l ++ 0 ∷ [])) (sym (append-nil (eight_bytes epoch)))

pub returns-clause-bytes : goal.returns-clause-bytes
returns-clause-bytes g c = λ told. bytes_are g (goal.at.returns-clause-bytes g c).In_ok-finish told ∙ renewed_is _ c.args.epoch

pub returns-clause-groups : goal.returns-clause-groups
returns-clause-groups g c = λ told. renewed_groups _ _ c.args.epoch [] (c.requires.ready told).gate.within (omega (arith, c.ranges.epoch)) (omega arith) (returns-clause-bytes g c told)

fresh : (g : _) (c : In_ok-finish g) → Told g.H.Source g.H.Host c.args.host.now → IsAtRest (g.H.Host.files c.finish.new.host) (empty c.args.file c.args.epoch)
fresh g c told = started_fresh (g.H.Host.files c.args.host.now) (g.H.Host.files c.finish.new.host) c.args.file c.args.epoch (omega (arith, c.ranges.epoch)) (c.requires.ready told).gate.within (bytes_are g c told)

pub returns-clause-at_rest : goal.returns-clause-at_rest
returns-clause-at_rest g c = λ told. fresh g (goal.at.returns-clause-at_rest g c).In_ok-finish told

pub returns-clause-stands : goal.returns-clause-stands
returns-clause-stands g c = λ told. settled_stands _ _ (empty c.args.file c.args.epoch) (fresh g (goal.at.returns-clause-stands g c).In_ok-finish told).stands (c.in_ok-finish.ensures.settled (told_on c.begin.ensures.changes.uses told))
