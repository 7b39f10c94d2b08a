-- What a finished statement comes to, by its parts.
use Rattle.std.proofs.Common.{◌≡◌, ℕ, Bool, true, false, List, Option, Some, None, refl, sym}
use Rattle.std.specs.List.{list_any}
use Rattle.hs_claims.specs.declared.footprint.Footprint.{Footprint}
use Rattle.hs_turns.specs.Database.{Database}
use Rattle.hs_turns.specs.Language.{Outcome}
use Rattle.hs_language.specs.Outcomes.{kept_unless_long, kept_unless_violated}
use Rattle.hs_language.specs.Reading.{Reading}
use Rattle.hs_language.specs.Validity.{puts_long}
use Rattle.hs_outcome.specs.declared.given.Given.{Given}
use Rattle.hs_outcome.specs.declared.given.Given.TheVariants as g
use Rattle.hs_outcome.specs.Given.{finished, foot_of}
use Rattle.hs_plan.specs.declared.change.Change.{Change}
use Rattle.hs_plan.specs.declared.plan.Plan.{Plan}
use Rattle.hs_schema.specs.Catalogue.{Things}
use Rattle.hs_sentences.specs.declared.violation.Violation.{Violation}

-- ---- what it touches

by_length : (long : Bool) (count : ℕ) (changes : List Change) (foot : Footprint) → (kept_unless_long long count changes foot).foot ≡ foot
by_length true count changes foot = refl
by_length false count changes foot = refl

by_violation : (violation : Option Violation) (things : Things) (count : ℕ) (changes : List Change) (foot : Footprint) → (kept_unless_violated violation things count changes foot).foot ≡ foot
by_violation (Some v) things count changes foot = refl
by_violation None things count changes foot = by_length (list_any (puts_long things) changes) count changes foot

-- whatever it is told, it touches what it touches
pub foot_kept : (r : Reading) (db : Database) (plan : Plan) (violation : Option Violation) (things : Things) (given : Given) → foot_of r db plan given ≡ (finished violation things given (foot_of r db plan given)).foot
foot_kept r db plan violation things (g.Rows rows) = refl
foot_kept r db plan violation things (g.Changes changes count) = sym (by_violation violation things count changes (foot_of r db plan (g.Changes changes count)))
foot_kept r db plan violation things g.Locked = refl
foot_kept r db plan violation things g.Nothing = refl
foot_kept r db plan violation things (g.Fault fault) = refl

-- ---- the whole

pub made : (a b : Outcome) → a.rows ≡ b.rows → a.reply ≡ b.reply → a.changes ≡ b.changes → a.foot ≡ b.foot → a ≡ b
made a b rows reply changes foot = λ i. record { rows = rows i; reply = reply i; changes = changes i; foot = foot i }
