-- What is beside the engine, behind a change of it.
use Rattle.std.proofs.Common.{◌≡◌, ◌≤◌, ℕ, Bool, true, false, List, [], ◌∷◌, ◌++◌, length, ap, arith}
use Rattle.std.specs.Prelude.{if◌then◌else◌}
use Rattle.hs_claims.specs.Session.{IsSession}
use Rattle.hs_lines.specs.Names.{IsKnown}
use Rattle.hs_schema.specs.Catalogue.{Text}
use Rattle.hs_turns.specs.Waiting.{Entry}
use Rattle.hs_scheduler.specs.Standing.{AreOf}

pub of_push : (names : List Text) (entries : List Entry) (e : Entry) → AreOf names entries → IsKnown names e.session → AreOf names (entries ++ e ∷ [])
of_push names [] e all known = (known, tt)
of_push names (x ∷ xs) e all known = (all.0, of_push names xs e all.1 known)

-- those of more sessions
pub of_more : (names more : List Text) (entries : List Entry) → length names ≤ length more → AreOf names entries → AreOf more entries
of_more names more [] le all = tt
of_more names more (x ∷ xs) le all = ((all.0.0, omega (arith, all.0.1, le)), of_more names more xs le all.1)

-- a number of one of the sessions
pub is_session_number : (names : List Text) (s : ℕ) → length names ≤ 64 → IsKnown names s → IsSession s
is_session_number names s few known = (known.0, omega (arith, known.1, few))

-- the same waiters, and an entry that isn't answered behind them
pub seen_behind : (final : Bool) (x y : List Entry) (e : Entry) → x ≡ y → (if final then x else x ++ e ∷ []) ≡ (if final then y else y ++ e ∷ [])
seen_behind final x y e is = ap (λ (l : List Entry). if final then l else l ++ e ∷ []) is

pub of_behind : (final : Bool) (names : List Text) (entries : List Entry) (e : Entry) → AreOf names entries → IsKnown names e.session → AreOf names (if final then entries else entries ++ e ∷ [])
of_behind true names entries e all known = all
of_behind false names entries e all known = of_push names entries e all known
