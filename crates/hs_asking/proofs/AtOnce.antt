-- What is refused at once, and what isn't.
use Rattle.std.proofs.Common.{◌≡◌, ◌&&◌, Bool, true, false, if◌then◌else◌, Result, Ok, Err, Option, None, Some, IfOk, IsOkAnd, refl, sym, ap, subst, ◌∙◌}
use Rattle.std.specs.Option.{option_map_or}
use Rattle.hs_asking.specs.Asking.{IsAdmitted}
use Rattle.hs_language.specs.Sql.{refused_by, writes}
use Rattle.hs_language.specs.Words.{read_only_words}
use Rattle.hs_plan.specs.declared.plan.Plan.{Plan}
use Rattle.hs_schema.specs.Catalogue.{Text}

abbrev by_test : Bool → Option Text
by_test refused = if refused then Some read_only_words else None

pub refused : (read_only : Bool) (plan : Plan) (why : Text) (test : Bool) → test ≡ (read_only && writes plan) → test ≡ true → why ≡ read_only_words → Some why ≡ refused_by read_only (Ok plan)
refused read_only plan why test is so told = ap (λ (t : Text). Some t) told ∙ ap by_test (sym so ∙ is)

pub kept : (read_only : Bool) (plan : Plan) (test : Bool) → test ≡ (read_only && writes plan) → test ≡ false → None ≡ refused_by read_only (Ok plan)
kept read_only plan test is so = ap by_test (sym so ∙ is)

-- what is answered by the reason against it
pub admitted_by : {E : Type 0} (read_only : Bool) (plan : Plan) (why : Result (Option Text) E) → IfOk why (λ w. w ≡ refused_by read_only (Ok plan)) → (told : Result Plan Text)
    → IsOkAnd why (λ w. told ≡ option_map_or (λ (text : Text). Err text) w (Ok plan)) → IsAdmitted read_only (Ok plan) told
admitted_by read_only plan (Ok (Some text)) is told so = subst (IsAdmitted read_only (Ok plan)) (sym so) (sym is)
admitted_by read_only plan (Ok None) is told so = subst (IsAdmitted read_only (Ok plan)) (sym so) (refl, sym is)
admitted_by read_only plan (Err e) is told so = absurd so
