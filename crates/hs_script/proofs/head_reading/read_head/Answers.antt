use Rattle.std.proofs.Common.{◌≡◌, ℕ, Bool}
use Rattle.hs_claims.specs.declared.model.ControlKind.{ControlKind}
use Rattle.hs_valuetext.proofs.Bits.{not_both}
use Rattle.hs_script.specs.declared.head.Head.{Head}
use Rattle.hs_script.proofs.HeadLemmas.{Agrees, commits_agree, no_commits, changes_agree, no_changes, pages_agree, no_pages, control_agrees, no_control, no_level, behind_commits, behind_changes, behind_pages, IsRead, head_found, head_unlawful}
use Rattle.hs_script.proofs.head_reading.read_head.Goals as goal

pub returns-in_default : goal.returns-in_default
returns-in_default c = no_commits c.args.text.now c.in_default.ensures

pub returns-in_default-read_count : goal.returns-in_default-read_count
returns-in_default-read_count c =
    let text = c.args.text.now in
    no_changes text c.in-Some.after_commits.now (λ h is. (commits_agree text c.in-Some.after_commits.now c.in-Some.commits c.in-Some.ensures h is).1) c.in_default-read_count.ensures

pub returns-in_default-read_count-2 : goal.returns-in_default-read_count-2
returns-in_default-read_count-2 c =
    let text = c.args.text.now in
    no_pages text c.in-Some-read_count.after_changes.now
    (λ h is. (changes_agree text c.in-Some.after_commits.now c.in-Some-read_count.after_changes.now c.in-Some-read_count.changes (λ x i. (commits_agree text c.in-Some.after_commits.now c.in-Some.commits c.in-Some.ensures x i).1) c.in-Some-read_count.ensures h is).1)
    c.in_default-read_count-2.ensures

pub returns-in_default-read_control : goal.returns-in_default-read_control
returns-in_default-read_control c =
    let text = c.args.text.now in
    let first : Agrees text (λ h. behind_commits h ≡ c.in-Some.after_commits.now) = λ h is. (commits_agree text c.in-Some.after_commits.now c.in-Some.commits c.in-Some.ensures h is).1 in
    let second : Agrees text (λ h. behind_changes h ≡ c.in-Some-read_count.after_changes.now) = λ h is. (changes_agree text c.in-Some.after_commits.now c.in-Some-read_count.after_changes.now c.in-Some-read_count.changes first c.in-Some-read_count.ensures h is).1 in
    no_control text c.in-Some-read_count-2.after_pages.now
    (λ h is. (pages_agree text c.in-Some-read_count.after_changes.now c.in-Some-read_count-2.after_pages.now c.in-Some-read_count-2.pages second c.in-Some-read_count-2.ensures h is).1)
    c.in_default-read_control.ensures

pub returns-in_default-read_last : goal.returns-in_default-read_last
returns-in_default-read_last c =
    let text = c.args.text.now in
    let first : Agrees text (λ h. behind_commits h ≡ c.in-Some.after_commits.now) = λ h is. (commits_agree text c.in-Some.after_commits.now c.in-Some.commits c.in-Some.ensures h is).1 in
    let second : Agrees text (λ h. behind_changes h ≡ c.in-Some-read_count.after_changes.now) = λ h is. (changes_agree text c.in-Some.after_commits.now c.in-Some-read_count.after_changes.now c.in-Some-read_count.changes first c.in-Some-read_count.ensures h is).1 in
    let third : Agrees text (λ h. behind_pages h ≡ c.in-Some-read_count-2.after_pages.now) = λ h is. (pages_agree text c.in-Some-read_count.after_changes.now c.in-Some-read_count-2.after_pages.now c.in-Some-read_count-2.pages second c.in-Some-read_count-2.ensures h is).1 in
    no_level text c.in-Some-read_control.after_control.now
    (λ h is. (control_agrees text c.in-Some-read_count-2.after_pages.now c.in-Some-read_control.after_control.now c.in-Some-read_control.control third c.in-Some-read_control.ensures h is).1)
    c.in_default-read_last.ensures

abbrev made : (commits changes pages : ℕ) → ControlKind → Bool → Head
made commits changes pages control serializable = record { commits = record { 0 = commits }; changes = changes; pages = pages; control = control; serializable = serializable }

pub returns-then-is_lawful : goal.returns-then-is_lawful
returns-then-is_lawful c =
    let text = c.args.text.now in
    let head : Head = made c.in-Some.commits c.in-Some-read_count.changes c.in-Some-read_count-2.pages c.in-Some-read_control.control c.in-Some-read_last.serializable in
    let read : IsRead text head = record {
      after_commits = c.in-Some.after_commits.now;
      after_changes = c.in-Some-read_count.after_changes.now;
      after_pages = c.in-Some-read_count-2.after_pages.now;
      after_control = c.in-Some-read_control.after_control.now;
      commits = c.in-Some.ensures;
      changes = c.in-Some-read_count.ensures;
      pages = c.in-Some-read_count-2.ensures;
      control = c.in-Some-read_control.ensures;
      level = c.in-Some-read_last.ensures;
    } in
    head_found text head read (c.is_lawful.ensures.0 c.if-is_lawful.true)

pub returns-else-is_lawful : goal.returns-else-is_lawful
returns-else-is_lawful c =
    let text = c.args.text.now in
    let head : Head = made c.in-Some.commits c.in-Some-read_count.changes c.in-Some-read_count-2.pages c.in-Some-read_control.control c.in-Some-read_last.serializable in
    let read : IsRead text head = record {
      after_commits = c.in-Some.after_commits.now;
      after_changes = c.in-Some-read_count.after_changes.now;
      after_pages = c.in-Some-read_count-2.after_pages.now;
      after_control = c.in-Some-read_control.after_control.now;
      commits = c.in-Some.ensures;
      changes = c.in-Some-read_count.ensures;
      pages = c.in-Some-read_count-2.ensures;
      control = c.in-Some-read_control.ensures;
      level = c.in-Some-read_last.ensures;
    } in
    head_unlawful text head read (λ lawful. not_both c.is_lawful.result (c.is_lawful.ensures.1 lawful) c.if-is_lawful.false)
