-- What headers show, and what files then are.
use Rattle.std.proofs.Common.{◌≡◌, ◌⊎◌, ℕ, ◌<◌, ◌≤◌, Bool, true, false, not, ◌&&◌, ◌||◌, ◌==◌, nat_lt, nat_le, if◌then◌else◌, List, [], ◌∷◌, length, slice_index, Option, Some, None, Result, Ok, Err, inl, inr, refl, sym, ◌∙◌, ap, subst, arith}
use Rattle.std.proofs.lemmas.Bool.{leb-true, le-leb, lt-ltb, le-ltb, ltb-true, ltb-false, eqb-true, eqb-false, eq-eqb, ne_eqb, true≢false}
use Rattle.hs_host.specs.declared.file_kind.FileKind.TheVariants.{Script0, Script1}
use Rattle.hs_host.specs.declared.file_kind.FileKind.TheVariants as file
use Rattle.hs_host.specs.Files.{Five, of}
use Rattle.hs_gate.specs.Groups.{is_open, is_born, epoch_of}
use Rattle.hs_gate.specs.Rewriting.{IsGroups}
use Rattle.hs_slots.specs.Points.{Point, slot, IsHeaded, IsOlder, Counts, IsSlot, StandFor, IsUnborn}
use Rattle.hs_slots.proofs.Parts.{open_headed, from_current, from_other}
use Rattle.hs_damages.specs.declared.damage.Damage.{Damage}
use Rattle.hs_damages.specs.declared.damage.Damage.TheVariants.{NoScript, Backup, Log}
use Rattle.hs_damages.specs.declared.headers.Current.{Current}
use Rattle.hs_damages.specs.declared.headers.Headers.{Headers}
use Rattle.hs_damages.specs.Damages.{is_second}
use Rattle.hs_damages.specs.Sighting.{is_there, is_headed, open_epoch, headers_of, has_behind_backup, has_behind_log, are_born, are_headed, current_of, is_newer, sighted, sighted_with}

pub both : (a b : Bool) → (a && b) ≡ true → (a ≡ true) × (b ≡ true)
both true b e = (refl, e)
both false b e = cc

pub neither : (a b : Bool) → (a || b) ≡ false → (a ≡ false) × (b ≡ false)
neither true b e = cc
neither false b e = (refl, e)

pub all_true : (a b : Bool) → a ≡ true → b ≡ true → (a && b) ≡ true
all_true true b so also = also
all_true false b so also = cc

not_there : (bytes : List ℕ) → is_there bytes ≡ false → bytes ≡ []
not_there [] e = refl
not_there (b ∷ bytes) e = absurd (true≢false (sym (lt-ltb 0 (length (b ∷ bytes)) (omega arith)) ∙ e))

-- the order of damages
abbrev chosen : Bool → Bool → Bool → Bool → Result (Option Current) Damage → Result (Option Current) Damage
chosen a b c d x = if a then Err (Log 0) else if b then Err (Backup 0) else if not c then Ok None else if not d then Err NoScript else x

none_by : (a b c d : Bool) (x : Result (Option Current) Damage) → (x ≡ Ok None → ⊥) → chosen a b c d x ≡ Ok None → (a ≡ false) × (b ≡ false) × (c ≡ false)
none_by true b c d x isnt is = cc
none_by false true c d x isnt is = cc
none_by false false true true x isnt is = absurd (isnt is)
none_by false false true false x isnt is = cc
none_by false false false d x isnt is = (refl, refl, refl)

chosen_none : (a b c d : Bool) (x : Result (Option Current) Damage) → a ≡ false → b ≡ false → c ≡ false → chosen a b c d x ≡ Ok None
chosen_none false false false d x fa fb fc = refl
chosen_none true b c d x fa fb fc = cc
chosen_none false true c d x fa fb fc = cc
chosen_none false false true d x fa fb fc = cc

some_by : (a b c d : Bool) (x : Result (Option Current) Damage) (current : Current) → chosen a b c d x ≡ Ok (Some current) → (c ≡ true) × (d ≡ true) × (x ≡ Ok (Some current))
some_by true b c d x current is = cc
some_by false true c d x current is = cc
some_by false false true true x current is = (refl, refl, is)
some_by false false true false x current is = cc
some_by false false false d x current is = cc

chosen_some : (a b c d : Bool) (x : Result (Option Current) Damage) → a ≡ false → b ≡ false → c ≡ true → d ≡ true → chosen a b c d x ≡ x
chosen_some false false true true x fa fb tc td = refl
chosen_some true b c d x fa fb tc td = cc
chosen_some false true c d x fa fb tc td = cc
chosen_some false false false d x fa fb tc td = cc
chosen_some false false true false x fa fb tc td = cc

newer_none : (newer : Bool) (current : Current) → (if newer then Err NoScript else Ok (Some current)) ≡ Ok None → ⊥
newer_none true current is = cc
newer_none false current is = cc

with_none : (h : Headers) (o : Option Current) → sighted_with h o ≡ Ok None → ⊥
with_none h None is = cc
with_none h (Some current) is = newer_none (is_newer h.log.epoch current.epoch || is_newer h.backup.epoch current.epoch) current is

newer_some : (newer : Bool) (one current : Current) → (if newer then Err NoScript else Ok (Some one)) ≡ Ok (Some current) → (newer ≡ false) × (one ≡ current)
newer_some true one current is = cc
newer_some false one current is = (refl, cc)

with_some : (h : Headers) (o : Option Current) (current : Current) → sighted_with h o ≡ Ok (Some current) → (o ≡ Some current) × (is_newer h.log.epoch current.epoch ≡ false) × (is_newer h.backup.epoch current.epoch ≡ false)
with_some h None current is = cc
with_some h (Some one) current is =
    let s = newer_some (is_newer h.log.epoch one.epoch || is_newer h.backup.epoch one.epoch) one current is in
    let n = neither (is_newer h.log.epoch one.epoch) (is_newer h.backup.epoch one.epoch) s.0 in (
      ap (λ (c : Current). Some c) s.1,
      ap (λ (c : Current). is_newer h.log.epoch c.epoch) (sym s.1) ∙ n.0,
      ap (λ (c : Current). is_newer h.backup.epoch c.epoch) (sym s.1) ∙ n.1,
    )

-- files that stand for nothing as yet

behind_none : (there behind : Bool) → (not there && behind) ≡ false → there ≡ false → behind ≡ false
behind_none true behind is gone = cc
behind_none false behind is gone = is

none_behind : (f : Five (List ℕ)) → has_behind_backup (headers_of f) ≡ false → (f.script0 ≡ []) × (f.script1 ≡ []) × (f.data_ ≡ [])
none_behind f is =
    let p = neither (is_there f.script0 || is_there f.script1) (is_there f.data_) is in
    let q = neither (is_there f.script0) (is_there f.script1) p.0 in
    (not_there f.script0 q.0, not_there f.script1 q.1, not_there f.data_ p.1)

pub none_unborn : (f : Five (List ℕ)) → sighted (headers_of f) ≡ Ok None → IsUnborn f
none_unborn f is =
    let h = headers_of f in
    let o = current_of h.script0.epoch h.script1.epoch in
    let t = none_by (not h.log.is_there && has_behind_log h) (not h.backup.is_there && has_behind_backup h) (are_born h) (are_headed h) (sighted_with h o) (with_none h o) is in
    record {
      unborn = λ log backup. true≢false (sym (let so : (is_born f.log && is_born f.backup) ≡ true = rw (log, backup) refl in so) ∙ t.2);
      backup = λ none. none_behind f (behind_none (is_there f.backup) (has_behind_backup h) t.1 (ap is_there none));
      log = λ none.
          let p = neither (has_behind_backup h) (is_there f.backup) (behind_none (is_there f.log) (has_behind_log h) t.0 (ap is_there none)) in
          let n = none_behind f p.0 in
          (n.0, n.1, n.2, not_there f.backup p.1);
    }

no_behind : (there behind : Bool) (bytes : List ℕ) → is_there bytes ≡ there → (bytes ≡ [] → behind ≡ false) → (not there && behind) ≡ false
no_behind true behind bytes is f = refl
no_behind false behind bytes is f = f (not_there bytes is)

empty_behind : (f : Five (List ℕ)) → f.script0 ≡ [] → f.script1 ≡ [] → f.data_ ≡ [] → has_behind_backup (headers_of f) ≡ false
empty_behind f first second pages =
    let a : is_there f.script0 ≡ false = ap is_there first in
    let b : is_there f.script1 ≡ false = ap is_there second in
    let c : is_there f.data_ ≡ false = ap is_there pages in
    rw (a, b, c) refl

no_both : (a b : Bool) → (a ≡ true → b ≡ true → ⊥) → (a && b) ≡ false
no_both true true f = absurd (f refl refl)
no_both true false f = refl
no_both false b f = refl

pub unborn_none : (f : Five (List ℕ)) → IsUnborn f → sighted (headers_of f) ≡ Ok None
unborn_none f unborn =
    let h = headers_of f in
    chosen_none (not h.log.is_there && has_behind_log h) (not h.backup.is_there && has_behind_backup h) (are_born h) (are_headed h) (sighted_with h (current_of h.script0.epoch h.script1.epoch))
    (no_behind h.log.is_there (has_behind_log h) f.log refl (λ none.
    let n = unborn.log none in
    let a : has_behind_backup h ≡ false = empty_behind f n.0 n.1 n.2 in
    let b : is_there f.backup ≡ false = ap is_there n.3 in
    rw (a, b) refl))
    (no_behind h.backup.is_there (has_behind_backup h) f.backup refl (λ none. let n = unborn.backup none in empty_behind f n.0 n.1 n.2))
    (no_both (is_born f.log) (is_born f.backup) unborn.unborn)

-- which slot is the current one

if_some : (b : Bool) (x e : ℕ) → (if b then Some x else None) ≡ Some e → (b ≡ true) × (x ≡ e)
if_some true x e is = (refl, cc)
if_some false x e is = cc

if_none : (b : Bool) (x : ℕ) → (if b then Some x else None) ≡ None → b ≡ false
if_none true x is = cc
if_none false x is = refl

pub open_some : (bytes : List ℕ) (e : ℕ) → open_epoch bytes ≡ Some e → (is_open bytes ≡ true) × (epoch_of bytes ≡ e)
open_some bytes e is = if_some (is_open bytes) (epoch_of bytes) e is

pub open_none : (bytes : List ℕ) → open_epoch bytes ≡ None → is_open bytes ≡ false
open_none bytes is = if_none (is_open bytes) (epoch_of bytes) is

-- The slot is open with its epoch, and the other one isn't open or older.
pub record IsCurrent (f : Five (List ℕ)) (current : Current) : Type 0 where
  pub opened : is_open (of f current.slot) ≡ true
  pub epoch_is : epoch_of (of f current.slot) ≡ current.epoch
  pub slot_is : slot (is_second current.slot) ≡ current.slot
  pub older : is_open (of f (slot (not (is_second current.slot)))) ≡ true → epoch_of (of f (slot (not (is_second current.slot)))) < current.epoch

first_is : (f : Five (List ℕ)) (e : ℕ) → open_epoch f.script0 ≡ Some e → (is_open f.script1 ≡ true → epoch_of f.script1 < e) → IsCurrent f (record { slot = Script0; epoch = e })
first_is f e is older = let o = open_some f.script0 e is in record { opened = o.0; epoch_is = o.1; slot_is = refl; older = older }

second_is : (f : Five (List ℕ)) (e : ℕ) → open_epoch f.script1 ≡ Some e → (is_open f.script0 ≡ true → epoch_of f.script0 < e) → IsCurrent f (record { slot = Script1; epoch = e })
second_is f e is older = let o = open_some f.script1 e is in record { opened = o.0; epoch_is = o.1; slot_is = refl; older = older }

never : (bytes : List ℕ) (e : ℕ) → open_epoch bytes ≡ None → is_open bytes ≡ true → epoch_of bytes < e
never bytes e is opened = absurd (true≢false (sym opened ∙ open_none bytes is))

less_by : (x d e : ℕ) → x ≡ e → e ≤ d → (d ≡ e → ⊥) → x < d
less_by x d e is le other = omega (arith, is, le, other)

by_order : (f : Five (List ℕ)) (d e : ℕ) (same less : Bool) (current : Current) → (d == e) ≡ same → nat_lt d e ≡ less → open_epoch f.script0 ≡ Some d → open_epoch f.script1 ≡ Some e
    → (if same then None else if less then Some (record { slot = Script1; epoch = e }) else Some (record { slot = Script0; epoch = d })) ≡ Some current → IsCurrent f current
by_order f d e true less current same_is less_is one two is = cc
by_order f d e false true current same_is less_is one two is =
    subst (IsCurrent f) (let it : record { slot = Script1; epoch = e } ≡ current = cc in it) (second_is f e two (λ opened. let o = open_some f.script0 d one in omega (arith, o.1, ltb-true d e less_is)))
by_order f d e false false current same_is less_is one two is =
    subst (IsCurrent f) (let it : record { slot = Script0; epoch = d } ≡ current = cc in it)
    (first_is f d one (λ opened. let o = open_some f.script1 e two in let other = eqb-false d e same_is in let le = ltb-false d e less_is in less_by (epoch_of f.script1) d e o.1 le other))

by_epochs : (f : Five (List ℕ)) (o p : Option ℕ) (current : Current) → open_epoch f.script0 ≡ o → open_epoch f.script1 ≡ p → current_of o p ≡ Some current → IsCurrent f current
by_epochs f None None current one two is = cc
by_epochs f (Some d) None current one two is = subst (IsCurrent f) (let it : record { slot = Script0; epoch = d } ≡ current = cc in it) (first_is f d one (never f.script1 d two))
by_epochs f None (Some e) current one two is = subst (IsCurrent f) (let it : record { slot = Script1; epoch = e } ≡ current = cc in it) (second_is f e two (never f.script0 e one))
by_epochs f (Some d) (Some e) current one two is = by_order f d e (d == e) (nat_lt d e) current refl refl one two is

headed_by : (short second : Bool) → (if second then short else true) ≡ true → second ≡ true → short ≡ true
headed_by short true is so = is
headed_by short false is so = cc

headed : (bytes : List ℕ) → is_headed bytes ≡ true → IsHeaded bytes
headed bytes is =
    let b = both (nat_le 2 (length bytes)) (if slice_index bytes 1 == 1 then nat_le 11 (length bytes) else true) is in
    record { two = leb-true 2 (length bytes) b.0; whole = λ gate. leb-true 11 (length bytes) (headed_by (nat_le 11 (length bytes)) (slice_index bytes 1 == 1) b.1 (eq-eqb (slice_index bytes 1) 1 gate)) }

-- what headers without damage show
pub record IsShown (f : Five (List ℕ)) (current : Current) : Type 0 where
  pub log_born : is_born f.log ≡ true
  pub backup_born : is_born f.backup ≡ true
  pub script0 : IsHeaded f.script0
  pub script1 : IsHeaded f.script1
  pub log : IsHeaded f.log
  pub backup : IsHeaded f.backup
  pub slot_is : IsCurrent f current
  pub log_not : is_newer (open_epoch f.log) current.epoch ≡ false
  pub backup_not : is_newer (open_epoch f.backup) current.epoch ≡ false

pub shown : (f : Five (List ℕ)) (current : Current) → sighted (headers_of f) ≡ Ok (Some current) → IsShown f current
shown f current is =
    let h = headers_of f in
    let o = current_of h.script0.epoch h.script1.epoch in
    let t = some_by (not h.log.is_there && has_behind_log h) (not h.backup.is_there && has_behind_backup h) (are_born h) (are_headed h) (sighted_with h o) current is in
    let born = both (is_born f.log) (is_born f.backup) t.0 in
    let three = both (is_headed f.script0 && is_headed f.script1 && is_headed f.log) (is_headed f.backup) t.1 in
    let two = both (is_headed f.script0 && is_headed f.script1) (is_headed f.log) three.0 in
    let one = both (is_headed f.script0) (is_headed f.script1) two.0 in
    let w = with_some h o current t.2 in
    record {
      log_born = born.0;
      backup_born = born.1;
      script0 = headed f.script0 one.0;
      script1 = headed f.script1 one.1;
      log = headed f.log two.1;
      backup = headed f.backup three.1;
      slot_is = by_epochs f (open_epoch f.script0) (open_epoch f.script1) current refl refl w.0;
      log_not = w.1;
      backup_not = w.2;
    }

-- and back: what is shown of files that stand for a point

by_gate : (bytes : List ℕ) (gate : Bool) → (slice_index bytes 1 == 1) ≡ gate → IsHeaded bytes → (if gate then nat_le 11 (length bytes) else true) ≡ true
by_gate bytes true gate is = le-leb 11 (length bytes) (is.whole (eqb-true (slice_index bytes 1) 1 gate))
by_gate bytes false gate is = refl

back_headed : (bytes : List ℕ) → IsHeaded bytes → is_headed bytes ≡ true
back_headed bytes is =
    let two : nat_le 2 (length bytes) ≡ true = le-leb 2 (length bytes) is.two in
    let whole : (if slice_index bytes 1 == 1 then nat_le 11 (length bytes) else true) ≡ true = by_gate bytes (slice_index bytes 1 == 1) refl is in
    all_true (nat_le 2 (length bytes)) (if slice_index bytes 1 == 1 then nat_le 11 (length bytes) else true) two whole

opened_epoch : (bytes : List ℕ) (e : ℕ) → is_open bytes ≡ true → epoch_of bytes ≡ e → open_epoch bytes ≡ Some e
opened_epoch bytes e opened is = rw opened (ap (λ (n : ℕ). Some n) is)

older_by : (e : ℕ) (bytes : List ℕ) (b : Bool) → is_open bytes ≡ b → IsOlder e bytes → (open_epoch bytes ≡ None) ⊎ ((d : ℕ) × (open_epoch bytes ≡ Some d) × (d < e))
older_by e bytes true is older = inr (epoch_of bytes, opened_epoch bytes (epoch_of bytes) is refl, older.older is)
older_by e bytes false is older = inl (rw is refl)

older_epoch : (e : ℕ) (bytes : List ℕ) → IsOlder e bytes → (open_epoch bytes ≡ None) ⊎ ((d : ℕ) × (open_epoch bytes ≡ Some d) × (d < e))
older_epoch e bytes older = older_by e bytes (is_open bytes) refl older

groups_epoch : (e : ℕ) (payloads : List (List ℕ)) (bytes : List ℕ) → IsGroups e payloads bytes → open_epoch bytes ≡ Some e
groups_epoch e payloads bytes groups = opened_epoch bytes e groups.opened groups.epoch_is

older_not : (e : ℕ) (bytes : List ℕ) → IsOlder e bytes → is_newer (open_epoch bytes) e ≡ false
older_not e bytes older = elim (older_epoch e bytes older) [
  | inl none ↦ ap (λ (o : Option ℕ). is_newer o e) none
  | inr some ↦ ap (λ (o : Option ℕ). is_newer o e) some.1 ∙ le-ltb e some.0 (let less = some.2 in omega (arith, less))
]

counts_not : (e : ℕ) (payloads : List (List ℕ)) (bytes : List ℕ) → Counts e payloads bytes → (IsHeaded bytes) × (is_newer (open_epoch bytes) e ≡ false)
counts_not e payloads bytes (inl groups) = (open_headed bytes groups.opened, ap (λ (o : Option ℕ). is_newer o e) (groups_epoch e payloads bytes groups) ∙ le-ltb e e (omega arith))
counts_not e payloads bytes (inr none) = (none.0.headed, older_not e bytes none.0)

second_current : (f : Five (List ℕ)) (e : ℕ) (payloads : List (List ℕ)) → IsOlder e f.script0 → IsGroups e payloads f.script1 → current_of (open_epoch f.script0) (open_epoch f.script1) ≡ Some (record { slot = Script1; epoch = e })
second_current f e payloads older groups = elim (older_epoch e f.script0 older) [
  | inl none ↦ rw (none, groups_epoch e payloads f.script1 groups) refl
  | inr some ↦
      let less = some.2 in
      let other : (some.0 == e) ≡ false = ne_eqb some.0 e (λ is. omega (arith, is, less)) in
      let lt : nat_lt some.0 e ≡ true = lt-ltb some.0 e less in
      rw (some.1, groups_epoch e payloads f.script1 groups, other, lt) refl
]

first_current : (f : Five (List ℕ)) (e : ℕ) (payloads : List (List ℕ)) → IsOlder e f.script1 → IsGroups e payloads f.script0 → current_of (open_epoch f.script0) (open_epoch f.script1) ≡ Some (record { slot = Script0; epoch = e })
first_current f e payloads older groups = elim (older_epoch e f.script1 older) [
  | inl none ↦ rw (groups_epoch e payloads f.script0 groups, none) refl
  | inr some ↦
      let less = some.2 in
      let other : (e == some.0) ≡ false = ne_eqb e some.0 (λ is. omega (arith, is, less)) in
      let lt : nat_lt e some.0 ≡ false = le-ltb e some.0 (omega (arith, less)) in
      rw (groups_epoch e payloads f.script0 groups, some.1, other, lt) refl
]

current_is : (p : Point) (f : Five (List ℕ)) (second : Bool) → p.second ≡ second → StandFor p f → current_of (open_epoch f.script0) (open_epoch f.script1) ≡ Some (record { slot = slot second; epoch = p.epoch })
current_is p f true is stand = second_current f p.epoch p.base (from_other p f.script0 true is (stand Script0)) (from_current p f.script1 true is (stand Script1))
current_is p f false is stand = first_current f p.epoch p.base (from_other p f.script1 false is (stand Script1)) (from_current p f.script0 false is (stand Script0))

slot_headed : (p : Point) (b : Bool) (bytes : List ℕ) → IsSlot p b bytes → IsHeaded bytes
slot_headed p true bytes groups = open_headed bytes groups.opened
slot_headed p false bytes older = older.headed

born_there : (bytes : List ℕ) (behind : Bool) → is_born bytes ≡ true → (not (is_there bytes) && behind) ≡ false
born_there bytes behind born = let there : is_there bytes ≡ true = (both (is_there bytes) (slice_index bytes 0 == 1) born).0 in rw there refl

pub stands_shown : (p : Point) (f : Five (List ℕ)) → StandFor p f → sighted (headers_of f) ≡ Ok (Some (record { slot = slot p.second; epoch = p.epoch }))
stands_shown p f stand =
    let h = headers_of f in
    let o = current_of h.script0.epoch h.script1.epoch in
    let log = counts_not p.epoch p.logged f.log (stand file.Log).counts in
    let backup = counts_not p.epoch p.images f.backup (stand file.Backup).counts in
    let one : (is_headed f.script0 && is_headed f.script1) ≡ true = all_true _ _ (back_headed f.script0 (slot_headed p (not p.second) f.script0 (stand Script0))) (back_headed f.script1 (slot_headed p p.second f.script1 (stand Script1))) in
    let two : (is_headed f.script0 && is_headed f.script1 && is_headed f.log) ≡ true = all_true _ _ one (back_headed f.log log.0) in
    chosen_some (not h.log.is_there && has_behind_log h) (not h.backup.is_there && has_behind_backup h) (are_born h) (are_headed h) (sighted_with h o)
    (born_there f.log (has_behind_log h) (stand file.Log).born)
    (born_there f.backup (has_behind_backup h) (stand file.Backup).born)
    (all_true (is_born f.log) (is_born f.backup) (stand file.Log).born (stand file.Backup).born)
    (all_true (is_headed f.script0 && is_headed f.script1 && is_headed f.log) (is_headed f.backup) two (back_headed f.backup backup.0))
    ∙ ap (λ (c : Option Current). sighted_with h c) (current_is p f p.second refl stand)
    ∙ rw (log.1, backup.1) refl
