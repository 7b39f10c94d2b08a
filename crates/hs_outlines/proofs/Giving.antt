-- Names that are given one behind another.
use Rattle.std.proofs.Common.{◌≡◌, ℕ, Bool, true, false, ◌||◌, is_some, List, [], ◌∷◌, ◌++◌, Option, refl, sym, ap, subst, ◌∙◌, append_assoc, append-nil}
use Rattle.std.specs.Str.{bytes_eq}
use Rattle.std.proofs.lemmas.List.Sums.{fold-append}
use Rattle.hs_elements.specs.declared.names.ConstraintKind.{ConstraintKind}
use Rattle.hs_elements.specs.Faults.{Text, is_among}
use Rattle.hs_elements.specs.Names as elements
use Rattle.hs_elements.specs.Names.{IsLeastFree, is_held, numbered}
use Rattle.hs_plan.specs.declared.fault.PlacedFault.{PlacedFault}
use Rattle.hs_schema.specs.Catalogue.{Things, owner_of}
use Rattle.hs_typed.specs.Faults.{noted, with_fault}
use Rattle.hs_outlines.specs.declared.counters.Counters.{Counters}
use Rattle.hs_outlines.specs.declared.naming.Given.{Given}
use Rattle.hs_outlines.specs.declared.written.Written.{Written}
use Rattle.hs_outlines.specs.Counters.{AreTried, IsTried}
use Rattle.hs_outlines.specs.Given.{IsGiven}
use Rattle.hs_outlines.specs.Named.{AreNamed, IsName, clash, first_key, is_taken, name_faults, second}

-- where more is taken, what is tried stays so
pub still_tried : (taken more : Text → Bool) (table : Text) (its : ConstraintKind) (n : ℕ) → ((t : Text) → taken t ≡ true → more t ≡ true) → IsTried taken table its n → IsTried more table its n
still_tried taken more table its n grows tried = record { counts = tried.counts; tried = λ m low high. grows (numbered table its m) (tried.tried m low high) }

pub all_still_tried : (taken more : Text → Bool) (table : Text) (c : Counters) → ((t : Text) → taken t ≡ true → more t ≡ true) → AreTried taken table c → AreTried more table c
all_still_tried taken more table c grows tried = record {
  null = still_tried taken more table _ c.null grows tried.null;
  primary = still_tried taken more table _ c.primary grows tried.primary;
  unique = still_tried taken more table _ c.unique grows tried.unique;
  check = still_tried taken more table _ c.check grows tried.check;
  foreign = still_tried taken more table _ c.foreign grows tried.foreign;
}

-- the two ways to say that a name is taken
pub same_taken : (things : Things) (table : Text) (given : Given) → IsGiven things table given → (name : Text) → elements.is_taken things given.set name ≡ is_taken things given.names.items name
same_taken things table given is name = ap (λ b. b || is_some (owner_of things name)) (is.held name)

pub least_free : (taken more : Text → Bool) (table : Text) (its : ConstraintKind) (n : ℕ) → ((t : Text) → taken t ≡ more t) → IsLeastFree taken table its n → IsLeastFree more table its n
least_free taken more table its n same least = record {
  counts = least.counts;
  free = sym (same (numbered table its n)) ∙ least.free;
  least = λ m low high. sym (same (numbered table its m)) ∙ least.least m low high;
}

or_true : (a b c : Bool) → (a || b) ≡ true → ((a || c) || b) ≡ true
or_true true b c is = refl
or_true false b true is = refl
or_true false b false is = is

-- one name more
pub more_taken : (things : Things) (names : List Text) (name : Text) → ((t : Text) → is_among (names ++ name ∷ []) t ≡ (is_among names t || bytes_eq t name)) → (t : Text) → is_taken things names t ≡ true → is_taken things (names ++ name ∷ []) t ≡ true
more_taken things names name more t is =
    ap (λ b. b || is_some (owner_of things t)) (more t) ∙ or_true (is_among names t) (is_some (owner_of things t)) (bytes_eq t name) is

-- ---- one constraint more

pub record Told (things : Things) (table : Text) (names : List Text) (first : Option Text) (rest : List Written) (found : Option PlacedFault) (whole : List Written) (begun : Option Text) (old : Option PlacedFault) (ns : List Text) : Type 0 where
  pub named : AreNamed things table [] whole (names ++ ns)
  pub told : noted found (name_faults things names first rest ns) ≡ noted old (name_faults things [] begun whole (names ++ ns))

abbrev pub Tells : Things → Text → List Text → Option Text → List Written → Option PlacedFault → List Written → Option Text → Option PlacedFault → Type 0
Tells things table names first rest found whole begun old = (ns : List Text) → AreNamed things table names rest ns → Told things table names first rest found whole begun old ns

pub begun : (things : Things) (table : Text) (names : List Text) (first : Option Text) (whole : List Written) (old : Option PlacedFault) → names ≡ [] → Tells things table names first whole old whole first old
begun things table names first whole old empty =
    let none : Tells things table [] first whole old whole first old = λ ns named. record { named = named; told = refl } in
    subst (λ z. Tells things table z first whole old whole first old) (sym empty) none

pub ended : (things : Things) (table : Text) (names : List Text) (first : Option Text) (rest : List Written) (found : Option PlacedFault) (whole : List Written) (begun : Option Text) (old : Option PlacedFault)
    → rest ≡ [] → Tells things table names first rest found whole begun old
    → AreNamed things table [] whole names × (found ≡ noted old (name_faults things [] begun whole names))
ended things table names first rest found whole begun old empty tells =
    let last : Tells things table names first [] found whole begun old = subst (λ z. Tells things table names first z found whole begun old) empty tells in
    let told : Told things table names first [] found whole begun old [] = last [] tt in (
      subst (λ z. AreNamed things table [] whole z) (append-nil names) told.named,
      told.told ∙ ap (λ z. noted old (name_faults things [] begun whole z)) (append-nil names),
    )

pub next : (things : Things) (table : Text) (names : List Text) (first : Option Text) (w : Written) (rest : List Written) (found mid now : Option PlacedFault) (whole : List Written) (begun : Option Text) (old : Option PlacedFault) (name : Text)
    → Tells things table names first (w ∷ rest) found whole begun old → IsName things table names w name
    → mid ≡ noted found (clash things names w.name) → now ≡ noted mid (second first w)
    → Tells things table (names ++ name ∷ []) (first_key first w name) rest now whole begun old
next things table names first w rest found mid now whole begun old name tells is clashes seconds ns more =
    let told : Told things table names first (w ∷ rest) found whole begun old (name ∷ ns) = tells (name ∷ ns) (is, more) in
    let same : names ++ (name ∷ ns) ≡ (names ++ name ∷ []) ++ ns = sym (append_assoc names (name ∷ []) ns) in
    let faults : List PlacedFault = name_faults things (names ++ name ∷ []) (first_key first w name) rest ns in
    let here : noted now faults ≡ noted found (clash things names w.name ++ second first w ++ faults) =
    ap (λ s. noted s faults) (seconds ∙ ap (λ s. noted s (second first w)) clashes)
    ∙ sym (fold-append with_fault (noted found (clash things names w.name)) (second first w) faults)
    ∙ sym (fold-append with_fault found (clash things names w.name) (second first w ++ faults))
    ∙ ap (noted found) (sym (append_assoc (clash things names w.name) (second first w) faults)) in
    record {
      named = subst (λ z. AreNamed things table [] whole z) same told.named;
      told = here ∙ told.told ∙ ap (λ z. noted old (name_faults things [] begun whole z)) same;
    }
