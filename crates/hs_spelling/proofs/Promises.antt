-- What is still to be read, as a promise of what the building comes to: by induction over derivations of the literal grammar, for any meaning
-- of the rules under which each production keeps what its rule promises.
use Rattle.std.proofs.Common.{◌≡◌, ℕ, zero, suc, ◌+◌, ◌-◌, ◌<◌, ◌≤◌, List, [], ◌∷◌, ◌++◌, length, drop, map, Option, Some, None, slice_get, unwrap_or, refl, ap, sym, ◌∙◌, subst, arith}
use Rattle.hs_grammar.specs.declared.types.Item.{Item}
use Rattle.hs_grammar.specs.declared.types.Item.TheVariants as item
use Rattle.hs_grammar.specs.Grammar.{whole, tokens_of}
use Rattle.hs_lexer.specs.declared.token.Token.{Token}
use Rattle.hs_lexer.specs.declared.token.TokenKind.TheVariants.{Symbol}
use Rattle.hs_lexer.specs.Content.{written}
use Rattle.hs_builder.specs.declared.mark.Mark.{Mark}
use Rattle.hs_builder.specs.declared.part.Parts.{Parts}
use Rattle.hs_builder.specs.declared.part.Leaves.{Leaves}
use Rattle.hs_builder.specs.declared.part.PlacedNumber.{PlacedNumber}
use Rattle.hs_builder.specs.Leaves.{number_in}
use Rattle.hs_builder.specs.MarkSteps.{step}
use Rattle.hs_builder.specs.Steps.{Step, stands, deep, wrong, and_then, deepened, lift, Level, within, beyond, at_depth}
use Rattle.hs_parser.specs.Building.{token_at, marked, built}
use Rattle.hs_parser.specs.Marks.{steps}
use Rattle.hs_syntax.specs.Classes.{class_of}
use Rattle.hs_syntax.specs.Literal.{Part, word, span, scaled, mark, rule, Production, productions, production, Writes, ends, takes, takes_one, takes_scaled, builds, goes_on}
use Rattle.hs_syntax.specs.Names as class
use Rattle.hs_syntax.specs.Names.{number_0, number_1, number_38}
use Rattle.hs_spelling.specs.Tokens.{start_of, First, Word, Between}

-- what is said of the last token, the tokens that are left, and the parts so far
abbrev pub Claim : Type 1
Claim = Token → List Token → Parts → Type 0

-- what a step comes to, however deep a tree is
abbrev pub OnBuilt : Step Parts → (Parts → Type 0) → Type 0
OnBuilt (stands p) K = K p
OnBuilt (deep p) K = K p
OnBuilt wrong K = Unit {0}

pub on_depth : {S T : Type 0} (v : Level) (f : ℕ → S) (g : S → T) (h : T → Parts) (K : Parts → Type 0) → ((d : ℕ) → K (h (g (f d)))) → OnBuilt (lift (lift (at_depth v f) g) h) K
on_depth (within d) f g h K k = k d
on_depth (beyond d) f g h K k = k d

abbrev pub numbered : List ℕ → Token → Parts → Parts
numbered text t p = record p { leaves = record p.leaves { numbers = record { number = number_in (written text t); at = t.start } ∷ p.leaves.numbers } }

-- ---- places in the list of tokens

next : (f : Token → ℕ) (c : ℕ) (u : List ℕ) (rest : List Token) → c ∷ u ≡ map f rest → (t : Token) × (r : List Token) × (rest ≡ t ∷ r) × (f t ≡ c) × (u ≡ map f r)
next f c u [] h = cc
next f c u (t ∷ r) h = (t, r, refl, cc, cc)

none_left : (f : Token → ℕ) (rest : List Token) → [] ≡ map f rest → rest ≡ []
none_left f [] h = refl
none_left f (t ∷ r) h = cc

pub front : (tokens : List Token) (taken : ℕ) (t : Token) (r : List Token) → t ∷ r ≡ drop taken tokens → (token_at tokens taken ≡ t) × (r ≡ drop (taken + 1) tokens)
front [] zero t r h = cc
front [] (suc n) t r h = cc
front (x ∷ xs) zero t r h = (cc, cc)
front (x ∷ xs) (suc n) t r h =
    let i = front xs n t r h in
    let e : suc n + 1 ≡ suc (n + 1) = omega arith in
    (i.0, i.1 ∙ ap (λ z. drop z (x ∷ xs)) (sym e))

start_at : (tokens : List Token) (taken : ℕ) → (token_at tokens taken).start ≡ start_of (drop taken tokens)
start_at [] zero = refl
start_at [] (suc n) = refl
start_at (x ∷ xs) zero = refl
start_at (x ∷ xs) (suc n) = start_at xs n

though_deep : (x : Step Parts) (K : Parts → Type 0) → OnBuilt x K → OnBuilt (deepened x) K
though_deep (stands q) K h = h
though_deep (deep q) K h = h
though_deep wrong K h = h

built_on : (x : Step Parts) (f : Parts → Step Parts) (A B : Parts → Type 0) → OnBuilt x A → ((q : Parts) → A q → OnBuilt (f q) B) → OnBuilt (and_then x f) B
built_on (stands q) f A B h g = g q h
built_on (deep q) f A B h g = though_deep (f q) B (g q h)
built_on wrong f A B h g = tt

-- the place behind a token
pub record Passed (text : List ℕ) (tokens : List Token) (taken : ℕ) (rest : List Token) (c : ℕ) (u : List ℕ) : Type 0 where
  token : Token
  after : List Token
  is : rest ≡ token ∷ after
  class : class_of text token ≡ c
  found : token_at tokens taken ≡ token
  last : token ≡ token_at tokens (taken + 1 - 1)
  dropped : after ≡ drop (taken + 1) tokens
  spelt : u ≡ map (class_of text) after

passed : (text : List ℕ) (tokens : List Token) (taken : ℕ) (rest : List Token) (c : ℕ) (u : List ℕ) → rest ≡ drop taken tokens → c ∷ u ≡ map (class_of text) rest → Passed text tokens taken rest c u
passed text tokens taken rest c u f h =
    let i = next (class_of text) c u rest h in
    let j = front tokens taken i.0 i.1 (sym i.2 ∙ f) in
    let e : taken + 1 - 1 ≡ taken = omega arith in
    record { token = i.0; after = i.1; is = i.2; class = i.3; found = j.0; last = sym j.0 ∙ ap (token_at tokens) (sym e); dropped = j.1; spelt = i.4 }

-- a precision, a comma, and a scale that is not above it
pub record Scaled (text : List ℕ) (from rest : List Token) : Type 0 where
  pub first : Token
  pub then : List Token
  pub is : from ≡ first ∷ then
  pub least : number_1 ≤ class_of text first
  pub most : class_of text first ≤ number_38
  pub last : List Token
  pub comma : Word text class.comma then last
  pub second : Token
  pub ends : last ≡ second ∷ rest
  pub natural : number_0 ≤ class_of text second
  pub not_above : class_of text second ≤ class_of text first

module _ (text : List ℕ) where
  abbrev pub done : Option Mark → Token → List Token → Parts → Step Parts
  done (Some m) last rest p = step text last (start_of rest) m p
  done None last rest p = wrong

  pub same_step : (tokens : List Token) (taken : ℕ) (last : Token) (rest : List Token) (o : Option Mark) (p : Parts) → last ≡ token_at tokens (taken - 1) → rest ≡ drop taken tokens → marked text tokens taken o p ≡ done o last rest p
  same_step tokens taken last rest (Some m) p e f =
      ap (λ t. step text t (token_at tokens taken).start m p) (sym e) ∙ ap (λ here. step text last here m p) (start_at tokens taken ∙ ap start_of (sym f))
  same_step tokens taken last rest None p e f = refl

  module _ (means : ℕ → Token → List Token → Parts → Claim → Type 0) where
    -- what these parts of a production come to
    abbrev pub Promise : List Part → Token → List Token → Parts → Claim → Type 0
    Promise [] last rest p K = K last rest p
    Promise (word c ∷ s) last rest p K = (after : List Token) (w : Word text c rest after) → Promise s w.0 after p K
    Promise (span a b ∷ s) last rest p K = (after : List Token) (w : Between text a b rest after) → Promise s w.0 after p K
    Promise (scaled ∷ s) last rest p K = (after : List Token) (w : Scaled text rest after) → Promise s w.second after (numbered text w.second (numbered text w.first p)) K
    Promise (mark k ∷ s) last rest p K = OnBuilt (done (slice_get steps k) last rest p) (λ q. Promise s last rest q K)
    Promise (rule n ∷ s) last rest p K = means n last rest p (λ l r q. Promise s l r q K)

    -- one list of parts behind another
    behind : (a s : List Part) (K : Claim) → ◌≡◌ {A = Claim} (λ last rest p. Promise (a ++ s) last rest p K) (λ last rest p. Promise a last rest p (λ l r q. Promise s l r q K))
    behind [] s K = refl
    behind (word c ∷ a) s K = λ i last rest p. (after : List Token) (w : Word text c rest after) → behind a s K i w.0 after p
    behind (span a b ∷ v) s K = λ i last rest p. (after : List Token) (w : Between text a b rest after) → behind v s K i w.0 after p
    behind (scaled ∷ a) s K = λ i last rest p. (after : List Token) (w : Scaled text rest after) → behind a s K i w.second after (numbered text w.second (numbered text w.first p))
    behind (mark k ∷ a) s K = λ i last rest p. OnBuilt (done (slice_get steps k) last rest p) (λ q. behind a s K i last rest q)
    behind (rule n ∷ a) s K = λ i last rest p. means n last rest p (λ l r q. behind a s K i l r q)

    -- this production keeps what its rule promises
    abbrev pub Keeps : Production → Type 1
    Keeps x = (last : Token) (rest : List Token) (p : Parts) (K : Claim) → means x.from last rest p K → Promise x.parts last rest p K

    module _ (all : (n : ℕ) → n < length productions → Keeps (production n)) where
      given : (n k : ℕ) (s : List Part) (K : Claim) (last : Token) (rest : List Token) (p : Parts) → n < length productions → (production n).from ≡ k → Promise (rule k ∷ s) last rest p K → Promise ((production n).parts ++ s) last rest p K
      given n k s K last rest p h e m =
          subst (λ F. F last rest p) (sym (behind (production n).parts s K)) (all n h last rest p (λ l r q. Promise s l r q K) (subst (λ z. means z last rest p (λ l r q. Promise s l r q K)) (sym e) m))

      module _ (tokens : List Token) where
        -- where a promise is kept, up to the end of the tokens
        pub walk : {s : List Part} {items : List Item} → Writes whole s items → (taken : ℕ) (last : Token) (rest : List Token) (p : Parts) (K : Claim)
            → last ≡ token_at tokens (taken - 1) → rest ≡ drop taken tokens → tokens_of items ≡ map (class_of text) rest → Promise s last rest p K
            → OnBuilt (built text tokens taken items p) (λ q. (l : Token) × K l [] q)
        walk ends taken last rest p K e f h m = (last, subst (λ z. K last z p) (none_left (class_of text) rest h) m)
        walk (takes d) taken last rest p K e f h m =
            let i = passed text tokens taken rest _ _ f h in
            walk d (taken + 1) i.token i.after p K i.last i.dropped i.spelt (m i.after (i.token, i.is, i.class))
        walk (takes_one {a = a} {b = b} x y d) taken last rest p K e f h m =
            let i = passed text tokens taken rest _ _ f h in
            walk d (taken + 1) i.token i.after p K i.last i.dropped i.spelt (m i.after (i.token, i.is, (subst (λ z. a ≤ z) (sym i.class) x, subst (λ z. z ≤ b) (sym i.class) y)))
        walk (takes_scaled {d = low} {w = v} x y z w d) taken last rest p K e f h m =
            let i = passed text tokens taken rest _ _ f h in
            let j = passed text tokens (taken + 1) i.after _ _ i.dropped i.spelt in
            let k = passed text tokens (taken + 1 + 1) j.after _ _ j.dropped j.spelt in
            let n = m k.after (record {
              first = i.token;
              then = i.after;
              is = i.is;
              least = subst (λ c. number_1 ≤ c) (sym i.class) x;
              most = subst (λ c. c ≤ number_38) (sym i.class) y;
              last = j.after;
              comma = (j.token, j.is, j.class);
              second = k.token;
              ends = k.is;
              natural = subst (λ c. number_0 ≤ c) (sym k.class) z;
              not_above = subst (λ c. c ≤ class_of text i.token) (sym k.class) (subst (λ c. low ≤ c) (sym i.class) w);
            }) in
            subst (λ t. OnBuilt (built text tokens (taken + 1 + 1 + 1) v (numbered text (token_at tokens (taken + 1 + 1 + 1 - 1)) (numbered text t p))) (λ q. (l : Token) × K l [] q)) i.last
            (subst (λ t. OnBuilt (built text tokens (taken + 1 + 1 + 1) v (numbered text t (numbered text i.token p))) (λ q. (l : Token) × K l [] q)) k.last
            (walk d (taken + 1 + 1 + 1) k.token k.after (numbered text k.token (numbered text i.token p)) K k.last k.dropped k.spelt n))
        walk (builds {k = k} {s = s} {w = w} d) taken last rest p K e f h m =
            built_on (marked text tokens taken (slice_get steps k) p) (built text tokens taken w) (λ q. Promise s last rest q K) (λ q. (l : Token) × K l [] q)
            (subst (λ x. OnBuilt x (λ q. Promise s last rest q K)) (sym (same_step tokens taken last rest (slice_get steps k) p e f)) m)
            (λ q n. walk d taken last rest q K e f h n)
        walk (goes_on n x y d) taken last rest p K e f h m = walk d taken last rest p K e f h (given n _ _ K last rest p x y m)
