-- Contents between quotes.
use Rattle.std.proofs.Common.{◌≡◌, ◌≢◌, ℕ, suc, ◌<◌, true, false, List, [], ◌∷◌, ◌++◌, length, get_or, inl, inr, refl, sym, ap, subst, ◌∙◌, append_assoc, arith}
use Rattle.std.proofs.lemmas.List.Concat.{flat_map-append}
use Rattle.hs_valuetext.specs.Quotes.{doubled_byte, doubled, quoted, begins_with, Closes, IsQuoted}
use Rattle.hs_valuetext.proofs.Bits.{same_or_not, not_both}

-- the byte isn't in the list
abbrev pub Lacks : ℕ → List ℕ → Type 0
Lacks q [] = Unit {0}
Lacks q (x ∷ xs) = (x ≢ q) × Lacks q xs

pub lacks_each : (q : ℕ) (xs : List ℕ) → ((i : ℕ) → i < length xs → get_or xs i 0 ≢ q) → Lacks q xs
lacks_each q [] h = tt
lacks_each q (x ∷ xs) h = (h 0 (omega arith), lacks_each q xs (λ i lt. h (suc i) (omega arith)))

pub lacks_not : (q : ℕ) (xs ys : List ℕ) → Lacks q (xs ++ q ∷ ys) → ⊥
lacks_not q [] ys h = h.0 refl
lacks_not q (x ∷ xs) ys h = lacks_not q xs ys h.1

-- two parts in front of the byte
pub split_lacks : (q : ℕ) (a b c d : List ℕ) → Lacks q a → Lacks q c → a ++ q ∷ b ≡ c ++ q ∷ d → (a ≡ c) × (b ≡ d)
split_lacks q [] b [] d ha hc e = (refl, cc)
split_lacks q [] b (y ∷ c) d ha hc e = let first : q ≡ y = cc in absurd (hc.0 (sym first))
split_lacks q (x ∷ a) b [] d ha hc e = let first : x ≡ q = cc in absurd (ha.0 first)
split_lacks q (x ∷ a) b (y ∷ c) d ha hc e =
    let first : x ≡ y = cc in
    let behind : a ++ q ∷ b ≡ c ++ q ∷ d = cc in
    let more = split_lacks q a b c d ha.1 hc.1 behind in
    ((λ i. first i ∷ more.0 i), more.1)

once : (q b : ℕ) → b ≢ q → doubled_byte q b ≡ b ∷ []
once q b other = elim (same_or_not b q) [
  | inl same ↦ absurd (other same.0)
  | inr not ↦ rw not.1 refl
]

twice : (q : ℕ) → doubled_byte q q ≡ q ∷ q ∷ []
twice q = elim (same_or_not q q) [
  | inl same ↦ rw same.1 refl
  | inr not ↦ absurd (not.0 refl)
]

pub doubled-lacks : (q : ℕ) (xs : List ℕ) → Lacks q xs → doubled q xs ≡ xs
doubled-lacks q [] h = refl
doubled-lacks q (x ∷ xs) h = rw (once q x h.0, doubled-lacks q xs h.1)

-- a front without the quote, and the first quote
pub doubled-front : (q : ℕ) (front behind : List ℕ) → Lacks q front → doubled q (front ++ q ∷ behind) ≡ front ++ (q ∷ q ∷ doubled q behind)
doubled-front q front behind h =
    flat_map-append (doubled_byte q) front (q ∷ behind)
    ∙ ap (λ (xs : List ℕ). xs ++ doubled q (q ∷ behind)) (doubled-lacks q front h)
    ∙ ap (λ (xs : List ℕ). front ++ (xs ++ doubled q behind)) (twice q)

-- without a quote nothing is closed
pub unclosed : (q : ℕ) (text : List ℕ) → Lacks q text → (content rest : List ℕ) → ¬ (Closes q text content rest)
unclosed q text h content rest c = lacks_not q (doubled q content) rest (subst (Lacks q) c.written h)

begun_by : (q : ℕ) (xs ys : List ℕ) → xs ≡ q ∷ ys → begins_with q xs ≡ true
begun_by q xs ys e = elim (same_or_not q q) [
  | inl same ↦ subst (λ (zs : List ℕ). begins_with q zs ≡ true) (sym e) same.1
  | inr not ↦ absurd (not.0 refl)
]

doubled-same : (q x : ℕ) (content : List ℕ) → x ≡ q → doubled q (x ∷ content) ≡ q ∷ q ∷ doubled q content
doubled-same q x content same = ap (λ (y : ℕ). doubled_byte q y ++ doubled q content) same ∙ ap (λ (xs : List ℕ). xs ++ doubled q content) (twice q)

doubled-other : (q x : ℕ) (content : List ℕ) → x ≢ q → doubled q (x ∷ content) ≡ x ∷ doubled q content
doubled-other q x content other = ap (λ (xs : List ℕ). xs ++ doubled q content) (once q x other)

-- what is written of a content that begins with the quote, and of any other
with_quote : (q x : ℕ) (text content rest : List ℕ) → x ≡ q → text ≡ doubled q (x ∷ content) ++ q ∷ rest → text ≡ q ∷ q ∷ (doubled q content ++ q ∷ rest)
with_quote q x text content rest same e = e ∙ ap (λ (xs : List ℕ). xs ++ q ∷ rest) (doubled-same q x content same)

with_other : (q x : ℕ) (text content rest : List ℕ) → x ≢ q → text ≡ doubled q (x ∷ content) ++ q ∷ rest → text ≡ x ∷ (doubled q content ++ q ∷ rest)
with_other q x text content rest other e = e ∙ ap (λ (xs : List ℕ). xs ++ q ∷ rest) (doubled-other q x content other)

heads : (x y : ℕ) (xs ys : List ℕ) → x ∷ xs ≡ y ∷ ys → (x ≡ y) × (xs ≡ ys)
heads x y xs ys e = (cc, cc)

cons_same : (x y : ℕ) (xs ys : List ℕ) → x ≡ y → xs ≡ ys → x ∷ xs ≡ y ∷ ys
cons_same x y xs ys e f = λ i. e i ∷ f i

joined : (q : ℕ) (content front more : List ℕ) → doubled q content ++ (doubled q front ++ (q ∷ q ∷ more)) ≡ doubled q ((content ++ front) ++ q ∷ []) ++ more
joined q content front more =
    let one : doubled q (q ∷ []) ≡ q ∷ q ∷ [] = doubled-same q q [] refl in
    let all : doubled q ((content ++ front) ++ q ∷ []) ≡ (doubled q content ++ doubled q front) ++ (q ∷ q ∷ []) =
    flat_map-append (doubled_byte q) (content ++ front) (q ∷ []) ∙ ap (λ (xs : List ℕ). xs ++ doubled q (q ∷ [])) (flat_map-append (doubled_byte q) content front) ∙ ap (λ (xs : List ℕ). (doubled q content ++ doubled q front) ++ xs) one in
    sym (append_assoc (doubled q content) (doubled q front) (q ∷ q ∷ more)) ∙ sym (append_assoc (doubled q content ++ doubled q front) (q ∷ q ∷ []) more) ∙ ap (λ (xs : List ℕ). xs ++ more) (sym all)

regrouped : (q : ℕ) (content front left : List ℕ) → content ++ (front ++ q ∷ left) ≡ ((content ++ front) ++ q ∷ []) ++ left
regrouped q content front left = sym (append_assoc content front (q ∷ left)) ∙ sym (append_assoc (content ++ front) (q ∷ []) left)

-- the first quote closes where no other one is behind it
pub closed_once : (q : ℕ) (front behind content rest : List ℕ) → Lacks q front → begins_with q behind ≡ false → front ++ q ∷ behind ≡ doubled q content ++ q ∷ rest → (content ≡ front) × (rest ≡ behind)
closed_once q [] behind [] rest h closed e = (refl, sym (heads q q behind rest e).1)
closed_once q [] behind (x ∷ content) rest h closed e = elim (same_or_not x q) [
  | inl same ↦
      let more : behind ≡ q ∷ (doubled q content ++ q ∷ rest) = (heads q q _ _ (with_quote q x (q ∷ behind) content rest same.0 e)).1 in
      absurd (not_both (begins_with q behind) (begun_by q behind _ more) closed)
  | inr not ↦ absurd (not.0 (sym (heads q x _ _ (with_other q x (q ∷ behind) content rest not.0 e)).0))
]
closed_once q (f ∷ front) behind [] rest h closed e = absurd (h.0 (heads f q _ _ e).0)
closed_once q (f ∷ front) behind (x ∷ content) rest h closed e = elim (same_or_not x q) [
  | inl same ↦ absurd (h.0 (heads f q _ _ (with_quote q x (f ∷ (front ++ q ∷ behind)) content rest same.0 e)).0)
  | inr not ↦
      let both = heads f x _ _ (with_other q x (f ∷ (front ++ q ∷ behind)) content rest not.0 e) in
      let more = closed_once q front behind content rest h.1 closed both.1 in
      (cons_same x f content front (sym both.0) more.0, more.1)
]

-- it is one of the content where another one is behind it
pub closed_later : (q : ℕ) (front more content rest : List ℕ) → Lacks q front → begins_with q rest ≡ false → front ++ (q ∷ q ∷ more) ≡ doubled q content ++ q ∷ rest → (left : List ℕ) × (content ≡ front ++ q ∷ left) × (more ≡ doubled q left ++ q ∷ rest)
closed_later q [] more [] rest h closed e =
    let second : rest ≡ q ∷ more = sym (heads q q _ _ e).1 in
    absurd (not_both (begins_with q rest) (begun_by q rest more second) closed)
closed_later q [] more (x ∷ content) rest h closed e = elim (same_or_not x q) [
  | inl same ↦
      let both = heads q q _ _ (heads q q _ _ (with_quote q x (q ∷ q ∷ more) content rest same.0 e)).1 in
      (content, ap (λ (y : ℕ). y ∷ content) same.0, both.1)
  | inr not ↦ absurd (not.0 (sym (heads q x _ _ (with_other q x (q ∷ q ∷ more) content rest not.0 e)).0))
]
closed_later q (f ∷ front) more [] rest h closed e = absurd (h.0 (heads f q _ _ e).0)
closed_later q (f ∷ front) more (x ∷ content) rest h closed e = elim (same_or_not x q) [
  | inl same ↦ absurd (h.0 (heads f q _ _ (with_quote q x (f ∷ (front ++ (q ∷ q ∷ more))) content rest same.0 e)).0)
  | inr not ↦
      let both = heads f x _ _ (with_other q x (f ∷ (front ++ (q ∷ q ∷ more))) content rest not.0 e) in
      let found = closed_later q front more content rest h.1 closed both.1 in
      (found.0, cons_same x f content (front ++ q ∷ found.0) (sym both.0) found.1, found.2)
]

-- ---- a loop that reads a content

-- what was read of the content, and what is left
pub record HasRead (q : ℕ) (text content rest : List ℕ) : Type 0 where
  pub so_far : text ≡ doubled q content ++ rest
  pub only : (whole others : List ℕ) → Closes q text whole others → (left : List ℕ) × (whole ≡ content ++ left) × Closes q rest left others

pub none_read : (q : ℕ) (text : List ℕ) → HasRead q text [] text
none_read q text = record { so_far = refl; only = λ whole others c. (whole, refl, c) }

pub more_read : (q : ℕ) (text content rest front more new : List ℕ) → HasRead q text content rest → rest ≡ front ++ (q ∷ q ∷ more) → Lacks q front → new ≡ (content ++ front) ++ q ∷ [] → HasRead q text new more
more_read q text content rest front more new read parts lacks made = record {
  so_far =
      read.so_far
      ∙ ap (λ (xs : List ℕ). doubled q content ++ xs) (parts ∙ ap (λ (xs : List ℕ). xs ++ (q ∷ q ∷ more)) (sym (doubled-lacks q front lacks)))
      ∙ joined q content front more
      ∙ ap (λ (xs : List ℕ). doubled q xs ++ more) (sym made);
  only = λ whole others c.
      let before = read.only whole others c in
      let found = closed_later q front more before.0 others lacks before.2.closed (sym parts ∙ before.2.written) in (
        found.0,
        before.1 ∙ ap (λ (xs : List ℕ). content ++ xs) found.1 ∙ regrouped q content front found.0 ∙ ap (λ (xs : List ℕ). xs ++ found.0) (sym made),
        record { written = found.2; closed = before.2.closed },
      );
}

pub all_read : (q : ℕ) (text content rest front behind new : List ℕ) → HasRead q text content rest → rest ≡ front ++ q ∷ behind → Lacks q front → begins_with q behind ≡ false → new ≡ content ++ front → Closes q text new behind × ((x others : List ℕ) → Closes q text x others → (x ≡ new) × (others ≡ behind))
all_read q text content rest front behind new read parts lacks closed made = (
  record {
    written =
        read.so_far
        ∙ ap (λ (xs : List ℕ). doubled q content ++ xs) (parts ∙ ap (λ (xs : List ℕ). xs ++ q ∷ behind) (sym (doubled-lacks q front lacks)))
        ∙ sym (append_assoc (doubled q content) (doubled q front) (q ∷ behind))
        ∙ ap (λ (xs : List ℕ). xs ++ q ∷ behind) (sym (flat_map-append (doubled_byte q) content front))
        ∙ ap (λ (xs : List ℕ). doubled q xs ++ q ∷ behind) (sym made);
    closed = closed;
  },
  λ x others c.
      let before = read.only x others c in
      let found = closed_once q front behind before.0 others lacks closed (sym parts ∙ before.2.written) in
      (before.1 ∙ ap (λ (xs : List ℕ). content ++ xs) found.0 ∙ sym made, found.1),
)

pub never_closed : (q : ℕ) (text content rest : List ℕ) → HasRead q text content rest → Lacks q rest → (x others : List ℕ) → ¬ (Closes q text x others)
never_closed q text content rest read lacks x others c =
    let before = read.only x others c in
    unclosed q rest lacks before.0 others before.2

-- ---- with the opening quote

quoted-more : (q : ℕ) (content rest : List ℕ) → quoted q content ++ rest ≡ q ∷ (doubled q content ++ q ∷ rest)
quoted-more q content rest = ap (λ (xs : List ℕ). q ∷ xs) (append_assoc (doubled q content) (q ∷ []) rest)

pub opened : (q : ℕ) (text inner content rest : List ℕ) → text ≡ q ∷ inner → Closes q inner content rest → IsQuoted q text content rest
opened q text inner content rest front c = record {
  written = front ∙ ap (λ (xs : List ℕ). q ∷ xs) c.written ∙ sym (quoted-more q content rest);
  closed = c.closed;
}

pub inside : (q : ℕ) (text inner content rest : List ℕ) → text ≡ q ∷ inner → IsQuoted q text content rest → Closes q inner content rest
inside q text inner content rest front c = record {
  written = (heads q q _ _ (sym front ∙ c.written ∙ quoted-more q content rest)).1;
  closed = c.closed;
}

pub unopened : (q : ℕ) (text : List ℕ) → ((rest : List ℕ) → text ≢ q ∷ rest) → (content rest : List ℕ) → ¬ (IsQuoted q text content rest)
unopened q text other content rest c = other _ (c.written ∙ quoted-more q content rest)
