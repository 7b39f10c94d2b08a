-- What a run in a system makes is made again from its texts, all of it or the first of it.
use Rattle.std.proofs.Common.{◌≡◌, ℕ, ◌+◌, true, List, [], ◌∷◌, ◌++◌, length, take, refl, sym, ap, ap₂, ◌∙◌, subst, append-nil, append_assoc}
use Rattle.std.specs.Prelude.{Bool, nat_le, None}
use Rattle.std.proofs.Math.Seq.{take-append_seam}
use Rattle.std.proofs.lemmas.Bool.{and_parts}
use Rattle.std.proofs.lemmas.List.Sums.{fold-append}
use Rattle.hs_turns.specs.Database.{Database}
use Rattle.hs_turns.specs.Numbers.{numbered}
use Rattle.hs_entries.specs.declared.item.Item.{Item}
use Rattle.hs_futures.proofs.Texts.{length-texts}
use Rattle.hs_futures.proofs.Whole.{whole_made}
use Rattle.hs_gate.specs.Groups.{spelled}
use Rattle.hs_turns.specs.Histories.{Commit, make, now, state}
use Rattle.hs_logged.specs.Entered.{Decides, HasText}
use Rattle.hs_logged.specs.Logged.{last_behind, session_of}
use Rattle.hs_logged.specs.Over.{room_over, text_over, texts_by}
use Rattle.hs_logged.proofs.Worlds.{last_more}
use Rattle.hs_logged.specs.Kept.{left_by}
use Rattle.hs_logged.specs.Redone.{IsRedone, State, after}
use Rattle.hs_schema.specs.Catalogue.{Things}
use Rattle.hs_seams.specs.World.{World, texts_from}
use Rattle.hs_turns.specs.Dialect.{Dialect}
use Rattle.hs_turns.specs.Machine.{start}
use Rattle.hs_turns.specs.Turns.{weight}
use Rattle.hs_turns.proofs.Promised.{valid}
use Rattle.hs_system.specs.Governed.{IsGoverned}
use Rattle.hs_system.specs.Openings.{IsSound, Make, behind_at, first_of, history_of, log_at, may, room_behind, texts_of, world_of}
use Rattle.hs_system.specs.Room.{HadRoom}
use Rattle.hs_system.specs.System.{System}
use Rattle.hs_system.proofs.Grounded.{made_regular}
use Rattle.hs_system.proofs.Runs.{had_room}

-- ---- first ones of texts

-- commits in two parts, the first of which have these texts
pub record Parts (w : World) (before commits : List Commit) (front : List (List ℕ)) : Type 0 where
  pub first : List Commit
  pub later : List Commit
  pub is : commits ≡ first ++ later
  pub texts : texts_from w before first ≡ front

head_is : (a b : List ℕ) (xs ys : List (List ℕ)) → a ∷ xs ≡ b ∷ ys → a ≡ b
head_is a b xs ys e = cc

tail_is : (a b : List ℕ) (xs ys : List (List ℕ)) → a ∷ xs ≡ b ∷ ys → xs ≡ ys
tail_is a b xs ys e = cc

split : (w : World) (before commits : List Commit) (front rest : List (List ℕ)) → texts_from w before commits ≡ front ++ rest → Parts w before commits front
split w before commits [] rest e = record { first = []; later = commits; is = refl; texts = refl }
split w before [] (t ∷ ts) rest e = absurd cc
split w before (k ∷ ks) (t ∷ ts) rest e =
    let p = split w (before ++ k ∷ []) ks ts rest (tail_is _ _ _ _ e) in
    record {
      first = k ∷ p.first;
      later = p.later;
      is = ap (λ (l : List Commit). k ∷ l) p.is;
      texts = ap₂ (λ (a : List ℕ) (b : List (List ℕ)). a ∷ b) (head_is _ _ _ _ e) p.texts;
    }

had_first : (d : Dialect) (before first later : List Commit) → HadRoom d before (first ++ later) → HadRoom d before first
had_first d before [] later had = tt
had_first d before (k ∷ ks) later had = (had.0, had_first d (before ++ k ∷ []) ks later had.1)

module _ (is_named : Things → Bool) (Regular : Database → Type 0) (y : System) (g : IsGoverned is_named Regular y) (at : State) (made size : ℕ) where
  abbrev w : World
  w = world_of y at made size

  abbrev At : List Commit → State
  At = left_by (log_at y at size) w

  -- ---- one text

  state_more : (before : List Commit) (k : Commit) → At (before ++ k ∷ []) ≡ after (At before) (session_of k) (numbered (now at.database before).count k.changes)
  state_more before k = λ i. record { database = fold-append make at.database before (k ∷ []) i; last = last_more at.last before k i }

  has_text : (before : List Commit) (k : Commit) → room_behind y at size before k ≡ true → HasText y.wording (now at.database before).things (last_behind at.last before) (session_of k) (numbered (now at.database before).count k.changes)
  has_text before k room =
      let things = (now at.database before).things in
      let last = last_behind at.last before in
      let changes = numbered (now at.database before).count k.changes in
      let test = y.has_text things last (session_of k) changes in
      let parts = and_parts (room_over y.wording y.has_text (log_at y at size) at.database before k) (y.may_make (now at.database before) changes) room in
      let both = and_parts test (nat_le (size + length (spelled (texts_by (text_over y.wording (log_at y at size) at.database) [] (before ++ k ∷ []))) + 1) y.limit) parts.0 in
      subst (Decides (HasText y.wording things last (session_of k) changes)) both.0 (g.texts things last (session_of k) changes)

  may_be_made : (before : List Commit) (k : Commit) → room_behind y at size before k ≡ true → y.may_make (now at.database before) (numbered (now at.database before).count k.changes) ≡ true
  may_be_made before k room = (and_parts (room_over y.wording y.has_text (log_at y at size) at.database before k) (y.may_make (now at.database before) (numbered (now at.database before).count k.changes)) room).1

  makes : (before : List Commit) (k : Commit) → room_behind y at size before k ≡ true → IsRedone y.wording (may y) (At before) (w.text before k) (At (before ++ k ∷ []))
  makes before k room = record {
    session = session_of k;
    changes = numbered (now at.database before).count k.changes;
    of = has_text before k room;
    may = may_be_made before k room;
    is = state_more before k;
  }

  -- ---- texts

  redone_from : (before ks : List Commit) → HadRoom w.run.dialect before ks → Make y (At before) (texts_from w before ks) (At (before ++ ks))
  redone_from before [] had = ap At (append-nil before)
  redone_from before (k ∷ ks) had = (
    At (before ++ k ∷ []),
    makes before k (sym ((g.language (room_behind y at size)).room_ before k) ∙ had.0),
    subst (λ (l : List Commit). Make y (At (before ++ k ∷ [])) (texts_from w (before ++ k ∷ []) ks) (At l)) (append_assoc before (k ∷ []) ks) (redone_from (before ++ k ∷ []) ks had.1),
  )

  from_start : (ks : List Commit) → HadRoom w.run.dialect [] ks → Make y at (texts_from w [] ks) (At ks)
  from_start ks had = redone_from [] ks had

  -- ---- a run

  abbrev all : List Item → List Commit
  all items = (history_of y at made size items).commits

  room_had : (items : List Item) → HadRoom w.run.dialect [] (all items)
  room_had items = had_room w.run.dialect w.run.opening w.run.made items (weight (start w.run.opening items))

  texts_are : (items : List Item) → texts_of y at made size items ≡ texts_from w [] (all items)
  texts_are items = whole_made w items

  clean : (texts : List (List ℕ)) → IsSound y texts at → (items : List Item) (front later : List Commit) → all items ≡ front ++ later → y.violated (At front).database ≡ None
  clean texts sound items front later is =
      let room = room_behind y at size in
      let regular = g.regular at.database (made_regular is_named Regular y g texts at sound.made) in
      let language = g.language room in
      let ok = valid w.run.dialect w.run.opening w.run.made language.laws (regular.valid room sound.clean, regular.rows) items (weight (start w.run.opening items)) (length front) in
      let same : state at.database (all items) (length front) ≡ now at.database front = ap (λ (l : List Commit). now at.database (take (length front) l)) is ∙ ap (now at.database) (take-append_seam front later) in
      g.valid room (now at.database front) (subst (λ (db : Database). w.run.dialect.is_valid db ≡ true) same ok)

  -- ---- its first commits

  module _ (items : List Item) (front rest : List (List ℕ)) (is : texts_of y at made size items ≡ front ++ rest) where
    parts : Parts w [] (all items) front
    parts = split w [] (all items) front rest (sym (texts_are items) ∙ is)

    as_many : length front ≡ length parts.first
    as_many = ap length (sym parts.texts) ∙ length-texts w [] parts.first

    first_is : first_of y at made size items (length front) ≡ parts.first
    first_is = ap (λ (n : ℕ). take n (all items)) as_many ∙ ap (take (length parts.first)) parts.is ∙ take-append_seam parts.first parts.later

    pub first_long : length (first_of y at made size items (length front)) ≡ length front
    first_long = ap length first_is ∙ sym as_many

    first_had : HadRoom w.run.dialect [] parts.first
    first_had = had_first w.run.dialect [] parts.first parts.later (subst (HadRoom w.run.dialect []) parts.is (room_had items))

    first_made : Make y at front (At parts.first)
    first_made = subst (λ (ts : List (List ℕ)). Make y at ts (At parts.first)) parts.texts (from_start parts.first first_had)

  pub remade_so : (texts : List (List ℕ)) (items : List Item) (front rest : List (List ℕ)) → IsSound y texts at → texts_of y at made size items ≡ front ++ rest
      → Make y at front (behind_at y at made size items (length front)) × (y.violated (behind_at y at made size items (length front)).database ≡ None)
  remade_so texts items front rest sound is =
      let p = parts items front rest is in
      subst (λ (ks : List Commit). Make y at front (At ks) × (y.violated (At ks).database ≡ None)) (sym (first_is items front rest is)) (first_made items front rest is, clean texts sound items p.first p.later p.is)
