-- How the parts of an entry, and comments before it, lead from one place to another.
use Rattle.std.proofs.Common.{◌≡◌, ◌≢◌, ℕ, ◌+◌, true, false, Bool, ◌==◌, ◌&&◌, List, [], ◌∷◌, ◌++◌, Some, refl, sym, ap, append_assoc, append-nil, ◌∙◌, arith}
use Rattle.std.proofs.lemmas.Bool.Decides.{nat_tests}
use Rattle.hs_entries.specs.declared.place.Place.{Place}
use Rattle.hs_entries.specs.declared.place.Place.TheVariants.{Between, LineBetween, BlockBetween, StarBetween, Plain, Text, Quoted, Line, Block, Star}
use Rattle.hs_entries.specs.Place.{is_white, behind, next_place, is_open, ends, stops, leads, is_between, is_entry, KeepsPlace}
use Rattle.hs_entries.specs.Entry.{item_of, cut_item_of}
use Rattle.hs_entries.specs.Items.{items, cut_items}
use Rattle.hs_entries.specs.Parts.{Part, byte, text, name, line, block, spelled, spelling, lacks, lacks_close, is_apart, is_part, last_of, last_of_all, are_parts, begins_entry, is_entry_of, unclosed}
use Rattle.hs_entries.proofs.Leading.{leads-append, text_keeps, quoted_keeps, line_keeps, line_between_keeps}
use Rattle.hs_entries.proofs.ItemSteps.{items_from-end, items_from-skip, items_from-leads}

-- one byte that leads on
leads_byte : (p q : Place) (b : ℕ) (bytes : List ℕ) → stops p b ≡ false → next_place p b ≡ q → leads p (b ∷ bytes) ≡ leads q bytes
leads_byte p q b bytes on next = rw on (ap (λ (r : Place). leads r bytes) next)

lacks_step : (a b : ℕ) (bytes : List ℕ) → lacks a (b ∷ bytes) ≡ true → (b ≢ a) × (lacks a bytes ≡ true)
lacks_step a b bytes h = (λ same. grind (arith, nat_tests, h, same), grind (arith, nat_tests, h))

-- bytes that keep a place
leads_lacks : (p : Place) (a : ℕ) → ((b : ℕ) → b ≢ a → KeepsPlace p b) → (bytes : List ℕ) → lacks a bytes ≡ true → leads p bytes ≡ Some p
leads_lacks p a keeps [] h = refl
leads_lacks p a keeps (b ∷ bytes) h =
    let step = lacks_step a b bytes h in
    let kept = keeps b step.0 in
    leads_byte p p b bytes kept.0 kept.1 ∙ leads_lacks p a keeps bytes step.1

-- the end of a text, a quoted name and a `--` comment
text_leads : (bytes : List ℕ) → lacks 39 bytes ≡ true → leads Text (bytes ++ 39 ∷ []) ≡ Some Plain
unfolding next_place is_open is_between
text_leads bytes h = leads-append Text Text bytes (39 ∷ []) (leads_lacks Text 39 (text_keeps Text refl) bytes h) ∙ refl

quoted_leads : (bytes : List ℕ) → lacks 34 bytes ≡ true → leads Quoted (bytes ++ 34 ∷ []) ≡ Some Plain
unfolding next_place is_open is_between
quoted_leads bytes h = leads-append Quoted Quoted bytes (34 ∷ []) (leads_lacks Quoted 34 (quoted_keeps Quoted refl) bytes h) ∙ refl

line_leads : (bytes : List ℕ) → lacks 10 bytes ≡ true → leads Line (bytes ++ 10 ∷ []) ≡ Some Plain
unfolding next_place is_open is_between
line_leads bytes h = leads-append Line Line bytes (10 ∷ []) (leads_lacks Line 10 (line_keeps Line refl) bytes h) ∙ refl

in_block : Bool → Place
in_block true = Star
in_block false = Block

between_block : Bool → Place
between_block true = StarBetween
between_block false = BlockBetween

close_step : (star : Bool) (b : ℕ) (bytes : List ℕ) → lacks_close star (b ∷ bytes) ≡ true → ((star && b == 47) ≡ false) × (lacks_close (b == 42) bytes ≡ true)
close_step star b bytes h = (grind (arith, h), grind (arith, h))

block_byte : (star : Bool) (b : ℕ) → (star && b == 47) ≡ false → (stops (in_block star) b ≡ false) × (next_place (in_block star) b ≡ in_block (b == 42))
unfolding next_place is_open is_between in_block
block_byte true b h = grind (arith, nat_tests, h)
block_byte false b h = grind (arith, nat_tests, h)

between_block_byte : (star : Bool) (b : ℕ) → (star && b == 47) ≡ false → (stops (between_block star) b ≡ false) × (next_place (between_block star) b ≡ between_block (b == 42))
unfolding next_place is_open is_between between_block
between_block_byte true b h = grind (arith, nat_tests, h)
between_block_byte false b h = grind (arith, nat_tests, h)

-- the end of a `/*` comment
block_leads : (star : Bool) (bytes : List ℕ) → lacks_close star bytes ≡ true → leads (in_block star) (bytes ++ 42 ∷ 47 ∷ []) ≡ Some Plain
unfolding next_place is_open is_between in_block
block_leads true [] h = refl
block_leads false [] h = refl
block_leads star (b ∷ bytes) h =
    let step = close_step star b bytes h in
    let goes = block_byte star b step.0 in
    leads_byte (in_block star) (in_block (b == 42)) b (bytes ++ 42 ∷ 47 ∷ []) goes.0 goes.1 ∙ block_leads (b == 42) bytes step.1

between_block_leads : (star : Bool) (bytes : List ℕ) → lacks_close star bytes ≡ true → (s : Bool) × (leads (between_block star) bytes ≡ Some (between_block s))
between_block_leads star [] h = (star, refl)
between_block_leads star (b ∷ bytes) h =
    let step = close_step star b bytes h in
    let goes = between_block_byte star b step.0 in
    let (s, later) = between_block_leads (b == 42) bytes step.1 in
    (s, leads_byte (between_block star) (between_block (b == 42)) b bytes goes.0 goes.1 ∙ later)

pub none_of_nothing : (n : ℕ) → items n [] ≡ []
unfolding is_entry
none_of_nothing n = refl

-- what is skipped before an entry
pub white_skipped : (n w : ℕ) (bytes : List ℕ) → is_white w ≡ true → items n (w ∷ bytes) ≡ items n bytes
unfolding next_place is_open
white_skipped n w bytes h =
    let on : ends Between w ≡ false = grind (arith, nat_tests, h) in
    let back : next_place Between w ≡ Between = rw h refl in
    items_from-skip cut_items n Between [] w bytes on back

line_between_leads : (bytes : List ℕ) → lacks 10 bytes ≡ true → leads Between (45 ∷ 45 ∷ bytes) ≡ Some LineBetween
unfolding next_place is_open is_between
line_between_leads bytes h = leads_lacks LineBetween 10 (line_between_keeps LineBetween refl) bytes h

pub line_skipped : (n : ℕ) (comment bytes : List ℕ) → lacks 10 comment ≡ true → items n (45 ∷ 45 ∷ comment ++ 10 ∷ bytes) ≡ items n bytes
unfolding next_place is_open
line_skipped n comment bytes h =
    items_from-leads cut_items n Between LineBetween [] (45 ∷ 45 ∷ comment) (10 ∷ bytes) (line_between_leads comment h)
    ∙ items_from-skip cut_items n LineBetween (45 ∷ 45 ∷ comment) 10 bytes refl refl

pub last_line_skipped : (n : ℕ) (comment : List ℕ) → lacks 10 comment ≡ true → items n (45 ∷ 45 ∷ comment) ≡ []
unfolding is_entry
last_line_skipped n comment h =
    ap (λ (l : List ℕ). items n l) (sym (append-nil (45 ∷ 45 ∷ comment)))
    ∙ items_from-leads cut_items n Between LineBetween [] (45 ∷ 45 ∷ comment) [] (line_between_leads comment h)

block_begins : (bytes : List ℕ) → leads Between (47 ∷ 42 ∷ bytes) ≡ leads BlockBetween bytes
unfolding next_place is_open is_between
block_begins bytes = refl

star_leads : (s : Bool) → leads (between_block s) (42 ∷ []) ≡ Some StarBetween
unfolding next_place is_open is_between between_block
star_leads true = refl
star_leads false = refl

pub block_skipped : (n : ℕ) (comment bytes : List ℕ) → lacks_close false comment ≡ true → items n (47 ∷ 42 ∷ comment ++ 42 ∷ 47 ∷ bytes) ≡ items n bytes
unfolding next_place is_open between_block
block_skipped n comment bytes h =
    let (s, on) = between_block_leads false comment h in
    let star : leads Between ((47 ∷ 42 ∷ comment) ++ 42 ∷ []) ≡ Some StarBetween =
    leads-append Between (between_block s) (47 ∷ 42 ∷ comment) (42 ∷ []) (block_begins comment ∙ on) ∙ star_leads s in
    ap (λ (l : List ℕ). items n l) (sym (append_assoc (47 ∷ 42 ∷ comment) (42 ∷ []) (47 ∷ bytes)))
    ∙ items_from-leads cut_items n Between StarBetween [] ((47 ∷ 42 ∷ comment) ++ 42 ∷ []) (47 ∷ bytes) star
    ∙ items_from-skip cut_items n StarBetween ((47 ∷ 42 ∷ comment) ++ 42 ∷ []) 47 bytes refl refl

between_block_entry : (n : ℕ) (s : Bool) (begun : List ℕ) → cut_items n (between_block s) begun ≡ cut_item_of n begun ∷ []
unfolding is_entry between_block
between_block_entry n true begun = refl
between_block_entry n false begun = refl

pub unclosed_begins : (n : ℕ) (comment : List ℕ) → lacks_close false comment ≡ true → items n (47 ∷ 42 ∷ comment) ≡ cut_item_of n (47 ∷ 42 ∷ comment) ∷ []
unfolding between_block
unclosed_begins n comment h =
    let (s, on) = between_block_leads false comment h in
    ap (λ (l : List ℕ). items n l) (sym (append-nil (47 ∷ 42 ∷ comment)))
    ∙ items_from-leads cut_items n Between (between_block s) [] (47 ∷ 42 ∷ comment) [] (block_begins comment ∙ on)
    ∙ between_block_entry n s (47 ∷ 42 ∷ comment)

-- From the place a byte that begins no comment with the one before it leads on as it does in an entry.
record IsLoose (a : ℕ) (p : Place) : Type 0 where
  ends : (b : ℕ) → ends p b ≡ (b == 59)
  next : (b : ℕ) → is_apart a b ≡ true → next_place p b ≡ behind b
  entry : is_entry p ≡ true

loose_behind : (a : ℕ) → (a == 39) ≡ false → (a == 34) ≡ false → IsLoose a (behind a)
unfolding behind next_place is_open is_entry
loose_behind a no_text no_name =
    record {
      ends = λ b. grind (arith, nat_tests, no_text, no_name);
      next = λ b h. grind (arith, nat_tests, no_text, no_name, h);
      entry = grind (arith, nat_tests, no_text, no_name);
    }

loose_first : (a : ℕ) → is_white a ≡ false → (a == 39) ≡ false → (a == 34) ≡ false → IsLoose a (next_place Between a)
unfolding behind next_place is_open is_entry
loose_first a black no_text no_name =
    record {
      ends = λ b. grind (arith, nat_tests, black, no_text, no_name);
      next = λ b h. grind (arith, nat_tests, black, no_text, no_name, h);
      entry = grind (arith, nat_tests, black, no_text, no_name);
    }

not_between : (b : ℕ) → is_between (behind b) ≡ false
unfolding behind is_between
not_between b = grind (arith, nat_tests)

-- the first byte of a part
loose_byte : (a : ℕ) (p : Place) (b : ℕ) (bytes : List ℕ) → IsLoose a p → is_apart a b ≡ true → (b == 59) ≡ false → leads p (b ∷ bytes) ≡ leads (behind b) bytes
loose_byte a p b bytes loose apart other =
    let next = loose.next b apart in
    let goes : ends p b ≡ false = loose.ends b ∙ other in
    let on : is_between (next_place p b) ≡ false = ap is_between next ∙ not_between b in
    leads_byte p (behind b) b bytes (grind (arith, goes, on)) next

apart_text : (a : ℕ) → is_apart a 39 ≡ true
apart_text a = grind (arith, nat_tests)

apart_name : (a : ℕ) → is_apart a 34 ≡ true
apart_name a = grind (arith, nat_tests)

apart_block : (a : ℕ) → is_apart a 47 ≡ true
apart_block a = grind (arith, nat_tests)

line_begins : (bytes : List ℕ) → leads (behind 45) (45 ∷ bytes) ≡ leads Line bytes
unfolding behind next_place is_open is_between
line_begins bytes = refl

block_opens : (bytes : List ℕ) → leads (behind 47) (42 ∷ bytes) ≡ leads Block bytes
unfolding behind next_place is_open is_between
block_opens bytes = refl

-- a part leads on to where its last byte leads
part_leads : (a : ℕ) (p : Place) (part : Part) → IsLoose a p → is_part a part ≡ true → leads p (spelled part) ≡ Some (behind (last_of part))
unfolding behind in_block
part_leads a p (byte b) loose h = loose_byte a p b [] loose (grind (arith, h)) (grind (arith, h))
part_leads a p (text bytes) loose h = loose_byte a p 39 (bytes ++ 39 ∷ []) loose (apart_text a) refl ∙ text_leads bytes h
part_leads a p (name bytes) loose h = loose_byte a p 34 (bytes ++ 34 ∷ []) loose (apart_name a) refl ∙ quoted_leads bytes h
part_leads a p (line bytes) loose h =
    let apart : is_apart a 45 ≡ true = grind (arith, h) in
    let comment : lacks 10 bytes ≡ true = grind (arith, h) in
    loose_byte a p 45 (45 ∷ bytes ++ 10 ∷ []) loose apart refl ∙ line_begins (bytes ++ 10 ∷ []) ∙ line_leads bytes comment
part_leads a p (block bytes) loose h =
    loose_byte a p 47 (42 ∷ bytes ++ 42 ∷ 47 ∷ []) loose (apart_block a) refl ∙ block_opens (bytes ++ 42 ∷ 47 ∷ []) ∙ block_leads false bytes h

-- and the next part may follow
last_loose : (a : ℕ) (part : Part) → is_part a part ≡ true → IsLoose (last_of part) (behind (last_of part))
last_loose a (byte b) h = loose_behind b (grind (arith, h)) (grind (arith, h))
last_loose a (text bytes) h = loose_behind 0 refl refl
last_loose a (name bytes) h = loose_behind 0 refl refl
last_loose a (line bytes) h = loose_behind 0 refl refl
last_loose a (block bytes) h = loose_behind 0 refl refl

parts_lead : (a : ℕ) (p : Place) (parts : List Part) → IsLoose a p → are_parts a parts ≡ true → (q : Place) × (leads p (spelling parts) ≡ Some q) × IsLoose (last_of_all a parts) q
parts_lead a p [] loose h = (p, refl, loose)
parts_lead a p (part ∷ parts) loose h =
    let one : is_part a part ≡ true = grind (arith, h) in
    let others : are_parts (last_of part) parts ≡ true = grind (arith, h) in
    let (q, later, end) = parts_lead (last_of part) (behind (last_of part)) parts (last_loose a part one) others in
    (q, leads-append p (behind (last_of part)) (spelled part) (spelling parts) (part_leads a p part loose one) ∙ later, end)

-- the first part of an entry
text_begins : (bytes : List ℕ) → leads Between (39 ∷ bytes) ≡ leads Text bytes
unfolding behind next_place is_open is_between
text_begins bytes = refl

name_begins : (bytes : List ℕ) → leads Between (34 ∷ bytes) ≡ leads Quoted bytes
unfolding behind next_place is_open is_between
name_begins bytes = refl

first_on : (b : ℕ) → is_white b ≡ false → (b == 59) ≡ false → stops Between b ≡ false
unfolding behind next_place is_open is_between
first_on b black other = grind (arith, nat_tests, black, other)

plain_loose : IsLoose 0 Plain
unfolding behind
plain_loose = loose_behind 0 refl refl

first_leads : (part : Part) → begins_entry part ≡ true → is_part 0 part ≡ true → (q : Place) × (leads Between (spelled part) ≡ Some q) × IsLoose (last_of part) q
first_leads (byte b) begins h =
    let black : is_white b ≡ false = grind (arith, begins) in
    (next_place Between b, leads_byte Between (next_place Between b) b [] (first_on b black (grind (arith, h))) refl, loose_first b black (grind (arith, h)) (grind (arith, h)))
first_leads (text bytes) begins h = (Plain, text_begins (bytes ++ 39 ∷ []) ∙ text_leads bytes h, plain_loose)
first_leads (name bytes) begins h = (Plain, name_begins (bytes ++ 34 ∷ []) ∙ quoted_leads bytes h, plain_loose)
first_leads (line bytes) begins h = absurd cc
first_leads (block bytes) begins h = absurd cc

entry_leads : (first : Part) (parts : List Part) → is_entry_of first parts ≡ true
    → (q : Place) × (leads Between (spelling (first ∷ parts)) ≡ Some q) × IsLoose (last_of_all 0 (first ∷ parts)) q
entry_leads first parts h =
    let begins : begins_entry first ≡ true = grind (arith, h) in
    let one : is_part 0 first ≡ true = grind (arith, h) in
    let others : are_parts (last_of first) parts ≡ true = grind (arith, h) in
    let (p, start, loose) = first_leads first begins one in
    let (q, later, end) = parts_lead (last_of first) p parts loose others in
    (q, leads-append Between p (spelled first) (spelling parts) start ∙ later, end)

pub whole_entry : (n : ℕ) (first : Part) (parts : List Part) (bytes : List ℕ) → is_entry_of first parts ≡ true
    → items n (spelling (first ∷ parts) ++ 59 ∷ bytes) ≡ item_of n (spelling (first ∷ parts) ++ 59 ∷ []) ∷ items (n + 1) bytes
whole_entry n first parts bytes h =
    let (q, on, loose) = entry_leads first parts h in
    let entry = spelling (first ∷ parts) in
    items_from-leads cut_items n Between q [] entry (59 ∷ bytes) on
    ∙ items_from-end cut_items n q entry 59 bytes (loose.ends 59)

-- the input ends in an entry
cut_alone : (n : ℕ) (q : Place) (entry : List ℕ) → leads Between entry ≡ Some q → is_entry q ≡ true → items n entry ≡ cut_item_of n entry ∷ []
cut_alone n q entry on begun =
    let is : cut_items n q entry ≡ cut_item_of n entry ∷ [] = rw begun refl in
    ap (λ (l : List ℕ). items n l) (sym (append-nil entry))
    ∙ items_from-leads cut_items n Between q [] entry [] on ∙ is

pub cut_entry : (n : ℕ) (first : Part) (parts : List Part) → is_entry_of first parts ≡ true
    → items n (spelling (first ∷ parts)) ≡ cut_item_of n (spelling (first ∷ parts)) ∷ []
cut_entry n first parts h =
    let (q, on, loose) = entry_leads first parts h in
    cut_alone n q (spelling (first ∷ parts)) on loose.entry

pub lone_semicolon : (n : ℕ) (bytes : List ℕ) → items n (59 ∷ bytes) ≡ item_of n (59 ∷ []) ∷ items (n + 1) bytes
unfolding is_open
lone_semicolon n bytes = items_from-end cut_items n Between [] 59 bytes refl

-- a part that the input ends
text_open : is_entry Text ≡ true
unfolding is_entry
text_open = refl

name_open : is_entry Quoted ≡ true
unfolding is_entry
name_open = refl

line_open : is_entry Line ≡ true
unfolding is_entry
line_open = refl

in_block_leads : (star : Bool) (bytes : List ℕ) → lacks_close star bytes ≡ true → (s : Bool) × (leads (in_block star) bytes ≡ Some (in_block s))
in_block_leads star [] h = (star, refl)
in_block_leads star (b ∷ bytes) h =
    let step = close_step star b bytes h in
    let goes = block_byte star b step.0 in
    let (s, later) = in_block_leads (b == 42) bytes step.1 in
    (s, leads_byte (in_block star) (in_block (b == 42)) b bytes goes.0 goes.1 ∙ later)

block_open : (s : Bool) → is_entry (in_block s) ≡ true
unfolding is_entry in_block
block_open true = refl
block_open false = refl

unclosed_leads : (a : ℕ) (p : Place) (part : Part) → IsLoose a p → is_part a part ≡ true → (q : Place) × (leads p (unclosed part) ≡ Some q) × (is_entry q ≡ true)
unfolding behind in_block
unclosed_leads a p (byte b) loose h = (behind b, part_leads a p (byte b) loose h, (last_loose a (byte b) h).entry)
unclosed_leads a p (text bytes) loose h =
    (Text, loose_byte a p 39 bytes loose (apart_text a) refl ∙ leads_lacks Text 39 (text_keeps Text refl) bytes h, text_open)
unclosed_leads a p (name bytes) loose h =
    (Quoted, loose_byte a p 34 bytes loose (apart_name a) refl ∙ leads_lacks Quoted 34 (quoted_keeps Quoted refl) bytes h, name_open)
unclosed_leads a p (line bytes) loose h =
    let apart : is_apart a 45 ≡ true = grind (arith, h) in
    let comment : lacks 10 bytes ≡ true = grind (arith, h) in
    (Line, loose_byte a p 45 (45 ∷ bytes) loose apart refl ∙ line_begins bytes ∙ leads_lacks Line 10 (line_keeps Line refl) bytes comment, line_open)
unclosed_leads a p (block bytes) loose h =
    let (s, on) = in_block_leads false bytes h in
    (in_block s, loose_byte a p 47 (42 ∷ bytes) loose (apart_block a) refl ∙ block_opens bytes ∙ on, block_open s)

pub unclosed_part : (n : ℕ) (first : Part) (parts : List Part) (part : Part) → is_entry_of first parts ≡ true → is_part (last_of_all 0 (first ∷ parts)) part ≡ true
    → items n (spelling (first ∷ parts) ++ unclosed part) ≡ cut_item_of n (spelling (first ∷ parts) ++ unclosed part) ∷ []
unclosed_part n first parts part h one =
    let (p, on, loose) = entry_leads first parts h in
    let (q, more, begun) = unclosed_leads (last_of_all 0 (first ∷ parts)) p part loose one in
    cut_alone n q (spelling (first ∷ parts) ++ unclosed part) (leads-append Between p (spelling (first ∷ parts)) (unclosed part) on ∙ more) begun

first_unclosed_leads : (part : Part) → begins_entry part ≡ true → is_part 0 part ≡ true → (q : Place) × (leads Between (unclosed part) ≡ Some q) × (is_entry q ≡ true)
first_unclosed_leads (byte b) begins h =
    let (q, on, loose) = first_leads (byte b) begins h in
    (q, on, loose.entry)
first_unclosed_leads (text bytes) begins h = (Text, text_begins bytes ∙ leads_lacks Text 39 (text_keeps Text refl) bytes h, text_open)
first_unclosed_leads (name bytes) begins h = (Quoted, name_begins bytes ∙ leads_lacks Quoted 34 (quoted_keeps Quoted refl) bytes h, name_open)
first_unclosed_leads (line bytes) begins h = absurd cc
first_unclosed_leads (block bytes) begins h = absurd cc

pub unclosed_first : (n : ℕ) (part : Part) → begins_entry part ≡ true → is_part 0 part ≡ true → items n (unclosed part) ≡ cut_item_of n (unclosed part) ∷ []
unclosed_first n part begins one =
    let (q, on, begun) = first_unclosed_leads part begins one in
    cut_alone n q (unclosed part) on begun
