-- That replies are written, and their commits logged, before more of the input is asked for.
use Rattle.std.proofs.Common.{◌≡◌, ◌⊎◌, ◌≤◌, ℕ, ◌||◌, nat_lt, Bool, true, false, List, [], ◌∷◌, ◌++◌, length, inl, inr, refl, sym, ap, subst, ◌∙◌, arith, append_assoc, append-nil}
use Rattle.std.proofs.lemmas.Bool.{ltb-false}
use Rattle.std.proofs.lemmas.List.{append_cancel_left}
use Rattle.hs_host.specs.declared.file_kind.FileKind.TheVariants.{Log}
use Rattle.hs_host.specs.declared.source.Source as source
use Rattle.hs_host.specs.declared.host.Host as host
use Rattle.hs_host.specs.Disk.{Pending, Leaves}
use Rattle.hs_host.specs.Files.{Five, of}
use Rattle.hs_host.specs.Moments.{on_file, told, asked, Moment, History, Since, Next, OneFile, IsAsked, IsPrinted}
use Rattle.hs_host.specs.Used.{Told}
use Rattle.hs_host.proofs.Passing.{next_since, same_since, since_join, since_now, since_weaker}
use Rattle.hs_entries.specs.Asking.{AreNeeded, given_by}
use Rattle.hs_entries.specs.declared.item.Item.{Item}
use Rattle.hs_entries.specs.Items.{has_item}
use Rattle.hs_entries.specs.Left.{whole_of}
use Rattle.hs_entries.specs.Reader.{ahead as reader_ahead, has_ended, is_answered, is_ready, is_ready_with, kept, left_over, next_number, rests, room}
use Rattle.hs_entries.specs.declared.reader.EntryReader.{EntryReader}
use Rattle.hs_run.specs.declared.running.Running.{Running}
use Rattle.hs_run.specs.Future.{Future}
use Rattle.hs_run.specs.Crash.{texts_in}
use Rattle.hs_run.specs.Outgoing.{IsEmpty, IsServing}
use Rattle.hs_run.specs.Pieces.{made_by, told_by}
use Rattle.hs_run.specs.Prompt.{Due, IsLogged, IsOnTime, IsUnasked}
use Rattle.hs_run.specs.Running.{IsDue}
use Rattle.hs_run.proofs.Holding.{kept_left}

-- ---- calls that ask for nothing

pub unasked_printed : {a b : History} {bytes : List ℕ} → Since (IsPrinted a.now bytes) a b → Since (IsUnasked a.now) a b
unasked_printed {a} {b} {bytes} ab = since_weaker ab (λ m p. record {
  taken = ap (λ (x : Moment). x.taken) p.is;
  none = λ taken is. let no : told ≡ asked taken = sym (ap (λ (x : Moment). x.call) p.is) ∙ is in absurd (cc);
})

pub unasked_file : {a b : History} {Q : List ℕ → Type 0} → Since (OneFile a.now Log Q) a b → Since (IsUnasked a.now) a b
unasked_file {a} {b} {Q} ab = since_weaker ab (λ m one. record {
  taken = ap (λ (x : Moment). x.taken) one.is;
  none = λ taken is. let no : on_file ≡ asked taken = sym (ap (λ (x : Moment). x.call) one.is) ∙ is in absurd (cc);
})

pub unasked_taken : {a b : History} → Since (IsUnasked a.now) a b → b.now.taken ≡ a.now.taken
unasked_taken ab = elim (since_now ab) [ inl is ↦ ap (λ (m : Moment). m.taken) is | inr u ↦ u.taken ]

pub unasked_on : {a b c : History} → Since (IsUnasked a.now) a b → Since (IsUnasked b.now) b c → Since (IsUnasked a.now) a c
unasked_on {a} {b} {c} ab bc = since_join ab (since_weaker bc (λ m u. record { taken = u.taken ∙ unasked_taken ab; none = u.none }))

pub unasked_prompt : {a b : History} (due : Due) (start : Moment) → Since (IsUnasked a.now) a b → Since (IsOnTime due start) a b
unasked_prompt due start ab = since_weaker ab (λ m u. record { told = λ taken is. absurd (u.none taken is); made = λ given is. absurd (u.none (start.taken ++ given) is) })

-- what is so of a start is so of a moment at which nothing else was taken or written
pub prompt_from : (due : Due) (start mid m : Moment) → mid.taken ≡ start.taken → mid.out ≡ start.out → IsOnTime due mid m → IsOnTime due start m
prompt_from due start mid m taken_is out_is prompt = record {
  told = λ taken is.
      let one = prompt.told taken is in
      record {
        given = one.given;
        is = one.is ∙ ap (λ (l : List ℕ). l ++ one.given) taken_is;
        more = one.more;
        written = one.written ∙ ap (λ (l : List ℕ). l ++ (due.told one.given ++ one.more)) out_is;
      };
  made = λ given is. prompt.made given (is ∙ ap (λ (l : List ℕ). asked (l ++ given)) (sym taken_is));
}

-- ---- the reads of a call

-- a read made this moment, which was needed behind those that gave some bytes
pub record IsReadAt (Needs : List ℕ → Type 0) (before m : Moment) : Type 0 where
  pub given : List ℕ
  pub needs : Needs given
  pub disks : m.disks ≡ before.disks
  pub out : m.out ≡ before.out
  pub call : m.call ≡ asked (before.taken ++ given)

-- reads were made that gave these bytes
pub record HasRead (Needs : List ℕ → Type 0) (given : List ℕ) (a b : History) : Type 0 where
  pub disks : b.now.disks ≡ a.now.disks
  pub out : b.now.out ≡ a.now.out
  pub taken : b.now.taken ≡ a.now.taken ++ given
  pub moments : Since (IsReadAt Needs a.now) a b

module _ {H : Type 0} (s : source.Ghosts H) (g : host.Ghosts H) (law : (a b : H) (bytes : List ℕ) → s.tells → s.reads a b bytes → ((bytes ≡ []) × (g.history b ≡ g.history a)) ⊎ Next (IsAsked (g.history a).now bytes) (g.history a) (g.history b)) (tells : s.tells) where
  -- one more
  read_one : (Needs : List ℕ → Type 0) (given bytes : List ℕ) (a b c : History) → HasRead Needs given a b → Needs given → ((bytes ≡ []) × (c ≡ b)) ⊎ Next (IsAsked b.now bytes) b c → HasRead Needs (given ++ bytes) a c
  read_one Needs given bytes a b c so_far needs (inl same) = record {
    disks = ap (λ (h : History). h.now.disks) same.1 ∙ so_far.disks;
    out = ap (λ (h : History). h.now.out) same.1 ∙ so_far.out;
    taken = ap (λ (h : History). h.now.taken) same.1 ∙ so_far.taken ∙ ap (λ (l : List ℕ). a.now.taken ++ l) (sym (ap (λ (l : List ℕ). given ++ l) same.0 ∙ append-nil given));
    moments = since_join so_far.moments (same_since same.1);
  }
  read_one Needs given bytes a b c so_far needs (inr next) = record {
    disks = ap (λ (m : Moment). m.disks) next.now ∙ so_far.disks;
    out = ap (λ (m : Moment). m.out) next.now ∙ so_far.out;
    taken = ap (λ (m : Moment). m.taken) next.now ∙ ap (λ (l : List ℕ). l ++ bytes) so_far.taken ∙ append_assoc a.now.taken given bytes;
    moments = since_join so_far.moments (next_since (record {
      past = next.past;
      now = record {
        given = given;
        needs = needs;
        disks = ap (λ (m : Moment). m.disks) next.now ∙ so_far.disks;
        out = ap (λ (m : Moment). m.out) next.now ∙ so_far.out;
        call = ap (λ (m : Moment). m.call) next.now ∙ ap asked so_far.taken;
      };
    }));
  }

  pub read_all : (Needs : List ℕ → Type 0) (made : List (H × List ℕ)) (a c : H) → AreNeeded s.reads Needs made a c → HasRead Needs (given_by made) (g.history a) (g.history c)
  read_all Needs [] a c same = record {
    disks = ap (λ (h : H). (g.history h).now.disks) same;
    out = ap (λ (h : H). (g.history h).now.out) same;
    taken = ap (λ (h : H). (g.history h).now.taken) same ∙ sym (append-nil (g.history a).now.taken);
    moments = same_since (ap g.history same);
  }
  read_all Needs (read ∷ before) a c needed =
      read_one Needs (given_by before) read.1 (g.history a) (g.history read.0) (g.history c) (read_all Needs before a read.0 needed.0) needed.1.0.0 (law read.0 c read.1 tells needed.1.1)

-- ---- that they are made when all is written that is due

no_item : (is : List Item) → has_item is ≡ false → is ≡ []
no_item [] none = refl
no_item (i ∷ is) none = absurd (cc)

or_first : (a b : Bool) → (a || b) ≡ false → a ≡ false
or_first true b h = h
or_first false b h = refl

or_second : (a b : Bool) → (a || b) ≡ false → b ≡ false
or_second true b h = absurd (cc)
or_second false b h = h

pub same_ready : (old new : EntryReader) → reader_ahead new ≡ reader_ahead old → room new ≡ room old → next_number new ≡ next_number old → kept new ≡ kept old → has_ended new ≡ has_ended old → is_ready new ≡ is_ready old
same_ready old new ahead left_room number kept_is ended = rw (ahead, left_room, number, kept_is, ended) refl

module _ {T H : Type 0} (s : source.Ghosts H) (g : host.Ghosts H) (due : Due) (start : Moment) (f : Future) (r : Running T) (h : H) (rests_now : f.taken [] ≡ []) (out : (g.history h).now.out ≡ g.written h) (serving : IsServing s g r.outgoing h) (told : Told s g h) (is_due : IsDue g due start f r h) where
  -- a crash leaves what is logged
  logged : (m : Moment) → m.disks ≡ (g.history h).now.disks → IsLogged (texts_in (g.files h)) m
  logged m same left leaves = kept_left (g.files h) (g.history h) r.outgoing.log left (serving.log told) serving.epoch (subst (λ (d : Five Pending). Leaves (of d Log) left) same leaves)

  -- nothing is gathered, and no whole item is at hand
  answered : IsEmpty r.outgoing.gathered → (m : Moment) → IsReadAt (λ more. is_ready_with r.reader more ≡ false) (g.history h).now m → IsOnTime due start m
  answered none m read =
      let more = read.given in
      let needs = or_second (rests r.reader) (is_answered (next_number r.reader) (room r.reader) (reader_ahead r.reader ++ more)) read.needs in
      let on : has_ended r.reader ≡ false = or_second _ (has_ended r.reader) (or_first (rests r.reader) _ read.needs) in
      let within : length (reader_ahead r.reader ++ more) ≤ room r.reader = omega (arith, ltb-false (room r.reader) (length (reader_ahead r.reader ++ more)) (or_first _ _ needs)) in
      let nothing : whole_of (left_over r.reader more) ≡ [] = no_item (whole_of (left_over r.reader more)) (or_second (nat_lt (room r.reader) (length (reader_ahead r.reader ++ more))) _ needs) in
      let pieces : f.taken (whole_of (left_over r.reader more)) ≡ [] = ap f.taken nothing ∙ rests_now in
      let taken_by : (g.history h).now.taken ++ more ≡ start.taken ++ (is_due.given ++ more) = ap (λ (l : List ℕ). l ++ more) is_due.taken ∙ append_assoc start.taken is_due.given more in
      record {
        told = λ taken is.
            let same : taken ≡ (g.history h).now.taken ++ more = let both : asked taken ≡ asked ((g.history h).now.taken ++ more) = sym is ∙ read.call in cc in
            record {
              given = is_due.given ++ more;
              is = same ∙ taken_by;
              more = [];
              written =
                  read.out ∙ out ∙ sym (ap (λ (l : List ℕ). g.written h ++ l) (ap (λ (l : List ℕ). l ++ told_by (f.taken (whole_of (left_over r.reader more)))) none.told ∙ ap told_by pieces) ∙ append-nil (g.written h))
                  ∙ is_due.told on more within ∙ ap (λ (l : List ℕ). start.out ++ l) (sym (append-nil (due.told (is_due.given ++ more))));
            };
        made = λ given is.
            let both : asked (start.taken ++ given) ≡ asked ((g.history h).now.taken ++ more) = sym is ∙ read.call in
            let same : start.taken ++ given ≡ (g.history h).now.taken ++ more = cc in
            let texts : texts_in (g.files h) ≡ due.made given =
            sym (ap (λ (l : List (List ℕ)). texts_in (g.files h) ++ l) (ap (λ (l : List (List ℕ)). l ++ made_by (f.taken (whole_of (left_over r.reader more)))) none.made ∙ ap made_by pieces) ∙ append-nil (texts_in (g.files h)))
            ∙ is_due.made on more within ∙ ap due.made (sym (append_cancel_left start.taken given (is_due.given ++ more) (same ∙ taken_by))) in
            subst (λ (ts : List (List ℕ)). IsLogged ts m) texts (logged m read.disks);
      }

  -- a reader that is ready reads nothing
  pub reading_prompt : (law : (a b : H) (bytes : List ℕ) → s.tells → s.reads a b bytes → ((bytes ≡ []) × (g.history b ≡ g.history a)) ⊎ Next (IsAsked (g.history a).now bytes) (g.history a) (g.history b))
      → (h1 : H) → (is_ready r.reader ≡ true → h1 ≡ h) → (is_ready r.reader ≡ false → IsEmpty r.outgoing.gathered) → (made : List (H × List ℕ)) → AreNeeded s.reads (λ more. is_ready_with r.reader more ≡ false) made h h1
      → Since (IsOnTime due start) (g.history h) (g.history h1)
  reading_prompt law h1 stays nothing made needed = by (is_ready r.reader) refl
    where
      by : (b : Bool) → is_ready r.reader ≡ b → Since (IsOnTime due start) (g.history h) (g.history h1)
      by true is = same_since (ap g.history (stays is))
      by false is = since_weaker (read_all s g law told.tells (λ more. is_ready_with r.reader more ≡ false) made h h1 needed).moments (λ m read. answered (nothing is) m read)
