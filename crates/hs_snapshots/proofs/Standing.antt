-- What calls on the stores make of them.
use Rattle.std.proofs.Common.{◌≡◌, ◌⊎◌, ℕ, ◌==◌, ◌≤◌, not, Bool, false, List, [], ◌∷◌, ◌++◌, length, take, get_or, set, Option, None, Some, Result, Ok, Err, sym, ap, ◌∙◌, subst, inl, arith, length-append}
use Rattle.std.proofs.lemmas.List.{map-append, take-append-le, take_all}
use Rattle.std.proofs.Math.Seq.{map-set_same}
use Rattle.std.specs.List.{filter}
use Rattle.hs_plan.specs.declared.change.Change.{Change}
use Rattle.hs_schema.specs.Catalogue.{Text}
use Rattle.hs_seams.specs.declared.outcome.Outcome.{Outcome}
use Rattle.hs_seams.specs.Stores.{Commits, Evaluates}
use Rattle.hs_seams.specs.World.{World}
use Rattle.hs_turns.specs.Each.{Each}
use Rattle.hs_turns.specs.Histories.{Commit}
use Rattle.hs_snapshots.specs.declared.snapshot.Snapshot.{Snapshot}
use Rattle.hs_snapshots.specs.declared.stores.Stores.{Stores}
use Rattle.hs_snapshots.specs.Places.{AreApart, IsPlace, commits_at, has_start, index_at, on_present, on_snapshot, place_without, starts_without}
use Rattle.hs_snapshots.specs.Stores.{EvaluatesAt, IsSnapshot, IsStores, starts_of}
use Rattle.hs_snapshots.proofs.Places as places

-- what a statement comes to there
pub evaluated_at : (From To : World → List Commit → List Change → Type 0) (place : Option ℕ) (w : World) (commits : List Commit) (seated : List Change) (read_only : Bool) (text : Text) → ((cs : List Change) → From w (commits_at place commits) cs → To w commits cs)
    → (r : Result Outcome Text) → Evaluates From w (commits_at place commits) seated read_only text r → EvaluatesAt To place w commits seated read_only text r
evaluated_at From To place w commits seated read_only text f (Ok o) h = (h.0, (h.1.0, f (seated ++ o.changes) h.1.1))
evaluated_at From To place w commits seated read_only text f (Err why) h = (h.0, f seated h.1)

module _ {S : Type 0} where
  -- the place stays among the snapshots
  place_same : (old new : Stores S) → starts_of new ≡ starts_of old → new.place ≡ old.place → IsPlace old.place (starts_of old) → IsPlace new.place (starts_of new)
  place_same old new starts place is =
      subst (λ (p : Option ℕ). IsPlace p (starts_of new)) (sym place) (subst (λ (ss : List ℕ). IsPlace old.place ss) (sym starts) is)

  starts_same : (old new : Stores S) → new.snapshots.items ≡ old.snapshots.items → starts_of new ≡ starts_of old
  starts_same old new items = ap (places.starts {S = S}) items

  pub starts_set : (xs : List (Snapshot S)) (i : ℕ) (x v : Snapshot S) → x ≡ get_or xs i x → v.start ≡ x.start → places.starts (set xs i v) ≡ places.starts xs
  starts_set xs i x v item start = map-set_same (λ (s : Snapshot S). s.start) xs i v x (start ∙ ap (λ (s : Snapshot S). s.start) item)

  pub starts_kept : (old new : Stores S) (v : Snapshot S) → new.snapshots.items ≡ old.snapshots.items ++ v ∷ [] → starts_of new ≡ starts_of old ++ v.start ∷ []
  starts_kept old new v items = ap (places.starts {S = S}) items ∙ map-append (λ (s : Snapshot S). s.start) old.snapshots.items (v ∷ [])

  pub starts_released : (xs ys : List (Snapshot S)) (gone : ℕ) → ys ≡ filter (λ s. not (s.start == gone)) xs → places.starts ys ≡ starts_without gone (places.starts xs)
  starts_released xs ys gone items = ap (places.starts {S = S}) items ∙ places.starts_filtered gone xs

module _ {S : Type 0} (At : S → World → List Commit → List Change → Type 0) where
  -- a snapshot with the same changes
  carry : (place place' : Option ℕ) (w : World) (commits : List Commit) (seated seated' : List Change) (x : Snapshot S) → on_snapshot place x.start seated ≡ on_snapshot place' x.start seated' → IsSnapshot At place w commits seated x → IsSnapshot At place' w commits seated' x
  carry place place' w commits seated seated' x same h = record {
    within = h.within;
    store = subst (λ (cs : List Change). At x.store w (take x.start commits) cs) same h.store;
  }

  -- ---- the store at the place

  pub present_stands : (t : Stores S) (w : World) (commits : List Commit) (seated : List Change) → index_at t.place t.snapshots.items ≡ None → IsStores At t w commits seated → At t.present w (commits_at t.place commits) seated
  present_stands t w commits seated none is =
      let at : t.place ≡ None = places.at_present t.place t.snapshots.items is.place none in
      subst (λ (p : Option ℕ). At t.present w (commits_at p commits) seated) (sym at) (subst (λ (p : Option ℕ). At t.present w commits (on_present p seated)) at is.present)

  pub snapshot_stands : (t : Stores S) (i : ℕ) (x : Snapshot S) (w : World) (commits : List Commit) (seated : List Change) → index_at t.place t.snapshots.items ≡ Some i → x ≡ get_or t.snapshots.items i x → IsStores At t w commits seated → At x.store w (commits_at t.place commits) seated
  snapshot_stands t i x w commits seated some item is =
      let found = places.at_snapshot t.place t.snapshots.items i x some in
      let at : t.place ≡ Some x.start = found.1 ∙ ap (λ (s : Snapshot S). Some s.start) (sym item) in
      let here : IsSnapshot At t.place w commits seated x = subst (IsSnapshot At t.place w commits seated) (sym item) (places.each_at (IsSnapshot At t.place w commits seated) t.snapshots.items i x found.0 is.snapshots) in
      subst (λ (p : Option ℕ). At x.store w (commits_at p commits) seated) (sym at)
      (subst (λ (cs : List Change). At x.store w (take x.start commits) cs) (ap (λ (p : Option ℕ). on_snapshot p x.start seated) at ∙ places.own_snapshot x.start seated) here.store)

  -- ---- other changes at the place

  pub present_set : (old new : Stores S) (w : World) (commits : List Commit) (seated seated' : List Change) → index_at old.place old.snapshots.items ≡ None → new.snapshots.items ≡ old.snapshots.items → new.place ≡ old.place → IsStores At old w commits seated
      → At new.present w (commits_at old.place commits) seated' → IsStores At new w commits seated'
  present_set old new w commits seated seated' none items place is h =
      let at : old.place ≡ None = places.at_present old.place old.snapshots.items is.place none in
      let starts : starts_of new ≡ starts_of old = starts_same old new items in
      record {
        present = subst (λ (p : Option ℕ). At new.present w commits (on_present p seated')) (sym (place ∙ at)) (subst (λ (p : Option ℕ). At new.present w (commits_at p commits) seated') at h);
        snapshots = subst (λ (xs : List (Snapshot S)). Each (IsSnapshot At new.place w commits seated') xs) (sym items)
            (places.each_map (IsSnapshot At old.place w commits seated) (IsSnapshot At new.place w commits seated')
            (λ x. carry old.place new.place w commits seated seated' x (places.over_snapshot old.place x.start seated (inl at) ∙ sym (places.over_snapshot new.place x.start seated' (inl (place ∙ at))))) old.snapshots.items is.snapshots);
        place = place_same old new starts place is.place;
        apart = subst AreApart (sym starts) is.apart;
      }

  pub snapshot_set : (old new : Stores S) (i : ℕ) (x v : Snapshot S) (w : World) (commits : List Commit) (seated seated' : List Change) → index_at old.place old.snapshots.items ≡ Some i → x ≡ get_or old.snapshots.items i x → new.present ≡ old.present → new.snapshots.items ≡ set old.snapshots.items i v
      → v.start ≡ x.start → new.place ≡ old.place → IsStores At old w commits seated → At v.store w (commits_at old.place commits) seated' → IsStores At new w commits seated'
  snapshot_set old new i x v w commits seated seated' some item present items start place is h =
      let found = places.at_snapshot old.place old.snapshots.items i x some in
      let there : old.place ≡ Some x.start = found.1 ∙ ap (λ (s : Snapshot S). Some s.start) (sym item) in
      let was : IsSnapshot At old.place w commits seated x = subst (IsSnapshot At old.place w commits seated) (sym item) (places.each_at (IsSnapshot At old.place w commits seated) old.snapshots.items i x found.0 is.snapshots) in
      let at : new.place ≡ Some x.start = place ∙ there in
      let starts : starts_of new ≡ starts_of old = ap (places.starts {S = S}) items ∙ starts_set old.snapshots.items i x v item start in
      let here : IsSnapshot At new.place w commits seated' v = record {
        within = subst (λ (n : ℕ). n ≤ length commits) (sym start) was.within;
        store = subst (λ (cs : List Change). At v.store w (take v.start commits) cs) (sym (ap (λ (p : Option ℕ). on_snapshot p v.start seated') (at ∙ ap Some (sym start)) ∙ places.own_snapshot v.start seated'))
            (subst (λ (n : ℕ). At v.store w (take n commits) seated') (sym start) (subst (λ (p : Option ℕ). At v.store w (commits_at p commits) seated') there h));
      } in
      record {
        present = subst (λ (s : S). At s w commits (on_present new.place seated')) (sym present)
            (subst (λ (cs : List Change). At old.present w commits cs) (ap (λ (p : Option ℕ). on_present p seated) there ∙ sym (ap (λ (p : Option ℕ). on_present p seated') at)) is.present);
        snapshots = subst (λ (xs : List (Snapshot S)). Each (IsSnapshot At new.place w commits seated') xs) (sym items)
            (places.each_set (IsSnapshot At old.place w commits seated) (IsSnapshot At new.place w commits seated') x.start
            (λ y other. carry old.place new.place w commits seated seated' y
            ((ap (λ (p : Option ℕ). on_snapshot p y.start seated) there ∙ places.other_snapshot x.start y.start seated other)
            ∙ sym (ap (λ (p : Option ℕ). on_snapshot p y.start seated') at ∙ places.other_snapshot x.start y.start seated' other)))
            v here old.snapshots.items i x found.0 (ap (λ (s : Snapshot S). s.start) (sym item)) is.apart is.snapshots);
        place = place_same old new starts place is.place;
        apart = subst AreApart (sym starts) is.apart;
      }

  -- ---- commits at the present, where no changes are on a snapshot

  pub over_stands : (t : Stores S) (w : World) (commits : List Commit) (seated : List Change) → (t.place ≡ None) ⊎ (seated ≡ []) → IsStores At t w commits seated → At t.present w commits seated
  over_stands t w commits seated over is = subst (λ (cs : List Change). At t.present w commits cs) (places.over_present t.place seated over) is.present

  module _ (old new : Stores S) (w : World) (commits : List Commit) (seated : List Change) (over : (old.place ≡ None) ⊎ (seated ≡ [])) (items : new.snapshots.items ≡ old.snapshots.items) (place : new.place ≡ old.place) (is : IsStores At old w commits seated) where
    abbrev starts : starts_of new ≡ starts_of old
    starts = starts_same old new items

    -- one commit more
    grown : (k : Commit) (x : Snapshot S) → IsSnapshot At old.place w commits seated x → IsSnapshot At new.place w (commits ++ k ∷ []) [] x
    grown k x h =
        let within : x.start ≤ length commits = h.within in
        record {
          within = omega (arith, length-append commits (k ∷ []));
          store = subst (λ (ks : List Commit). At x.store w ks (on_snapshot new.place x.start [])) (sym (take-append-le x.start commits (k ∷ []) within))
              (subst (λ (cs : List Change). At x.store w (take x.start commits) cs) (places.over_snapshot old.place x.start seated over ∙ sym (places.none_snapshot new.place x.start)) h.store);
        }

    committed_over : (k : Commit) → At new.present w (commits ++ k ∷ []) [] → IsStores At new w (commits ++ k ∷ []) []
    committed_over k h = record {
      present = subst (λ (cs : List Change). At new.present w (commits ++ k ∷ []) cs) (sym (places.none_present new.place)) h;
      snapshots = subst (λ (xs : List (Snapshot S)). Each (IsSnapshot At new.place w (commits ++ k ∷ []) []) xs) (sym items)
          (places.each_map (IsSnapshot At old.place w commits seated) (IsSnapshot At new.place w (commits ++ k ∷ []) []) (grown k) old.snapshots.items is.snapshots);
      place = place_same old new starts place is.place;
      apart = subst AreApart (sym starts) is.apart;
    }

    refused_over : At new.present w commits seated → IsStores At new w commits seated
    refused_over h = record {
      present = subst (λ (cs : List Change). At new.present w commits cs) (sym (ap (λ (p : Option ℕ). on_present p seated) place ∙ places.over_present old.place seated over)) h;
      snapshots = subst (λ (xs : List (Snapshot S)). Each (IsSnapshot At new.place w commits seated) xs) (sym items)
          (subst (λ (p : Option ℕ). Each (IsSnapshot At p w commits seated) old.snapshots.items) (sym place) is.snapshots);
      place = place_same old new starts place is.place;
      apart = subst AreApart (sym starts) is.apart;
    }

    pub commits_over : (k : Commit) (before made : List (List ℕ)) (is_made : Bool) → Commits (At new.present) w commits seated k before made is_made → Commits (IsStores At new) w commits seated k before made is_made
    commits_over k before made is_made h = record {
      room = h.room;
      done = λ yes. (committed_over k (h.done yes).0, (h.done yes).1);
      kept = λ no. (refused_over (h.kept no).0, (h.kept no).1);
    }

  -- ---- the snapshots that there are

  pub begun_stores : (new : Stores S) (w : World) (commits : List Commit) → new.snapshots.items ≡ [] → new.place ≡ None → At new.present w commits [] → IsStores At new w commits []
  begun_stores new w commits items place h = record {
    present = subst (λ (cs : List Change). At new.present w commits cs) (sym (places.none_present new.place)) h;
    snapshots = subst (λ (xs : List (Snapshot S)). Each (IsSnapshot At new.place w commits []) xs) (sym items) tt;
    place = subst (λ (p : Option ℕ). IsPlace p (starts_of new)) (sym place) tt;
    apart = subst AreApart (sym (ap (places.starts {S = S}) items)) tt;
  }

  pub kept_stores : (old new : Stores S) (v : Snapshot S) (w : World) (commits : List Commit) → new.present ≡ old.present → new.snapshots.items ≡ old.snapshots.items ++ v ∷ [] → new.place ≡ old.place → IsStores At old w commits [] → v.start ≡ length commits → has_start v.start (starts_of old) ≡ false
      → At v.store w commits [] → IsStores At new w commits []
  kept_stores old new v w commits present items place is start fresh h =
      let starts : starts_of new ≡ starts_of old ++ v.start ∷ [] = starts_kept old new v items in
      let here : IsSnapshot At new.place w commits [] v = record {
        within = omega (arith, start);
        store = subst (λ (cs : List Change). At v.store w (take v.start commits) cs) (sym (places.none_snapshot new.place v.start))
            (subst (λ (ks : List Commit). At v.store w ks []) (sym (take_all v.start commits (omega (arith, start)))) h);
      } in
      record {
        present = subst (λ (s : S). At s w commits (on_present new.place [])) (sym present) (subst (λ (p : Option ℕ). At old.present w commits (on_present p [])) (sym place) is.present);
        snapshots = subst (λ (xs : List (Snapshot S)). Each (IsSnapshot At new.place w commits []) xs) (sym items)
            (places.each_push (IsSnapshot At new.place w commits []) v here old.snapshots.items (subst (λ (p : Option ℕ). Each (IsSnapshot At p w commits []) old.snapshots.items) (sym place) is.snapshots));
        place = subst (λ (p : Option ℕ). IsPlace p (starts_of new)) (sym place) (subst (λ (ss : List ℕ). IsPlace old.place ss) (sym starts) (places.place_pushed old.place v.start (starts_of old) is.place));
        apart = subst AreApart (sym starts) (places.apart_pushed v.start (starts_of old) is.apart fresh);
      }

  pub sat_stores : (old new : Stores S) (w : World) (commits : List Commit) → new.present ≡ old.present → new.snapshots.items ≡ old.snapshots.items → IsPlace new.place (starts_of old) → IsStores At old w commits [] → IsStores At new w commits []
  sat_stores old new w commits present items place is =
      let starts : starts_of new ≡ starts_of old = starts_same old new items in
      record {
        present = subst (λ (s : S). At s w commits (on_present new.place [])) (sym present)
            (subst (λ (cs : List Change). At old.present w commits cs) (places.none_present old.place ∙ sym (places.none_present new.place)) is.present);
        snapshots = subst (λ (xs : List (Snapshot S)). Each (IsSnapshot At new.place w commits []) xs) (sym items)
            (places.each_map (IsSnapshot At old.place w commits []) (IsSnapshot At new.place w commits [])
            (λ x. carry old.place new.place w commits [] [] x (places.none_snapshot old.place x.start ∙ sym (places.none_snapshot new.place x.start))) old.snapshots.items is.snapshots);
        place = subst (λ (ss : List ℕ). IsPlace new.place ss) (sym starts) place;
        apart = subst AreApart (sym starts) is.apart;
      }

  pub released_stores : (old new : Stores S) (gone : ℕ) (w : World) (commits : List Commit) (seated : List Change) → new.present ≡ old.present → new.snapshots.items ≡ filter (λ s. not (s.start == gone)) old.snapshots.items → new.place ≡ place_without gone old.place → IsStores At old w commits seated
      → (old.place ≡ Some gone → seated ≡ []) → IsStores At new w commits seated
  released_stores old new gone w commits seated present items place is none =
      let starts : starts_of new ≡ starts_without gone (starts_of old) = starts_released old.snapshots.items new.snapshots.items gone items in
      record {
        present = subst (λ (s : S). At s w commits (on_present new.place seated)) (sym present)
            (subst (λ (cs : List Change). At old.present w commits cs) (sym (ap (λ (p : Option ℕ). on_present p seated) place ∙ places.present_kept gone old.place seated none)) is.present);
        snapshots = subst (λ (xs : List (Snapshot S)). Each (IsSnapshot At new.place w commits seated) xs) (sym items)
            (places.each_filter (IsSnapshot At new.place w commits seated) (λ (s : Snapshot S). not (s.start == gone)) old.snapshots.items
            (places.each_map (IsSnapshot At old.place w commits seated) (IsSnapshot At new.place w commits seated)
            (λ x. carry old.place new.place w commits seated seated x (sym (ap (λ (p : Option ℕ). on_snapshot p x.start seated) place ∙ places.snapshot_kept gone old.place x.start seated none))) old.snapshots.items is.snapshots));
        place = subst (λ (p : Option ℕ). IsPlace p (starts_of new)) (sym place) (subst (λ (ss : List ℕ). IsPlace (place_without gone old.place) ss) (sym starts) (places.place_kept gone old.place (starts_of old) is.place));
        apart = subst AreApart (sym starts) (places.apart_kept gone (starts_of old) is.apart);
      }
