-- The computed forms and the words are the same: since, the counts and the rows. Assumes nothing.
use Prim.Native.Nat.{ℕ, ◌+◌}
use mathlib.Core.Path.{◌≡◌, refl, sym, ap, ap₂, ◌∙◌}
use mathlib.Core.Logic.{◌⊎◌, inl, inr}
use mathlib.Core.List.{List, [], ◌∷◌, ◌++◌, append_assoc, append-nil}
use mathlib.Core.Bool.{Bool, true, false, ◌&&◌, ◌||◌, cond, or-true}
use native.Mathlib.Omega.{arith}
use Rattle.history.specs.Past.{Fact, holds, Each, since, Since, count_from, many, FromLast, OfAll, row_start}
use Rattle.history.specs.Internal.Row.{RowFrom}

module _ {S : Type 0} where
  -- ---- each of some scans has a value

  each_nil : (q : Fact S) (v : Bool) (earlier : List S) → Each q v [] earlier
  each_nil q v earlier [] y before e = let z : ◌≡◌ {A = ℕ} 0 1 = cc in absurd (omega arith)
  each_nil q v earlier (x ∷ after) y before e = let z : ◌≡◌ {A = ℕ} 0 1 = cc in absurd (omega arith)

  each-cons : (q : Fact S) (v : Bool) (s : S) (scans earlier : List S) → q s (scans ++ earlier) ≡ v → Each q v scans earlier → Each q v (s ∷ scans) earlier
  each-cons q v s scans earlier h r [] y before e =
      let y≡ : s ≡ y = cc in
      let b≡ : scans ≡ before = cc in
      rw (← y≡, ← b≡) h
  each-cons q v s scans earlier h r (x ∷ after) y before e = r after y before (cc)

  each_tail : (q : Fact S) (v : Bool) (s : S) (scans earlier : List S) → Each q v (s ∷ scans) earlier → Each q v scans earlier
  each_tail q v s scans earlier h after y before e = h (s ∷ after) y before (ap (λ l. s ∷ l) e)

  -- ---- since

  pub since-words : (p q : Fact S) (scans : List S) → since p q scans ≡ true → Since p q scans
  unfolding since
  since-words p q [] h = let z : ◌≡◌ {A = ℕ} 0 1 = cc in absurd (omega arith)
  since-words p q (s ∷ past) h = go (p s past) (q s past) refl refl (since-words p q past) h
    where
      go : (a b : Bool) → p s past ≡ a → q s past ≡ b → (since p q past ≡ true → Since p q past) → (a || b && since p q past) ≡ true → Since p q (s ∷ past)
      go true b e f ih h = record { later = []; scan = s; earlier = past; split = refl; had = e; kept = each_nil q true (s ∷ past) }
      go false true e f ih h =
          let r = ih h in
          record {
            later = s ∷ r.later;
            scan = r.scan;
            earlier = r.earlier;
            split = ap (λ l. s ∷ l) r.split;
            had = r.had;
            kept = each-cons q true s r.later (r.scan ∷ r.earlier) (rw r.split at f) r.kept;
          }
      go false false e f ih h = let z : ◌≡◌ {A = ℕ} 0 1 = cc in absurd (omega arith)

  -- words-since of a list that is written split; so are split-count and split-row for the counts and the rows
  split-since : (p q : Fact S) (later : List S) (scan : S) (earlier : List S) → p scan earlier ≡ true → Each q true later (scan ∷ earlier)
      → since p q (later ++ (scan ∷ earlier)) ≡ true
  unfolding since
  split-since p q [] scan earlier h k = rw h
  split-since p q (y ∷ later) scan earlier h k =
      rw (k [] y later refl, split-since p q later scan earlier h (each_tail q true y later (scan ∷ earlier) k)) (or-true (p y (later ++ (scan ∷ earlier))))

  pub words-since : (p q : Fact S) (scans : List S) → Since p q scans → since p q scans ≡ true
  words-since p q scans w = ap (since p q) w.split ∙ split-since p q w.later w.scan w.earlier w.had w.kept

  -- ---- counts

  split-count : (r p : Fact S) (later : List S) (scan : S) (earlier : List S) → r scan earlier ≡ true → Each r false later (scan ∷ earlier)
      → count_from r p (later ++ (scan ∷ earlier)) ≡ many p (later ++ (scan ∷ [])) earlier
  unfolding count_from many
  split-count r p [] scan earlier h k = rw h
  split-count r p (y ∷ later) scan earlier h k =
      rw (k [] y later refl)
      (ap₂ (λ (l : List S) (n : ℕ). cond (p y l) 1 0 + n) (sym (append_assoc later (scan ∷ []) earlier))
      (split-count r p later scan earlier h (each_tail r false y later (scan ∷ earlier) k)))

  all-count : (r p : Fact S) (scans : List S) → Each r false scans [] → count_from r p scans ≡ many p scans []
  unfolding count_from many
  all-count r p [] k = refl
  all-count r p (s ∷ past) k =
      rw (rw append-nil at (k [] s past refl), all-count r p past (each_tail r false s past [] k), append-nil past)

  pub words_count : (r p : Fact S) (scans : List S) {n : ℕ} → FromLast r p scans n → n ≡ count_from r p scans
  words_count r p scans w =
      w.number ∙ sym (split-count r p w.later w.scan w.earlier w.last w.none) ∙ ap (count_from r p) (sym w.split)

  pub words-count-all : (r p : Fact S) (scans : List S) {n : ℕ} → OfAll r p scans n → n ≡ count_from r p scans
  words-count-all r p scans w = w.number ∙ sym (all-count r p scans w.none)

  pub count-words : (r p : Fact S) (scans : List S) → FromLast r p scans (count_from r p scans) ⊎ OfAll r p scans (count_from r p scans)
  count-words r p [] = inr (record { none = each_nil r false []; number = all-count r p [] (each_nil r false []) })
  count-words r p (s ∷ past) = go (r s past) refl (count-words r p past)
    where
      from : (later : List S) (scan : S) (earlier : List S) → s ∷ past ≡ later ++ (scan ∷ earlier) → r scan earlier ≡ true → Each r false later (scan ∷ earlier)
          → FromLast r p (s ∷ past) (count_from r p (s ∷ past))
      from later scan earlier e h k =
          record {
            later = later;
            scan = scan;
            earlier = earlier;
            split = e;
            last = h;
            none = k;
            number = ap (count_from r p) e ∙ split-count r p later scan earlier h k;
          }

      go : (b : Bool) → r s past ≡ b → FromLast r p past (count_from r p past) ⊎ OfAll r p past (count_from r p past)
          → FromLast r p (s ∷ past) (count_from r p (s ∷ past)) ⊎ OfAll r p (s ∷ past) (count_from r p (s ∷ past))
      go true e w = inl (from [] s past refl e (each_nil r false (s ∷ past)))
      go false e (inl w) =
          inl
          (from (s ∷ w.later) w.scan w.earlier (ap (λ l. s ∷ l) w.split) w.last
          (each-cons r false s w.later (w.scan ∷ w.earlier) (rw w.split at e) w.none))
      go false e (inr w) =
          let none = each-cons r false s past [] (rw append-nil e) w.none in
          inr (record { none = none; number = all-count r p (s ∷ past) none })

  -- ---- rows

  -- the last scan of a row has p
  row-holds : (p : Fact S) (later : List S) (first : S) (earlier : List S) → p first earlier ≡ true → Each p true later (first ∷ earlier)
      → holds p (later ++ (first ∷ earlier)) ≡ true
  row-holds p [] first earlier h k = h
  row-holds p (y ∷ later) first earlier h k = k [] y later refl

  split-row : (time : S → ℕ) (p : Fact S) (later : List S) (first : S) (earlier : List S) → holds p earlier ≡ false → p first earlier ≡ true
      → Each p true later (first ∷ earlier) → row_start time p (later ++ (first ∷ earlier)) ≡ time first
  unfolding row_start
  split-row time p [] first earlier b h k = rw b
  split-row time p (y ∷ later) first earlier b h k =
      let t = each_tail p true y later (first ∷ earlier) k in
      rw (row-holds p later first earlier h t) (split-row time p later first earlier b h t)

  pub words_row : (time : S → ℕ) (p : Fact S) (scans : List S) {t : ℕ} → RowFrom time p scans t → t ≡ row_start time p scans
  words_row time p scans w =
      w.start ∙ sym (ap (row_start time p) w.split ∙ split-row time p w.later w.first w.earlier w.begins w.had w.kept)

  pub row_words : (time : S → ℕ) (p : Fact S) (scans : List S) → holds p scans ≡ true → RowFrom time p scans (row_start time p scans)
  unfolding row_start
  row_words time p [] h = let z : ◌≡◌ {A = ℕ} 0 1 = cc in absurd (omega arith)
  row_words time p (s ∷ past) h = go (holds p past) refl (row_words time p past)
    where
      go : (b : Bool) → holds p past ≡ b → (holds p past ≡ true → RowFrom time p past (row_start time p past))
          → RowFrom time p (s ∷ past) (cond b (row_start time p past) (time s))
      go true e ih =
          let r = ih e in
          record {
            later = s ∷ r.later;
            first = r.first;
            earlier = r.earlier;
            split = ap (λ l. s ∷ l) r.split;
            begins = r.begins;
            had = r.had;
            kept = each-cons p true s r.later (r.first ∷ r.earlier) (rw r.split at h) r.kept;
            start = r.start;
          }
      go false e ih = record { later = []; first = s; earlier = past; split = refl; begins = e; had = h; kept = each_nil p true (s ∷ past); start = refl }
