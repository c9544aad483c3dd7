-- Words of a block that are marked apart from it, as a part that was cut out. Assumes nothing.
use mathlib.Core.Bool.{Bool}
use mathlib.Core.List.{List, [], ◌∷◌, ◌++◌}
use mathlib.Core.Path.{◌≡◌, refl, sym, ap, ◌∙◌}
use Prim.Native.Nat.{ℕ, zero, suc, ◌+◌, ◌*◌, ◌≤◌, ◌<◌}
use native.Mathlib.Nat.{zero-add, suc-add, add-zero, add_assoc}
use native.Mathlib.Omega.{arith}
use lib.ListN.{length, get_or, set, take, drop, get_or-append, length-set}
use lib.Seq.{sets, get_or-append-add, length-take-le}
use Rattle.std.proofs.lemmas.List.{take-append-drop}
use Rattle.wire.specs.Number.{part}
use Rattle.wire.specs.Bits.{bit}
use Rattle.wire.proofs.Laws.{part-suc, length_part}
use Rattle.condition.specs.Internal.Mark.{Turn, Marks, marks_after, time_stamp_after}
use Rattle.layout.proofs.Laws.{get_or-part, part-put}
use Rattle.layout.proofs.Stay.{n1, n2, n3, n4, n5}
use Rattle.marks.specs.Internal.Marks.{marks_at, marks_words, turn_at, starts_in, mark_condition, mark_conditions, mark_alarm}
use Rattle.marks.proofs.Lengths.{length-conditions}

-- ---- a condition's four words

-- a condition's words among some that were cut out
pub marks-cut : (xs : List ℕ) (at n k : ℕ) → k + 4 ≤ n → marks_at (part xs at n) k ≡ marks_at xs (at + k)
marks-cut xs at n k h =
    λ i. record {
      count = get_or-part xs at n k 0 (omega arith) i;
      alarm = word 1 (omega arith) i;
      ack = word 2 (omega arith) i;
      return = word 3 (omega arith) i;
    }
  where
    word : (j : ℕ) → j < 4 → get_or (part xs at n) (k + j) 0 ≡ get_or xs (at + k + j) 0
    word j m = get_or-part xs at n (k + j) 0 (omega arith) ∙ rw add_assoc

-- by themselves
cut-marks : (xs : List ℕ) (at : ℕ) → marks_at (part xs at 4) 0 ≡ marks_at xs at
cut-marks xs at = marks-cut xs at 4 0 (omega arith) ∙ rw (add-zero at)

-- and written anew
pub condition-put : (t : Turn) (xs : List ℕ) (at : ℕ) {front behind words new : List ℕ} → at + 4 ≤ length xs → front ≡ take at xs → behind ≡ drop at xs
    → words ≡ take 4 behind → new ≡ marks_words (marks_after t (marks_at words 0)) → front ++ (new ++ drop 4 behind) ≡ mark_condition t at xs
unfolding mark_condition
condition-put t xs at h f b w n =
    let m = ap (λ (l : List ℕ). marks_at l 0) (w ∙ ap (take 4) b) ∙ cut-marks xs at in
    part-put xs (marks_words (marks_after t (marks_at xs at))) at 4 h refl f b (n ∙ ap (λ (k : Marks). marks_words (marks_after t k)) m)

-- ---- words in front of those that are stored

set-behind : (pre xs : List ℕ) (b v : ℕ) → set (pre ++ xs) (length pre + b) v ≡ pre ++ set xs b v
set-behind [] xs b v = rw zero-add
set-behind (p ∷ pre) xs b v = rw suc-add (ap (◌∷◌ p) (set-behind pre xs b v))

sets-behind : (pre vs xs : List ℕ) (b : ℕ) → sets (pre ++ xs) (length pre + b) vs ≡ pre ++ sets xs b vs
sets-behind pre [] xs b = refl
sets-behind pre (v ∷ vs) xs b =
    let e : suc (length pre + b) ≡ length pre + suc b = omega arith in
    (λ i. sets (set-behind pre xs b v i) (e i) vs) ∙ sets-behind pre vs (set xs b v) (suc b)

module _ (pre : List ℕ) where
  marks-behind : (xs : List ℕ) (b : ℕ) → marks_at (pre ++ xs) (length pre + b) ≡ marks_at xs b
  marks-behind xs b =
      λ i. record {
        count = get_or-append-add pre xs b 0 i;
        alarm = at 1 i;
        ack = at 2 i;
        return = at 3 i;
      }
    where
      at : (k : ℕ) → get_or (pre ++ xs) (length pre + b + k) 0 ≡ get_or xs (b + k) 0
      at k = let e : length pre + b + k ≡ length pre + (b + k) = omega arith in rw e (get_or-append-add pre xs (b + k) 0)

  condition-behind : (t : Turn) (xs : List ℕ) (b : ℕ) → mark_condition t (length pre + b) (pre ++ xs) ≡ pre ++ mark_condition t b xs
  unfolding mark_condition
  condition-behind t xs b =
      ap (λ (m : Marks). sets (pre ++ xs) (length pre + b) (marks_words (marks_after t m))) (marks-behind xs b)
      ∙ sets-behind pre (marks_words (marks_after t (marks_at xs b))) xs b

  module _ (required : Bool) (starts : List ℕ) (word time : ℕ) where
    conditions-behind : (b n : ℕ) (xs : List ℕ)
        → mark_conditions required starts word time (length pre + b) n (pre ++ xs) ≡ pre ++ mark_conditions required starts word time b n xs
    unfolding mark_conditions
    conditions-behind b zero xs = refl
    conditions-behind b (suc n) xs =
        let e : length pre + b + 4 * n ≡ length pre + (b + 4 * n) = omega arith in
        (λ i. mark_condition (turn_at required starts word time n) (e i) (conditions-behind b n xs i))
        ∙ condition-behind (turn_at required starts word time n) (mark_conditions required starts word time b n xs) (b + 4 * n)

    alarm-behind : (xs : List ℕ) → mark_alarm required starts word time (length pre) (pre ++ xs) ≡ pre ++ mark_alarm required starts word time 0 xs
    unfolding mark_alarm
    alarm-behind xs =
        let z : length pre ≡ length pre + 0 = sym (add-zero (length pre)) in
        let stamp = ap (λ (v : ℕ). time_stamp_after (bit word 4) time v) (ap (λ (k : ℕ). get_or (pre ++ xs) k 0) z ∙ get_or-append-add pre xs 0 0) in
        let first = (λ i. set (pre ++ xs) (z i) (stamp i)) ∙ set-behind pre xs 0 (time_stamp_after (bit word 4) time (get_or xs 0 0)) in
        ap (mark_conditions required starts word time (length pre + 1) 6) first
        ∙ conditions-behind 1 6 (set xs 0 (time_stamp_after (bit word 4) time (get_or xs 0 0)))

-- ---- words behind those that are stored

module _ (post : List ℕ) where
  set-within : (xs : List ℕ) (b v : ℕ) → b < length xs → set (xs ++ post) b v ≡ set xs b v ++ post
  set-within [] b v h = absurd (omega arith)
  set-within (x ∷ xs) zero v h = refl
  set-within (x ∷ xs) (suc b) v h = ap (◌∷◌ x) (set-within xs b v (omega arith))

  sets-within : (vs xs : List ℕ) (b : ℕ) → b + length vs ≤ length xs → sets (xs ++ post) b vs ≡ sets xs b vs ++ post
  sets-within [] xs b h = refl
  sets-within (v ∷ vs) xs b h =
      ap (λ (l : List ℕ). sets l (suc b) vs) (set-within xs b v (omega arith)) ∙ sets-within vs (set xs b v) (suc b) (rw length-set (omega arith))

  marks-within : (xs : List ℕ) (b : ℕ) → b + 4 ≤ length xs → marks_at (xs ++ post) b ≡ marks_at xs b
  marks-within xs b h =
      λ i. record {
        count = get_or-append xs post 0 b (omega arith) i;
        alarm = get_or-append xs post 0 (b + 1) (omega arith) i;
        ack = get_or-append xs post 0 (b + 2) (omega arith) i;
        return = get_or-append xs post 0 (b + 3) (omega arith) i;
      }

  condition-within : (t : Turn) (xs : List ℕ) (b : ℕ) → b + 4 ≤ length xs → mark_condition t b (xs ++ post) ≡ mark_condition t b xs ++ post
  unfolding mark_condition
  condition-within t xs b h =
      ap (λ (m : Marks). sets (xs ++ post) b (marks_words (marks_after t m))) (marks-within xs b h)
      ∙ sets-within (marks_words (marks_after t (marks_at xs b))) xs b h

  module _ (required : Bool) (starts : List ℕ) (word time : ℕ) where
    conditions-within : (b n : ℕ) (xs : List ℕ) → b + 4 * n ≤ length xs
        → mark_conditions required starts word time b n (xs ++ post) ≡ mark_conditions required starts word time b n xs ++ post
    unfolding mark_conditions
    conditions-within b zero xs h = refl
    conditions-within b (suc n) xs h =
        ap (mark_condition (turn_at required starts word time n) (b + 4 * n)) (conditions-within b n xs (omega arith))
        ∙ condition-within (turn_at required starts word time n) (mark_conditions required starts word time b n xs) (b + 4 * n)
        (omega (arith, h, length-conditions required starts word time b n xs))

    alarm-within : (xs : List ℕ) → 25 ≤ length xs → mark_alarm required starts word time 0 (xs ++ post) ≡ mark_alarm required starts word time 0 xs ++ post
    unfolding mark_alarm
    alarm-within xs h =
        let stamp = ap (λ (v : ℕ). time_stamp_after (bit word 4) time v) (get_or-append xs post 0 0 (omega arith)) in
        let v = time_stamp_after (bit word 4) time (get_or xs 0 0) in
        ap (mark_conditions required starts word time (0 + 1) 6) (ap (set (xs ++ post) 0) stamp ∙ set-within xs 0 v (omega arith))
        ∙ conditions-within 1 6 (set xs 0 v) (rw length-set (omega arith))

-- an alarm's words, cut out, marked, and written back
pub alarm-put : (required : Bool) (starts : List ℕ) (word time : ℕ) (xs : List ℕ) (at : ℕ) {front behind words new : List ℕ} → at + 25 ≤ length xs
    → front ≡ take at xs → behind ≡ drop at xs → words ≡ take 25 behind → new ≡ mark_alarm required starts word time 0 words
    → front ++ (new ++ drop 25 behind) ≡ mark_alarm required starts word time at xs
alarm-put required starts word time xs at h f b w n =
    let long : length (take at xs) ≡ at = length-take-le at xs (omega arith) in
    let cut : 25 ≤ length (part xs at 25) = omega (arith, length_part xs at 25 h) in
    (λ i. f i ++ ((n ∙ ap (mark_alarm required starts word time 0) (w ∙ ap (take 25) b)) i ++ drop 25 (b i)))
    ∙ ap (λ (l : List ℕ). take at xs ++ l) (sym (alarm-within (drop 25 (drop at xs)) required starts word time (part xs at 25) cut))
    ∙ ap (λ (l : List ℕ). take at xs ++ mark_alarm required starts word time 0 l) (take-append-drop 25 (drop at xs))
    ∙ sym (alarm-behind (take at xs) required starts word time (drop at xs))
    ∙ (λ i. mark_alarm required starts word time (long i) (take-append-drop at xs i))

-- six words are the starts
pub starts-part : (ws : List ℕ) (at : ℕ) → at + 6 ≤ length ws → part ws at 6 ≡ starts_in ws at
starts-part ws at h =
    rw (
      part-suc ws at 5 (omega arith),
      part-suc ws (suc at) 4 (omega arith),
      part-suc ws (suc (suc at)) 3 (omega arith),
      part-suc ws (suc (suc (suc at))) 2 (omega arith),
      part-suc ws (suc (suc (suc (suc at)))) 1 (omega arith),
      part-suc ws (suc (suc (suc (suc (suc at))))) 0 (omega arith),
      n1 at,
      n2 at,
      n3 at,
      n4 at,
      n5 at,
    )
