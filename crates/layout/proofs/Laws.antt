-- What is read after stores: elsewhere as before, and in their place what was stored. Lengths are kept. Assumes nothing.
use mathlib.Core.List.{List, [], ◌∷◌, ◌++◌, append-nil}
use mathlib.Core.Path.{◌≡◌, refl, sym, ap, ◌∙◌}
use Prim.Native.Nat.{ℕ, zero, suc, ◌+◌, ◌*◌, ◌≤◌, ◌<◌}
use native.Mathlib.Nat.{add-zero, zero-add}
use native.Mathlib.Omega.{arith}
use lib.ListN.{length, get_or, set, take, drop, drop_of_length-le, length-set, length-append, length-replicate, replicate}
use Rattle.std.proofs.lemmas.List.{append_assoc}
use lib.Seq.{sets, sets-eq, length-sets, drop-drop, get_or-take, get_or-drop, get_or-set_same, get_or-set_other}
use Rattle.wire.specs.Number.{part}
use Rattle.wire.proofs.Laws.{below}
use Rattle.settings.specs.declared.types.Alarm.{Alarm}
use Rattle.settings.specs.declared.types.Kind.{Kind}
use Rattle.settings.specs.declared.types.Kind.TheVariants.{Digital, Analog}
use Rattle.settings.specs.declared.types.Settings.{Settings}
use Rattle.settings.specs.declared.types.Form.{Form}
use Rattle.settings.specs.declared.types.Form.TheVariants.{Digital as DigitalForm, Analog as AnalogForm}
use Rattle.layout.specs.Internal.Words.{kind_in, limits_in, severities_in, alarm_in, kind_words, digital_words, analog_words, alarm_words}
use Rattle.layout.specs.Internal.Block.{alarm_at, alarms_words, settings_words, placed}

-- ---- a word after a run of stores

-- behind the run
pub get_or-above : (l : List ℕ) (i : ℕ) (vs : List ℕ) (k d : ℕ) → i + length vs ≤ k → get_or (sets l i vs) k d ≡ get_or l k d
get_or-above l i [] k d h = refl
get_or-above l i (v ∷ vs) k d h = get_or-above (set l i v) (suc i) vs k d (omega arith) ∙ get_or-set_other l i k v d (λ e. omega arith)

-- in front of it
pub get_or-below : (l : List ℕ) (i : ℕ) (vs : List ℕ) (k d : ℕ) → k < i → get_or (sets l i vs) k d ≡ get_or l k d
get_or-below l i [] k d h = refl
get_or-below l i (v ∷ vs) k d h = get_or-below (set l i v) (suc i) vs k d (omega arith) ∙ get_or-set_other l i k v d (λ e. omega arith)

-- within it
pub get_or-stored : (l : List ℕ) (i : ℕ) (vs : List ℕ) (k d : ℕ) → k < length vs → i + length vs ≤ length l → get_or (sets l i vs) (i + k) d ≡ get_or vs k d
get_or-stored l i [] k d h m = absurd (omega arith)
get_or-stored l i (v ∷ vs) zero d h m =
    rw (add-zero i) (get_or-below (set l i v) (suc i) vs i d (omega arith) ∙ get_or-set_same l i v d (omega arith))
get_or-stored l i (v ∷ vs) (suc k) d h m =
    let e : i + suc k ≡ suc i + k = omega arith in
    rw e (get_or-stored (set l i v) (suc i) vs k d (omega arith) (omega (arith, length-set l i v)))

-- ---- an alarm after a run of stores

module _ (ws us : List ℕ) (at b : ℕ) (same : (k : ℕ) → k < 8 → get_or us (b + k) 0 ≡ get_or ws (at + k) 0) where
  kind-same : (form : Form) → kind_in form us b ≡ kind_in form ws at
  unfolding limits_in severities_in
  kind-same DigitalForm = rw (same 5 (omega arith))
  kind-same AnalogForm =
      rw (
        same 1 (omega arith),
        same 2 (omega arith),
        same 3 (omega arith),
        same 4 (omega arith),
        same 5 (omega arith),
        same 6 (omega arith),
        same 7 (omega arith),
      )

  -- an alarm is read off its eight words alone
  pub alarm-same : (form : Form) → alarm_in form us b ≡ alarm_in form ws at
  unfolding alarm_in
  alarm-same form =
      let e : get_or us b 0 ≡ get_or ws at 0 = simp add-zero at (same 0 (omega arith)) in
      rw (e, kind-same form)

-- stores in front of its words leave it
pub alarm-above : (form : Form) (ws : List ℕ) (i : ℕ) (vs : List ℕ) (at : ℕ) → i + length vs ≤ at → alarm_in form (sets ws i vs) at ≡ alarm_in form ws at
alarm-above form ws i vs at h = alarm-same ws (sets ws i vs) at at (λ k m. get_or-above ws i vs (at + k) 0 (omega arith)) form

-- stores behind its words leave it
pub alarm-below : (form : Form) (ws : List ℕ) (i : ℕ) (vs : List ℕ) (at : ℕ) → at + 8 ≤ i → alarm_in form (sets ws i vs) at ≡ alarm_in form ws at
alarm-below form ws i vs at h = alarm-same ws (sets ws i vs) at at (λ k m. get_or-below ws i vs (at + k) 0 (omega arith)) form

-- eight words that were stored say what they say by themselves
pub alarm-stored : (form : Form) (ws : List ℕ) (at : ℕ) (vs : List ℕ) → at + 8 ≤ length ws → length vs ≡ 8
    → alarm_in form (sets ws at vs) at ≡ alarm_in form vs 0
alarm-stored form ws at vs h n =
    alarm-same vs (sets ws at vs) 0 at (λ k m. get_or-stored ws at vs k 0 (omega arith) (omega arith) ∙ rw zero-add) form

-- ---- some words of a block

-- a word of the n words from an offset on
pub get_or-part : (ws : List ℕ) (at n k d : ℕ) → k < n → get_or (part ws at n) k d ≡ get_or ws (at + k) d
get_or-part ws at n k d h = get_or-take n (drop at ws) k d h ∙ get_or-drop at ws k d

-- an alarm's eight words, cut out, say the alarm
pub alarm-cut : (form : Form) (ws : List ℕ) (at : ℕ) → alarm_in form (part ws at 8) 0 ≡ alarm_in form ws at
alarm-cut form ws at = alarm-same ws (part ws at 8) at 0 (λ k m. get_or-part ws at 8 (0 + k) 0 (omega arith) ∙ rw zero-add) form

-- words that were cut out, and written anew
pub part-written : (ws vs : List ℕ) (at n : ℕ) → at + n ≤ length ws → length vs ≡ n → take at ws ++ (vs ++ drop n (drop at ws)) ≡ sets ws at vs
part-written ws vs at n h e =
    let fits : at + length vs ≤ length ws = omega (arith, e) in
    ap (λ (l : List ℕ). take at ws ++ (vs ++ l)) (drop-drop n at ws ∙ ap (λ (k : ℕ). drop (at + k) ws) (sym e))
    ∙ sym (append_assoc (take at ws) vs (drop (at + length vs) ws)) ∙ sym (sets-eq vs ws at fits)

-- the same from what the code has at hand
pub part-put : (ws vs : List ℕ) (at n : ℕ) {front behind new : List ℕ} → at + n ≤ length ws → length vs ≡ n → front ≡ take at ws → behind ≡ drop at ws
    → new ≡ vs → front ++ (new ++ drop n behind) ≡ sets ws at vs
part-put ws vs at n h e f b v = (λ i. f i ++ (v i ++ drop n (b i))) ∙ part-written ws vs at n h e

-- written over as many words they are all there is
pub sets-whole : (ws vs : List ℕ) → length ws ≡ length vs → sets ws 0 vs ≡ vs
sets-whole ws vs h =
    let rest : drop (0 + length vs) ws ≡ [] = drop_of_length-le ws (omega (arith, h)) in
    sets-eq vs ws 0 (omega (arith, h)) ∙ ap (λ (l : List ℕ). vs ++ l) rest ∙ append-nil vs

-- ---- how long they are

-- stores keep the length
pub as_long : (ws : List ℕ) (i : ℕ) (vs : List ℕ) {us : List ℕ} → us ≡ sets ws i vs → length us ≡ length ws
as_long ws i vs e = ap length e ∙ length-sets ws i vs

length-kind : (k : Kind) (flags duration : ℕ) → length (kind_words k flags duration) ≡ 8
unfolding digital_words analog_words
length-kind (Digital severity) flags duration = refl
length-kind (Analog limits severities period) flags duration = refl

pub length-alarm : (a : Alarm) → length (alarm_words a) ≡ 8
unfolding alarm_words
length-alarm a = length-kind a.kind a.flags a.duration

pub length-alarms : (xs : List Alarm) → length (alarms_words xs) ≡ 8 * length xs
unfolding alarms_words
length-alarms [] = omega arith
length-alarms (a ∷ xs) = omega (arith, length-append (alarm_words a) (alarms_words xs), length-alarm a, length-alarms xs)

-- the block has 292 words
pub length-settings : (s : Settings) → length s.alarms ≡ 24 → length (settings_words s) ≡ 292
unfolding settings_words
length-settings s h =
    omega (arith, length-append (alarms_words s.alarms) (replicate 96 0), length-alarms s.alarms, length-replicate {A = ℕ} 96 0)

-- ---- an alarm at another place

pub place-below : (form : Form) (ws : List ℕ) (n p : ℕ) (a : Alarm) → p < n
    → alarm_in form (sets ws (alarm_at n) (alarm_words a)) (alarm_at p) ≡ alarm_in form ws (alarm_at p)
place-below form ws n p a h = alarm-below form ws (alarm_at n) (alarm_words a) (alarm_at p) (omega arith)

-- ---- the first elements of a list, given by their places

module _ {X : Type 0} where
  pub length-placed : (f : ℕ → X) (n : ℕ) (xs : List X) → length (placed f n xs) ≡ length xs
  unfolding placed
  length-placed f zero xs = refl
  length-placed f (suc n) xs = length-set (placed f n xs) n (f n) ∙ length-placed f n xs

  -- the rest stays
  pub placed-above : (f : ℕ → X) (n i : ℕ) (xs : List X) (d : X) → n ≤ i → get_or (placed f n xs) i d ≡ get_or xs i d
  unfolding placed
  placed-above f zero i xs d h = refl
  placed-above f (suc n) i xs d h = get_or-set_other (placed f n xs) n i (f n) d (λ e. omega arith) ∙ placed-above f n i xs d (omega arith)

  -- the first n are what f gives
  pub placed_below : (f : ℕ → X) (n i : ℕ) (xs : List X) (d : X) → i < n → n ≤ length xs → get_or (placed f n xs) i d ≡ f i
  unfolding placed
  placed_below f zero i xs d h l = absurd (omega arith)
  placed_below f (suc n) i xs d h l =
      below (λ (k : ℕ). get_or (set (placed f n xs) n (f n)) k d ≡ f k) h
      (get_or-set_same (placed f n xs) n (f n) d (omega (arith, length-placed f n xs)))
      (λ m. get_or-set_other (placed f n xs) n i (f n) d (λ e. omega arith) ∙ placed_below f n i xs d m (omega arith))
