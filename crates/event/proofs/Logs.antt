-- Laws of the events of a word: how many there are, and those of its parts. Assumes nothing.
use mathlib.Core.Path.{◌≡◌, refl, sym, ap, ◌∙◌}
use mathlib.Core.Bool.{Bool, true, false, cond}
use mathlib.Core.List.{List, [], ◌∷◌, ◌++◌, append_assoc}
use Prim.Native.Nat.{ℕ, zero, suc, ◌+◌, ◌*◌, ◌/◌, ◌%◌, ◌^◌, ◌≤◌, ◌<◌}
use native.Mathlib.Nat.{zero-add, add-zero, pow-zero, pow-succ', div-one, div-div-eq-div-mul}
use native.Mathlib.Omega.{arith}
use borrow.Author.Tests.{eqb-true, eqb-false}
use lib.Dec.{eqb}
use lib.Count.{ones, ones_step, ones-le}
use lib.ListN.{length, length-append}
use Rattle.wire.specs.Internal.Words.{word_of, how_many}
use Rattle.wire.proofs.WordLaws.{word_low, word-rest}
use Rattle.settings.specs.declared.types.Kind.{Kind}
use Rattle.event.specs.Event.{Event, event_bytes, log_bytes}
use Rattle.event.specs.Internal.Events.{event_at, events_from}
use Rattle.event.specs.Internal.Bits.{events_of}
use Rattle.event.proofs.Stores.{length-event}

pub log-append : (xs ys : List Event) → log_bytes (xs ++ ys) ≡ log_bytes xs ++ log_bytes ys
unfolding log_bytes
log-append [] ys = refl
log-append (x ∷ xs) ys = ap (λ (l : List ℕ). event_bytes x ++ l) (log-append xs ys) ∙ sym (append_assoc (event_bytes x) (log_bytes xs) (log_bytes ys))

-- 16 bytes an event
pub log-length : (es : List Event) → length (log_bytes es) ≡ 16 * length es
unfolding log_bytes
log-length [] = refl
log-length (e ∷ es) = omega (arith, length-append (event_bytes e) (log_bytes es), length-event e, log-length es)

even : (w : ℕ) → (w % 2 ≡ 1 → ⊥) → w % 2 ≡ 0
even w h = go (w % 2) (omega arith) h
  where
    go : (r : ℕ) → r < 2 → (r ≡ 1 → ⊥) → r ≡ 0
    go zero l h = refl
    go (suc zero) l h = absurd (h refl)
    go (suc (suc r)) l h = absurd (omega arith)

module _ (alarm : ℕ) (kind : Kind) (suppressed : Bool) (time : ℕ) where
  -- an event word without bits stands for no events
  pub no-events : (n k : ℕ) → events_of alarm kind suppressed time n k 0 ≡ []
  unfolding events_of
  no-events zero k = refl
  no-events (suc n) k = no-events n (suc k)

  -- an event for each bit
  pub events-ones : (n k word : ℕ) → word < 2 ^ n → length (events_of alarm kind suppressed time n k word) ≡ ones word
  unfolding events_of
  events-ones zero k word h = omega (arith, ones-le 0 word h)
  events-ones (suc n) k word h =
      go (eqb (word % 2) 1) (event_at alarm kind suppressed time k) refl (events-ones n (suc k) (word / 2) (omega (arith, pow-succ' 2 n)))
    where
      go : (b : Bool) (e : Event) → eqb (word % 2) 1 ≡ b → length (events_of alarm kind suppressed time n (suc k) (word / 2)) ≡ ones (word / 2)
          → length (cond b (e ∷ events_of alarm kind suppressed time n (suc k) (word / 2)) (events_of alarm kind suppressed time n (suc k) (word / 2)))
          ≡ ones word
      go true x e rest = omega (arith, eqb-true (word % 2) 1 e, ones_step word, rest)
      go false x e rest = let z : word % 2 ≡ 0 = even word (eqb-false (word % 2) 1 e) in omega (arith, ones_step word, rest)

  -- no more events than bits
  pub events-most : (n k word : ℕ) → length (events_of alarm kind suppressed time n k word) ≤ ones word
  unfolding events_of
  events-most zero k word = omega arith
  events-most (suc n) k word = go (eqb (word % 2) 1) (event_at alarm kind suppressed time k) refl (events-most n (suc k) (word / 2))
    where
      go : (b : Bool) (e : Event) → eqb (word % 2) 1 ≡ b → length (events_of alarm kind suppressed time n (suc k) (word / 2)) ≤ ones (word / 2)
          → length (cond b (e ∷ events_of alarm kind suppressed time n (suc k) (word / 2)) (events_of alarm kind suppressed time n (suc k) (word / 2)))
          ≤ ones word
      go true x e rest = omega (arith, eqb-true (word % 2) 1 e, ones_step word, rest)
      go false x e rest = omega (arith, ones_step word, rest)

  -- the events of a word made of bits are those of the bits, as the marked cases are checked
  pub events-bits : (n k : ℕ) (bs : List Bool) → length bs ≤ n
      → events_of alarm kind suppressed time n k (word_of bs) ≡ events_from alarm kind suppressed time k bs
  unfolding events_of events_from word_of
  events-bits n k [] h = no-events n k
  events-bits zero k (b ∷ bs) h = absurd (omega arith)
  events-bits (suc n) k (b ∷ bs) h = go (events-bits n (suc k) bs (omega arith))
    where
      go : events_of alarm kind suppressed time n (suc k) (word_of bs) ≡ events_from alarm kind suppressed time (suc k) bs
          → events_of alarm kind suppressed time (suc n) k (word_of (b ∷ bs)) ≡ events_from alarm kind suppressed time k (b ∷ bs)
      go ih = rw (word_low b bs refl, word-rest b bs refl, ih)

  -- an event for each bit that is set
  pub events-number : (k : ℕ) (bits : List Bool) → length (events_from alarm kind suppressed time k bits) ≡ how_many bits
  unfolding events_from how_many
  events-number k [] = refl
  events-number k (true ∷ bs) = omega (arith, events-number (suc k) bs)
  events-number k (false ∷ bs) = omega (arith, events-number (suc k) bs)

  -- the events of n bits, and of the m bits above them
  pub events-split : (n m k word : ℕ)
      → events_of alarm kind suppressed time (n + m) k word
      ≡ events_of alarm kind suppressed time n k word ++ events_of alarm kind suppressed time m (k + n) (word / 2 ^ n)
  unfolding events_of
  events-split zero m k word = rw (zero-add m, add-zero k, pow-zero, div-one)
  events-split (suc n) m k word =
      let p : suc n + m ≡ suc (n + m) = omega arith in
      let q : k + suc n ≡ suc k + n = omega arith in
      let d : word / 2 ^ suc n ≡ word / 2 / 2 ^ n = rw (pow-succ', ← div-div-eq-div-mul) in
      rw (p, q, d)
      (go (eqb (word % 2) 1) (event_at alarm kind suppressed time k) (events_of alarm kind suppressed time n (suc k) (word / 2)) _
      (events-split n m (suc k) (word / 2)))
    where
      go : (b : Bool) (e : Event) (ys zs : List Event) {xs : List Event} → xs ≡ ys ++ zs → cond b (e ∷ xs) xs ≡ cond b (e ∷ ys) ys ++ zs
      go true e ys zs h = ap (λ (l : List Event). e ∷ l) h
      go false e ys zs h = h
