-- The past of an alarm: lists of accepted scans, the latest first. In `s ∷ past`, `past` is the list that ends with the scan before.
use Rattle.std.specs.Prelude.{ℕ, ◌+◌, ◌≡◌, List, [], ◌∷◌, ◌++◌, Bool, true, false, ◌&&◌, ◌||◌, cond}

-- a fact of a scan, by the scan and the scans before it
abbrev pub Fact : Type 0 → Type 0
Fact S = S → List S → Bool

module _ {S : Type 0} where
  -- whether the last scan has p
  abbrev pub holds : Fact S → List S → Bool
  holds p [] = false
  holds p (s ∷ past) = p s past

  -- each of `scans`, where `earlier` stands before them, has the value v of p
  abbrev pub Each : Fact S → Bool → List S → List S → Type 0
  Each p v scans earlier = (after : List S) (y : S) (before : List S) → scans ≡ after ++ (y ∷ before) → p y (before ++ earlier) ≡ v

  -- some scan had p, and every later one q
  unfoldable pub since : Fact S → Fact S → List S → Bool
  since p q [] = false
  since p q (s ∷ past) = p s past || q s past && since p q past

  -- in words: the list is later scans, a scan that had p, and earlier ones, and each of the later ones had q
  pub record Since (p q : Fact S) (scans : List S) : Type 0 where
    pub later : List S
    pub scan : S
    pub earlier : List S
    pub split : scans ≡ later ++ (scan ∷ earlier)
    pub had : p scan earlier ≡ true
    pub kept : Each q true later (scan ∷ earlier)

  -- how many scans had p, from the last that had r on and that one included, or of all where none had r
  unfoldable pub count_from : Fact S → Fact S → List S → ℕ
  count_from r p [] = 0
  count_from r p (s ∷ past) = cond (p s past) 1 0 + cond (r s past) 0 (count_from r p past)

  -- how many of `scans` had p, where `earlier` stands before them
  unfoldable pub many : Fact S → List S → List S → ℕ
  many p [] earlier = 0
  many p (s ∷ scans) earlier = cond (p s (scans ++ earlier)) 1 0 + many p scans earlier

  -- in words: n scans had p from the last with r on
  pub record FromLast (r p : Fact S) (scans : List S) (n : ℕ) : Type 0 where
    pub later : List S
    pub scan : S
    pub earlier : List S
    pub split : scans ≡ later ++ (scan ∷ earlier)
    pub last : r scan earlier ≡ true
    pub none : Each r false later (scan ∷ earlier)
    pub number : n ≡ many p (later ++ (scan ∷ [])) earlier

  -- or none had r and n of all had p
  pub record OfAll (r p : Fact S) (scans : List S) (n : ℕ) : Type 0 where
    pub none : Each r false scans []
    pub number : n ≡ many p scans []

  -- the time at which the unbroken row of scans with p began that ends with the last scan
  unfoldable pub row_start : (S → ℕ) → Fact S → List S → ℕ
  row_start time p [] = 0
  row_start time p (s ∷ past) = cond (holds p past) (row_start time p past) (time s)

  -- of the last scan that had p, what t gives; 0 where none had p
  unfoldable pub latest : Fact S → (S → List S → ℕ) → List S → ℕ
  latest p t [] = 0
  latest p t (s ∷ past) = cond (p s past) (t s past) (latest p t past)
