-- The image in full means what the image means: of no bytes the factory bank. Assumes nothing.
use mathlib.Core.Path.{◌≡◌, refl}
use mathlib.Core.List.{List, [], ◌∷◌}
use Prim.Native.Nat.{ℕ, ◌≤◌, ◌<◌}
use native.Mathlib.Omega.{arith}
use lib.Dec.{T}
use lib.ListN.{length}
use lib.Pow.{are_bytes}
use Rattle.std.proofs.Common.{Ok}
use Rattle.wire.specs.Number.{bytes, value}
use Rattle.settings.specs.Alarm.{blanks, factory}
use Rattle.settings.specs.Refusals.{checked}
use Rattle.settings_record.specs.Record.{record_at, fields_at}
use Rattle.reader.specs.Count.{count_at}
use Rattle.reader.specs.Section.{section_at, records_from}
use Rattle.reader.specs.Read.{sections_of, rest_of, read_of, in_full}

pub read-in-full : (image : List ℕ) → sections_of (in_full image) ≡ read_of image
unfolding bytes sections_of rest_of read_of in_full section_at records_from record_at checked fields_at count_at value blanks factory
read-in-full [] = refl
read-in-full (b ∷ rest) = refl

pub bytes-in-full : (image : List ℕ) → T (are_bytes image) → T (are_bytes (in_full image))
unfolding bytes in_full
bytes-in-full [] b = tt
bytes-in-full (x ∷ rest) b = b

-- and is read as the same settings
pub read-again : (image : List ℕ) → read_of (in_full image) ≡ read_of image
unfolding in_full read_of
read-again [] = read-in-full []
read-again (b ∷ rest) = refl

-- of an image that has bytes it is that image
pub full-some : (image : List ℕ) → 1 ≤ length image → in_full image ≡ image
unfolding in_full
full-some [] h = absurd (omega arith)
full-some (b ∷ rest) h = refl

-- by the length, as the code asks
pub read-none : (image : List ℕ) → length image < 1 → read_of image ≡ Ok factory
unfolding read_of
read-none [] h = refl
read-none (b ∷ rest) h = absurd (omega arith)

pub read-some : (image : List ℕ) → 1 ≤ length image → read_of image ≡ sections_of image
unfolding read_of
read-some [] h = absurd (omega arith)
read-some (b ∷ rest) h = refl
