-- The count byte of a section.
use Rattle.std.specs.Prelude.{ℕ, ◌+◌, List, cond, ltb, leb, length, get_or, Result, Ok, Err}
use Rattle.settings.specs.Counts.{each_most}
use Rattle.settings.specs.Refusals.{refusal}
use Rattle.settings.specs.declared.refusals.Refusal.{Refusal}
use Rattle.settings.specs.declared.refusals.Reason.TheVariants.{Incomplete, TooMany}

-- 1 where the byte is missing and 2 where it is over 12, each at its offset; else the count and where the first record begins
unfoldable pub count_at : List ℕ → ℕ → Result (ℕ × ℕ) Refusal
count_at image at =
    cond (ltb at (length image))
    (cond (leb (get_or image at 0) each_most) (Ok (get_or image at 0, at + 1)) (Err (refusal TooMany at)))
    (Err (refusal Incomplete at))
