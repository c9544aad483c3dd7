-- Sizes that hold for every count of alarms.
use Rattle.std.specs.Prelude.{ℕ, cond}
use Rattle.settings.specs.Counts.{are_good}
use Rattle.settings.specs.declared.counts.Counts.{Counts}
use Rattle.scan_record.specs.Part.{time_size, record_size}
pub use Rattle.scan_record.specs.Part.{entry_size}

-- the length of a bank's records. (A bank with counts over 12, which no call hands back, has none; each 8 bytes are refused then)
unfoldable pub length_of : Counts → ℕ
length_of counts = cond (are_good counts) (record_size counts) time_size
