-- Laws of a scan of a bank, by the check's answer. Assumes nothing.
use mathlib.Core.Path.{◌≡◌}
use mathlib.Core.List.{List}
use Prim.Native.Nat.{ℕ}
use Rattle.std.proofs.Common.{Ok, Err}
use Rattle.settings.specs.declared.refusals.Refusal.{Refusal}
use Rattle.bank.specs.Internal.Bank.{Bank}
use Rattle.scan.specs.Internal.Scan.{check_of, refused_scan, checked_scan, checked_buffer, scan_of, event_buffer}

module _ (b : Bank) (rec : List ℕ) where
  pub refused-scan : {r : Refusal} (room : ℕ) → check_of b rec ≡ Err r → scan_of b rec room ≡ refused_scan b r
  unfolding scan_of
  refused-scan room h = rw h

  pub refused-buffer : {r : Refusal} (out : List ℕ) → check_of b rec ≡ Err r → event_buffer b rec out ≡ out
  unfolding event_buffer
  refused-buffer out h = rw h

  pub accepted-scan : (room : ℕ) → check_of b rec ≡ Ok tt → scan_of b rec room ≡ checked_scan b rec room
  unfolding scan_of
  accepted-scan room h = rw h

  pub accepted-buffer : (out : List ℕ) → check_of b rec ≡ Ok tt → event_buffer b rec out ≡ checked_buffer b rec out
  unfolding event_buffer
  accepted-buffer out h = rw h
