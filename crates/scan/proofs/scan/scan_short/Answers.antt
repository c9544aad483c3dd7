-- `scan::scan::scan_short` meets its contract: the copies are the words, and what is taken over is what they became. Assumes nothing.
use mathlib.Core.Path.{◌≡◌, refl, sym, ap, ◌∙◌}
use mathlib.Core.List.{List, ◌++◌}
use Prim.Native.Nat.{ℕ, ◌/◌, ◌≤◌, ◌<◌}
use native.Mathlib.Omega.{arith}
use lib.ListN.{length, take, drop}
use lib.Seq.{length-take-le}
use Rattle.bank.specs.Lent.{Words}
use Rattle.bank.specs.Internal.Blocks.{kept_words}
use Rattle.settings.specs.declared.counts.Counts.{Counts}
use Rattle.sweep.specs.Internal.Sweep.{Ready, log_after}
use Rattle.sweep.proofs.Room.{room_after}
use Rattle.std.proofs.Common.{Ok}
use Rattle.wire.proofs.Front.{front-taken, front-put}
use Rattle.scan.proofs.Checked.{roomy-answer, roomy-words, roomy-out, short-answer, short-words, short-out}
use Rattle.scan.proofs.scan.scan_short.Goals as goal

pub returns-then-out-used : goal.returns-then-out-used
returns-then-out-used c =
    let a = c.args in
    let rec : List ℕ = a.bytes.now in
    let w : Words = kept_words a.settings.now a.kept.now in
    let used = c.scan_alarms-used.ensures.value in
    let room = length a.out.now in
    let h : room < length (log_after w rec) = omega (arith, c.if-out-used.true, used) in
    let left = short-words w rec room h in
    record {
      value = rw c.at.ensures (short-answer w rec room h);
      same = (refl, refl);
      states_after = ap (λ (v : Words). v.states) left;
      marks_after = ap (λ (v : Words). v.marks) left;
      out_after = short-out w rec a.out.now h;
    }

-- the buffer that a step is lent suffices for its events
enough : (w : Words) (rec : List ℕ) {counts : Counts} {used : ℕ} → used ≡ length (log_after w rec) → Ready w rec counts → used ≤ 3840
enough w rec u r = omega (arith, u, room_after w rec r, r.most)

pub slice_bounds-events-end : goal.slice_bounds-events-end
slice_bounds-events-end c = omega (arith, enough _ _ c.scan_alarms-used.ensures.value c.requires)

pub slice_bounds-copy_from_slice-end-3 : goal.slice_bounds-copy_from_slice-end-3
slice_bounds-copy_from_slice-end-3 c = sym (length-take-le _ _ (omega (arith, enough _ _ c.scan_alarms-used.ensures.value c.requires)))

pub copy_from_slice-requires : goal.copy_from_slice-requires
copy_from_slice-requires c =
    length-take-le _ _ c.if-out-used.false ∙ sym (length-take-le _ _ (omega (arith, enough _ _ c.scan_alarms-used.ensures.value c.requires)))

pub returns : goal.returns
returns c =
    let a = c.args in
    let rec : List ℕ = a.bytes.now in
    let w : Words = kept_words a.settings.now a.kept.now in
    let e = c.scan_alarms-used.ensures in
    let room = length a.out.now in
    let h : length (log_after w rec) ≤ room = omega (arith, c.if-out-used.false, e.value) in
    let after = roomy-words w rec room h in
    let front =
    ap (take c.scan_alarms-used.result) e.out_after
    ∙ front-taken _ _ e.value (omega (arith, room_after w rec c.requires, c.requires.most)) in
    record {
      value = ap (λ (k : ℕ). Ok (k / 16)) e.value ∙ roomy-answer w rec room h;
      same = (refl, refl);
      states_after = e.states_after ∙ ap (λ (v : Words). v.states) after;
      marks_after = e.marks_after ∙ ap (λ (v : Words). v.marks) after;
      out_after = (λ i. (c.copy_from_slice.ensures.after ∙ front) i ++ drop (e.value i) a.out.now) ∙ front-put a.out.now (log_after w rec) h
          ∙ roomy-out w rec a.out.now h;
    }
