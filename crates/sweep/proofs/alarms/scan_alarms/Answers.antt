-- `sweep::alarms::scan_alarms` meets its contract: the digital alarms and then the analog ones are all alarms. Assumes nothing.
use mathlib.Core.Path.{◌≡◌, ap, ◌∙◌}
use mathlib.Core.List.{List}
use Prim.Native.Nat.{ℕ, ◌+◌}
use native.Mathlib.Nat.{zero-add}
use native.Mathlib.Omega.{arith}
use lib.ListN.{length, set}
use lib.Seq.{sets, length-sets}
use Rattle.settings.specs.Counts.{in_all}
use Rattle.settings.specs.declared.counts.Counts.{Counts}
use Rattle.layout.specs.Internal.Block.{counts_in, count_in}
use Rattle.scan_record.specs.Part.{offset_of}
use Rattle.bank.specs.Lent.{Words}
use Rattle.bank.specs.Internal.Words.{words_in}
use Rattle.bank.specs.Internal.Blocks.{kept_words}
use Rattle.sweep.specs.Internal.Sweep.{stepped_from, marked_from, log_from, words_after}
use Rattle.sweep.proofs.Loops.{log-grows}
use Rattle.sweep.proofs.Halves.{digital-places, analog-places, half, states-whole, marks-whole, length_whole, out-whole}
use Rattle.sweep.proofs.Room.{room_most}
use Rattle.sweep.proofs.alarms.scan_alarms.Goals as goal

pub scan_group-half-requires : goal.scan_group-half-requires
scan_group-half-requires c =
    let a = c.args in
    let r = c.requires.ready in
    let rec : List ℕ = a.bytes.now in
    let w : Words = kept_words a.settings.now a.kept.now in
    let d : a.good.counts.digital ≡ (counts_in a.settings.now).digital = ap (λ (k : Counts). k.digital) r.counts-are in
    let most = room_most w rec a.good.counts r.counts-are in
    record {
      timed = c.get-time.ensures;
      few = omega (arith, r.most);
      parts = (omega arith, omega (arith, r.record-long));
      have_form = rw (← d) (digital-places a.good.counts);
      room = omega (arith, log-grows w rec 0 a.good.counts.digital a.good.counts.analog, most, c.requires.room);
    }

pub scan_group-used-requires : goal.scan_group-used-requires
scan_group-used-requires c =
    let e = c.scan_group-half.ensures in
    let a = c.args in
    let r = c.requires.ready in
    let d : a.good.counts.digital ≡ (counts_in a.settings.now).digital = ap (λ (k : Counts). k.digital) r.counts-are in
    let rec : List ℕ = a.bytes.now in
    let w : Words = kept_words a.settings.now a.kept.now in
    let log : length (log_from _ rec a.good.counts.digital a.good.counts.analog) ≡ length (log_from (half w rec a.good.counts.digital) rec a.good.counts.digital
    a.good.counts.analog) =
    λ i. length (log_from (words_in a.settings.now (e.states_after i) (e.marks_after i)) rec a.good.counts.digital a.good.counts.analog) in
    let most = room_most w rec a.good.counts r.counts-are in
    let out = ap length e.out_after ∙ length-sets a.out.now 0 (log_from w rec 0 a.good.counts.digital) in
    record {
      timed = c.get-time.ensures;
      few = omega (arith, r.most);
      parts = (
        c.analog_begin.ensures ∙ ap (λ (k : Counts). offset_of k a.good.counts.digital) r.counts-are,
        omega (arith, r.record-long, c.analog_begin.ensures),
      );
      have_form = rw (← d) (analog-places a.good.counts);
      room = omega (arith, log, e.value, length_whole w rec a.good.counts.digital a.good.counts.analog, most, c.requires.room, out);
    }

pub returns : goal.returns
unfolding words_after
returns c =
    let f = c.scan_group-used.ensures in
    let e = c.scan_group-half.ensures in
    let a = c.args in
    let r = c.requires.ready in
    let rec : List ℕ = a.bytes.now in
    let d = a.good.counts.digital in
    let w : Words = kept_words a.settings.now a.kept.now in
    let then : words_in a.settings.now _ _ ≡ half w rec d = λ i. words_in a.settings.now (e.states_after i) (e.marks_after i) in
    let log = ap (λ (v : Words). log_from v rec d a.good.counts.analog) then in
    let n : d + a.good.counts.analog ≡ count_in a.settings.now = ap in_all r.counts-are in
    let used = zero-add (length (log_from w rec 0 d)) in
    let states = f.states_after ∙ ap (λ (v : Words). stepped_from v rec d a.good.counts.analog) then ∙ states-whole w rec d a.good.counts.analog
    ∙ ap (stepped_from w rec 0) n in
    let marks = f.marks_after ∙ ap (λ (v : Words). marked_from v rec d a.good.counts.analog) then ∙ marks-whole w rec d a.good.counts.analog
    ∙ ap (marked_from w rec 0) n in
    record {
      value = f.value
          ∙ (λ i. (e.value ∙ used) i + length (log i))
          ∙ length_whole w rec d a.good.counts.analog
          ∙ ap (λ (k : ℕ). length (log_from w rec 0 k)) n;
      same = (f.same.0 ∙ e.same.0, f.same.1 ∙ e.same.1);
      states_after = (λ i. set (states i) 0 (c.get-time.ensures i));
      marks_after = marks;
      out_after = f.out_after
          ∙ (λ i. sets (e.out_after i) (e.value i) (log i))
          ∙ out-whole w rec d a.good.counts.analog a.out.now
          ∙ ap (λ (k : ℕ). sets a.out.now 0 (log_from w rec 0 k)) n;
    }
