-- `sweep::alarms::scan_group` meets its contract: the invariant: the alarms before this one are stepped, logged and marked, and this one's
-- part begins here. Assumes nothing.
use mathlib.Core.Path.{◌≡◌, refl, sym, ap, ◌∙◌}
use mathlib.Core.List.{List}
use Prim.Native.Nat.{ℕ, ◌+◌, ◌-◌}
use native.Mathlib.Nat.{add-zero, mul-zero}
use native.Mathlib.Omega.{arith}
use lib.ListN.{length}
use lib.Seq.{sets, length-sets}
use Rattle.settings.specs.declared.types.Form.{Form}
use Rattle.layout.specs.Internal.Block.{counts_in}
use Rattle.scan_record.specs.Part.{offset_of}
use Rattle.scan_record.specs.Internal.Size.{entry_size}
use Rattle.scan_record.proofs.Entries.{offset-next}
use Rattle.bank.specs.Lent.{Words}
use Rattle.bank.specs.Internal.Blocks.{kept_words}
use Rattle.sweep.specs.Internal.Sweep.{stepped_from, marked_from, log_from}
use Rattle.sweep.proofs.Loops.{log-none, length-next, log-grows, log-here, states-next, marks-next, out-next}
use Rattle.sweep.proofs.Loops.{part-next}
use Rattle.sweep.proofs.alarms.scan_group.Goals as goal

pub loop-n-init : goal.loop-n-init
unfolding stepped_from marked_from
loop-n-init c =
    let a = c.args in
    let f = a.group in
    let rec : List ℕ = a.group.bytes.now in
    let w : Words = kept_words a.scan.now.settings.now a.kept.now in
    record {
      here = c.requires.parts.0 ∙ ap (offset_of (counts_in a.scan.now.settings.now)) (sym (add-zero f.first));
      parts = sym (ap (λ (k : ℕ). f.at + k) (mul-zero (entry_size f.form)) ∙ add-zero f.at);
      written = sym (ap (λ (l : List ℕ). a.start + length l) (log-none w rec f.first) ∙ add-zero a.start);
      same = (refl, refl);
      stepped = refl;
      marked = refl;
      logged = sym (ap (sets a.out.now a.start) (log-none w rec f.first));
    }

pub step_place-used-requires : goal.step_place-used-requires
step_place-used-requires c =
    let l = c.loop-n in
    let a = c.args in
    let p = a.group.first in
    let rec : List ℕ = a.group.bytes.now in
    let w : Words = kept_words a.scan.now.settings.now a.kept.now in
    let f = c.requires.have_form (p + l.n) (omega arith) (omega arith) in
    let e = ap length (log-here w rec p l.n f l.invariant.here c.requires.timed l.invariant.stepped) in
    let k : l.n + 1 + (a.group.count - (l.n + 1)) ≡ a.group.count = omega arith in
    let g = log-grows w rec p (l.n + 1) (a.group.count - (l.n + 1)) in
    let same = ap length l.invariant.logged ∙ length-sets a.out.now a.start (log_from w rec p l.n) in
    let total = ap (λ (n : ℕ). length (log_from w rec p n)) k in
    let next = length-next w rec p l.n in
    omega (arith, e, g, same, total, next, l.invariant.written, c.requires.room)

pub loop-n-preserved : goal.loop-n-preserved
loop-n-preserved c =
    let l = c.loop-n in
    let q = c.step_place-used.ensures in
    let a = c.args in
    let p = a.group.first in
    let counts = counts_in a.scan.now.settings.now in
    let rec : List ℕ = a.group.bytes.now in
    let w : Words = kept_words a.scan.now.settings.now a.kept.now in
    let f = c.requires.have_form (p + l.n) (omega arith) (omega arith) in
    let size = c.part_size-at.ensures in
    let t = c.requires.timed in
    let h = l.invariant.here in
    let s = l.invariant.stepped in
    let e = ap length (log-here w rec p l.n f h t s) in
    let place : p + l.n + 1 ≡ p + (l.n + 1) = omega arith in
    record {
      here = (λ i. h i + size i) ∙ ap (λ (g : Form). offset_of counts (p + l.n) + entry_size g) (sym f) ∙ offset-next counts (p + l.n)
          ∙ ap (offset_of counts) place;
      parts = ap (λ (k : ℕ). l.at + k) size ∙ part-next a.group.at (entry_size a.group.form) l.n l.invariant.parts;
      written = omega (arith, q.value, e, l.invariant.written, length-next w rec p l.n);
      same = (q.same.0 ∙ l.invariant.same.0, q.same.1 ∙ l.invariant.same.1);
      stepped = q.states_after ∙ states-next w rec p l.n f h t s;
      marked = q.marks_after ∙ marks-next w rec p l.n f h t s l.invariant.marked;
      logged = q.out_after ∙ out-next w rec p l.n f h t s a.out.now a.start l.invariant.logged l.invariant.written;
    }
