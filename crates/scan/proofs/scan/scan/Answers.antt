-- `scan::scan::scan` meets its contract: each return takes the case that its tests led to. Assumes nothing.
use borrow.Author.Rules.{rules}
use mathlib.Core.Path.{◌≡◌, ap, ◌∙◌}
use lib.ListN.{length}
use Rattle.bank.specs.Lent.{Words}
use Rattle.bank.specs.Internal.Words.{words_in, bank_in}
use Rattle.bank.proofs.Places.{no-settings, no-states, no-marks, blocks-fit}
use Rattle.scan.specs.Internal.Scan.{event_buffer}
use Rattle.scan.specs.Internal.Words.{bank_answer, bank_words}
use Rattle.scan.proofs.Fits.{of-bank, of-none}
use Rattle.scan.proofs.scan.scan.Goals as goal

pub returns-in_default : goal.returns-in_default
returns-in_default c =
    let a = c.args in
    let w : Words = words_in a.settings.now a.states.now a.marks.now in
    let none = of-none w a.bytes.now (length a.out.now) a.out.now (no-settings w c.in_default.ensures) in
    record {
      value = rw c.missing.ensures none.answer-is;
      states_after = ap (λ (v : Words). v.states) none.words-are;
      marks_after = ap (λ (v : Words). v.marks) none.words-are;
      out_after = none.buffer-is;
    }

pub returns-in_default-as_mut_array : goal.returns-in_default-as_mut_array
returns-in_default-as_mut_array c =
    let a = c.args in
    let w : Words = words_in a.settings.now a.states.now a.marks.now in
    let none = of-none w a.bytes.now (length a.out.now) a.out.now (no-states w c.in-Some.ensures.0 c.in_default-as_mut_array.ensures.cases) in
    record {
      value = rw c.missing-in_default-as_mut_array.ensures none.answer-is;
      states_after = ap (λ (v : Words). v.states) none.words-are;
      marks_after = ap (λ (v : Words). v.marks) none.words-are;
      out_after = none.buffer-is;
    }

pub returns-in_default-as_mut_array-2 : goal.returns-in_default-as_mut_array-2
returns-in_default-as_mut_array-2 c =
    let a = c.args in
    let w : Words = words_in a.settings.now a.states.now a.marks.now in
    let none = of-none w a.bytes.now (length a.out.now) a.out.now
    (no-marks w c.in-Some.ensures.0 c.in-Some-as_mut_array.ensures.cases.long c.in_default-as_mut_array-2.ensures.cases) in
    record {
      value = rw c.missing-in_default-as_mut_array-2.ensures none.answer-is;
      states_after = c.in-Some-as_mut_array.ensures.cases.same ∙ ap (λ (v : Words). v.states) none.words-are;
      marks_after = ap (λ (v : Words). v.marks) none.words-are;
      out_after = none.buffer-is;
    }

pub invariant_of-scan_bank : goal.invariant_of-scan_bank
invariant_of-scan_bank c =
    let t = c.in-Some-as_mut_array.ensures.cases in
    let m = c.in-Some-as_mut_array-2.ensures.cases in
    record { states_long = ap length t.same ∙ t.long; marks_long = ap length m.same ∙ m.long }

pub returns : goal.returns
returns c =
    let a = c.args in
    let w : Words = words_in a.settings.now a.states.now a.marks.now in
    let t = c.in-Some-as_mut_array.ensures.cases in
    let m = c.in-Some-as_mut_array-2.ensures.cases in
    let lent : words_in c.in-Some.settings.now c.in-Some-as_mut_array.states.now c.in-Some-as_mut_array-2.marks.now ≡ w =
    λ i. words_in (c.in-Some.ensures.1 i) (t.same i) (m.same i) in
    let fits = of-bank w a.bytes.now (length a.out.now) a.out.now (blocks-fit w c.in-Some.ensures.0 t.long m.long) in
    let e = c.scan_bank.ensures in
    let words = ap (λ (v : Words). bank_words v a.bytes.now (length a.out.now)) lent ∙ fits.words-are in
    record {
      value = e.value ∙ ap (λ (v : Words). bank_answer v a.bytes.now (length a.out.now)) lent ∙ fits.answer-is;
      states_after = search rules ∙ (e.states_after ∙ ap (λ (v : Words). v.states) words);
      marks_after = search rules ∙ (e.marks_after ∙ ap (λ (v : Words). v.marks) words);
      out_after = e.out_after ∙ ap (λ (v : Words). event_buffer (bank_in v) a.bytes.now a.out.now) lent ∙ fits.buffer-is;
    }
