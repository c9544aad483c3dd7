-- `meifgur_c::scan_call::meifgur_scan_words` meets its contract. Assumes nothing.
use borrow.Author.Tests.{lt-ltb, le-ltb}
use mathlib.Core.Path.{refl, ap, ◌∙◌}
use lib.ListN.{length}
use lib.Seq.{sets}
use Rattle.meifgur_c.specs.Calls.{number_in, counted_words}
use Rattle.meifgur_c.proofs.scan_call.meifgur_scan_words.Goals as goal

pub returns-then-answer-lt-SCAN_ANSWER : goal.returns-then-answer-lt-SCAN_ANSWER
returns-then-answer-lt-SCAN_ANSWER c =
    let short = lt-ltb (length c.args.answer.now) 3 c.if-answer-lt-SCAN_ANSWER.true in
    record {
      value = rw short refl;
      states_after = rw short refl;
      marks_after = rw short refl;
      events_after = rw short refl;
      answer_after = rw short refl;
    }

pub returns : goal.returns
returns c =
    let a = c.args in
    let e = c.scan-scanned.ensures in
    let long = le-ltb (length a.answer.now) 3 c.if-answer-lt-SCAN_ANSWER.false in
    record {
      value = rw long (c.number_in.ensures ∙ ap number_in e.value);
      states_after = rw long (e.states_after);
      marks_after = rw long (e.marks_after);
      events_after = rw long (e.out_after);
      answer_after = rw long (c.put_words.ensures ∙ ap (sets a.answer.now 0) (c.counted_words.ensures ∙ ap counted_words e.value));
    }
