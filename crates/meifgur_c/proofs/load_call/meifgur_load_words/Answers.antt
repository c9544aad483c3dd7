-- `meifgur_c::load_call::meifgur_load_words` meets its contract. Assumes nothing.
use borrow.Author.Tests.{lt-ltb, le-ltb}
use mathlib.Core.Path.{refl, ap, ◌∙◌}
use lib.ListN.{length}
use lib.Seq.{sets}
use Rattle.layout.specs.Internal.Block.{counts_in}
use Rattle.meifgur_c.specs.Calls.{number_in, load_words}
use Rattle.meifgur_c.proofs.load_call.meifgur_load_words.Goals as goal

pub returns-then-answer-lt-LOAD_ANSWER : goal.returns-then-answer-lt-LOAD_ANSWER
returns-then-answer-lt-LOAD_ANSWER c =
    let short = lt-ltb (length c.args.answer.now) 4 c.if-answer-lt-LOAD_ANSWER.true in
    record {
      value = rw short refl;
      settings_after = rw short refl;
      states_after = rw short refl;
      marks_after = rw short refl;
      answer_after = rw short refl;
    }

pub returns : goal.returns
returns c =
    let a = c.args in
    let e = c.load-reply.ensures in
    let n = c.counts_in-counts.ensures ∙ ap counts_in e.settings_after in
    let long = le-ltb (length a.answer.now) 4 c.if-answer-lt-LOAD_ANSWER.false in
    record {
      value = rw long (c.number_in.ensures ∙ ap number_in e.value);
      settings_after = rw long (e.settings_after);
      states_after = rw long (e.states_after);
      marks_after = rw long (e.marks_after);
      answer_after = rw long (c.put_words.ensures ∙ ap (sets a.answer.now 0) c.load_words.ensures ∙ (λ i. sets a.answer.now 0 (load_words (e.value i) (n i))));
    }
