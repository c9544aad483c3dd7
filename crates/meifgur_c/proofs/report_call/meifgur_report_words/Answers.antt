-- `meifgur_c::report_call::meifgur_report_words` meets its contract. Assumes nothing.
use borrow.Author.Tests.{lt-ltb, le-ltb}
use mathlib.Core.Path.{refl, ap, ◌∙◌}
use lib.ListN.{length}
use lib.Seq.{sets}
use Rattle.report.specs.declared.report.AlarmReport.{AlarmReport}
use Rattle.meifgur_c.specs.Calls.{number_in, reply_words, report_out}
use Rattle.meifgur_c.proofs.report_call.meifgur_report_words.Goals as goal

pub returns-then-answer-lt-REPORT_ANSWER : goal.returns-then-answer-lt-REPORT_ANSWER
returns-then-answer-lt-REPORT_ANSWER c =
    let short = lt-ltb (length c.args.answer.now) 2 c.if-answer-lt-REPORT_ANSWER.true in
    record { value = rw short refl; out_after = rw short refl; answer_after = rw short refl }

pub returns-then-out-lt-REPORT_SIZE : goal.returns-then-out-lt-REPORT_SIZE
returns-then-out-lt-REPORT_SIZE c =
    let a = c.args in
    let long = le-ltb (length a.answer.now) 2 c.if-answer-lt-REPORT_ANSWER.false in
    let short = lt-ltb (length a.out.now) 224 c.if-out-lt-REPORT_SIZE.true in
    record { value = rw (long, short) refl; out_after = rw (long, short) refl; answer_after = rw (long, short) refl }

pub returns : goal.returns
returns c =
    let a = c.args in
    let r = c.report-said.ensures in
    let long = le-ltb (length a.answer.now) 2 c.if-answer-lt-REPORT_ANSWER.false in
    let room = le-ltb (length a.out.now) 224 c.if-out-lt-REPORT_SIZE.false in
    record {
      value = rw (long, room) (c.number_in.ensures ∙ ap (λ (q : AlarmReport). number_in q.reply) r);
      out_after = rw (long, room) (c.put_said.ensures ∙ ap (λ (q : AlarmReport). report_out q a.out.now) r);
      answer_after = rw (long, room) (c.put_words.ensures ∙ ap (sets a.answer.now 0) (c.reply_words.ensures ∙ ap (λ (q : AlarmReport). reply_words q.reply) r));
    }
