-- `replay::replay::replay` meets its contract: by whether the words hold a bank. Assumes nothing.
use mathlib.Core.Path.{◌≡◌, sym, ap, ◌∙◌}
use mathlib.Core.List.{List}
use Prim.Native.Nat.{ℕ}
use Rattle.std.proofs.Common.{Ok}
use Rattle.std.proofs.lemmas.Result.{err_from_is_err_and}
use Rattle.settings.specs.Internal.Replies.{reply_of}
use Rattle.bank.specs.Lent.{Words}
use Rattle.bank.specs.Internal.Words.{words_in, fit_of}
use Rattle.replay.proofs.Replays.{reply-is, words_are, buffer-is}
use Rattle.replay.proofs.replay.replay.Goals as goal

pub returns : goal.returns
returns c =
    let a = c.args in
    let bytes : List ℕ = a.bytes.now in
    let out : List ℕ = a.out.now in
    let w : Words = words_in a.settings.now a.states.now a.marks.now in
    let fits : Ok tt ≡ fit_of w = ap reply_of (sym c.in_ok-fit.was) ∙ c.fit.ensures.reply in
    let e = c.run.ensures in
    let words = words_are w bytes out fits in
    record {
      value = ap Ok e.value ∙ reply-is w bytes out fits;
      states_after = e.states_after ∙ ap (λ (v : Words). v.states) words;
      marks_after = e.marks_after ∙ ap (λ (v : Words). v.marks) words;
      out_after = e.out_after ∙ buffer-is w bytes out fits;
    }

pub returns-in_err-fit : goal.returns-in_err-fit
returns-in_err-fit c =
    let a = c.args in
    let bytes : List ℕ = a.bytes.now in
    let out : List ℕ = a.out.now in
    let w : Words = words_in a.settings.now a.states.now a.marks.now in
    let unfit = ap reply_of (sym c.in_err-fit.was) ∙ c.fit.ensures.reply in
    let p = err_from_is_err_and c.from_residual.result c.from_residual.ensures.1 in
    let words = words_are w bytes out unfit in
    record {
      value = rw (p.1, p.2) (reply-is w bytes out unfit);
      states_after = ap (λ (v : Words). v.states) words;
      marks_after = ap (λ (v : Words). v.marks) words;
      out_after = buffer-is w bytes out unfit;
    }
