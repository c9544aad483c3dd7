-- `replay::replay::run` meets its contract. Assumes nothing.
use mathlib.Core.Path.{ap}
use native.Mathlib.Omega.{arith}
use borrow.Author.Rules.{rules}
use Rattle.bank.specs.Internal.Words.{words_in}
use Rattle.replay.proofs.Runs.{going-first, has_room, same_length as buffer-kept, few-refused, answer-fits, onward-is, going_next, going_end}
use Rattle.replay.specs.Replay.{Progress}
use Rattle.replay.proofs.replay.run.Goals as goal

pub overflow_mul-used : goal.overflow_mul-used
overflow_mul-used c =
    let g = c.loop-index.invariant.going in
    omega (arith, has_room g, buffer-kept g)

pub slice_bounds-left-count : goal.slice_bounds-left-count
slice_bounds-left-count c = has_room c.loop-index.invariant.going

pub slice_bounds-left-start : goal.slice_bounds-left-start
slice_bounds-left-start c = has_room c.loop-index.invariant.going

pub loop-index-init : goal.loop-index-init
loop-index-init c =
    let a = c.args in
    record {
      can = search rules;
      finite = search rules;
      going =
          rw (
            c.none_yet-done.ensures,
            c.into_iter-index-iterator.ensures.into_iter_gives,
            c.enumerate-index-items.ensures.source,
            c.enumerate-index-items.ensures.count,
            c.chunks.ensures.rest,
            c.chunks.ensures.size,
            c.record_length-size.ensures.0,
            c.counts_in.ensures,
          )
          (going-first (words_in a.settings.now a.states.now a.marks.now) a.bytes.now a.out.now);
    }

pub count_answer-done-requires : goal.count_answer-done-requires
count_answer-done-requires c =
    let g = c.loop-index.invariant.going in
    let l = c.loop-index in
    let p : Progress = record { words = words_in c.args.settings.now l.states l.marks; tally = l.done; buffer = l.out } in
    let s = c.in-Some.ensures.steps in
    let fits = answer-fits p c.in-Some.index _ c.scan-answer.ensures.value (has_room g) in
    (omega (arith, few-refused g, s.1), s.3, omega (arith, fits, buffer-kept g))

pub loop-index-preserved : goal.loop-index-preserved
loop-index-preserved c =
    let g = c.loop-index.invariant.going in
    let l = c.loop-index in
    let p : Progress = record { words = words_in c.args.settings.now l.states l.marks; tally = l.done; buffer = l.out } in
    let s = c.in-Some.ensures.steps in
    let e = c.scan-answer.ensures in
    let o = onward-is p c.in-Some.index c.in-Some.rec.now c.count_answer-done.ensures e.value e.states_after e.marks_after e.out_after in
    record {
      can = search rules;
      finite = search rules;
      going = rw (s.0.0, s.2) (going_next g c.in-Some.rec.now _ s.0.1.2 s.0.1.0 s.0.1.1 (rw s.1 at o));
    }

pub returns : goal.returns
returns c =
    let s = c.in-None.ensures.steps in
    let e = going_end c.loop-index.invariant.going s.0.1.0 in
    record {
      value = ap (λ (p : Progress). p.tally) e;
      states_after = ap (λ (p : Progress). p.words.states) e;
      marks_after = ap (λ (p : Progress). p.words.marks) e;
      out_after = ap (λ (p : Progress). p.buffer) e;
    }
