-- `replay::replay::run` meets its contract: the invariant: words, tally and buffer are those after the records so far, and the chunks left are
-- those of the bytes behind them. Assumes nothing.
use Rattle.bank.specs.Internal.Words.{words_in}
use Rattle.replay.specs.Replay.{Progress}
use Rattle.replay.proofs.Runs.{Going}
use Rattle.replay.proofs.replay.run.Given as goal

abbrev pub invariant-loop-index : goal.invariant-loop-index
invariant-loop-index l =
    let chunks = l.index-iterator.iter in
    let now : Progress = record { words = words_in l.settings l.states l.marks; tally = l.done; buffer = l.out } in
    record {
      can : (goal.iterator-loop-index).can_next l.index-iterator;
      finite : (goal.iterator-loop-index).is_finite l.index-iterator;
      going : Going (words_in l.settings l.initial.states l.initial.marks) l.bytes l.initial.out chunks.size now l.index-iterator.count chunks.rest.now;
    }
