-- Demand 3 of one condition: what the three descriptions compute is what they say in words. Assumes nothing.
use mathlib.Core.Path.{refl, sym, ◌∙◌}
use mathlib.Core.List.{List}
use mathlib.Core.Bool.{Bool, and-eq-true_iff}
use Rattle.history.specs.Past.{since, count_from}
use Rattle.history.specs.Demand.{Facts, stays, in_alarm, due, activation, unanswered, unacknowledged, count}
use Rattle.history.specs.Words.{Demand3}
use Rattle.history.proofs.Words.{since-words, words-since, count-words}
use Rattle.history.proofs.Condition.{alarm-since}

module _ {S C : Type 0} (f : Facts S C) (scans : List S) (c : C) where
  -- some activation has no later acknowledgement or disabled scan
  abbrev opened : Bool
  opened = since (activation f c) (unanswered f c) scans

  pub demand : Demand3 f (in_alarm f scans c) (unacknowledged f scans c) (count f scans c) scans c
  demand =
      record {
        in-alarm = λ e. since-words (due f c) (stays f c) scans (sym (alarm-since f scans c) ∙ e);
        in-alarm-only = λ w. alarm-since f scans c ∙ words-since (due f c) (stays f c) scans w;
        unanswered = λ e.
            let b = (and-eq-true_iff f.required opened).0 e in
            (b.0, since-words (activation f c) (unanswered f c) scans b.1);
        unanswered-only = λ w. (and-eq-true_iff f.required opened).1 (w.0, words-since (activation f c) (unanswered f c) scans w.1);
        counted = (count_from f.reset (activation f c) scans, refl, count-words f.reset (activation f c) scans);
      }
