-- `sample::sample::resample` meets its contract. Assumes nothing.
use mathlib.Core.Path.{◌∙◌}
use Rattle.sample.proofs.Patterns.{sample-stays, rate-changes}
use Rattle.sample.proofs.sample.resample.Goals as goal

pub returns-then-enabled-stays : goal.returns-then-enabled-stays
returns-then-enabled-stays c =
    let a = c.args in
    let s = a.stored in
    let kept = sample-stays s.pair s.time a.flags a.period a.time a.enabled a.x c.stays_in-stays.ensures c.if-enabled-stays.true in
    record {
      pair = kept.0;
      rate = kept.1;
      time = kept.2;
    }

pub returns : goal.returns
returns c =
    let a = c.args in
    let s = a.stored in
    let stays = c.stays_in-stays.ensures in
    let rate =
    c.new_rate-rate.ensures ∙ rate-changes s.pair s.time a.flags a.period a.time a.enabled a.x stays c.if-enabled-stays.false in
    record {
      pair = rw (c.pair.ensures.0, c.choose-value.ensures, c.lower.ensures, c.to_pattern.ensures, stays, rate);
      rate = c.pair.ensures.2 ∙ rate;
      time = rw (c.choose.ensures, stays);
    }
