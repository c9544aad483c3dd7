-- `settings::rules::levels_rise` meets its contract: the six pairs, joined. Assumes nothing.
use Rattle.settings.specs.Rules.{rising}
use Rattle.settings.proofs.Levels.{both}
use Rattle.settings.proofs.rules.levels_rise.Goals as goal

pub returns : goal.returns
unfolding rising
returns c =
    let is = c.levels_of-hh.ensures in
    simp (
      c.in_order.ensures,
      c.in_order-2.ensures,
      c.in_order-3.ensures,
      c.in_order-4.ensures,
      c.in_order-5.ensures,
      c.in_order-6.ensures,
      is.hh,
      is.h,
      is.l,
      is.ll,
      both,
    )
