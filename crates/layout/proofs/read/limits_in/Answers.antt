-- `layout::read::limits_in` meets its contract: seven REALs. Assumes nothing.
use Rattle.layout.specs.Internal.Words.{limits_in}
use Rattle.layout.proofs.read.limits_in.Goals as goal

pub returns : goal.returns
unfolding limits_in
returns c =
    λ i.
    record {
      hh = c.lower_real.ensures i;
      h = c.upper_real.ensures i;
      l = c.lower_real-2.ensures i;
      ll = c.upper_real-2.ensures i;
      deadband = c.lower_real-3.ensures i;
      rocpos = c.upper_real-3.ensures i;
      rocneg = c.lower_real-4.ensures i;
    }
