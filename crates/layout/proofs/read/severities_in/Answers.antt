-- `layout::read::severities_in` meets its contract: six halves. Assumes nothing.
use Rattle.layout.specs.Internal.Words.{severities_in}
use Rattle.layout.proofs.read.severities_in.Goals as goal

pub returns : goal.returns
unfolding severities_in
returns c =
    λ i.
    record {
      hh = c.lower.ensures i;
      h = c.upper.ensures i;
      l = c.lower-2.ensures i;
      ll = c.upper-2.ensures i;
      rocpos = c.lower-3.ensures i;
      rocneg = c.upper-3.ensures i;
    }
