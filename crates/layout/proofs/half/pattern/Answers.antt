-- `layout::half::pattern` meets its contract: a REAL of 32 bits is said by its pattern. Assumes nothing.
use lib.Dec.{T}
use lib.Ieee.{binary32, fits}
use lib.Ieee.Bits.{of_bits-to_bits}
use Rattle.layout.proofs.half.pattern.Goals as goal

pub returns : goal.returns
returns c =
    let g : T (fits binary32 c.args.x) = rw c.well_formed.0.1 tt in
    (c.to_pattern.ensures, rw c.to_pattern.ensures (of_bits-to_bits binary32 c.args.x g))
