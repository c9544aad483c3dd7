-- `analog::starts::rows_begin` meets its contract. Assumes nothing.
use Rattle.analog.proofs.Rows.{rows-begin, six-bits}
use Rattle.analog.proofs.starts.rows_begin.Goals as goal

pub returns : goal.returns
returns c =
    let a = c.args in
    rw c.only_in.ensures (six-bits (rows-begin a.flags a.met c.every.result a.enabled c.every.ensures))
