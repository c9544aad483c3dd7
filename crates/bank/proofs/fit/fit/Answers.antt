-- `bank::fit::fit` meets its contract: each return takes the case that its tests led to. Assumes nothing.
use Rattle.bank.specs.Internal.Words.{words_in}
use Rattle.bank.proofs.Places.{no-settings, no-states, no-marks, blocks-fit}
use Rattle.bank.proofs.fit.fit.Goals as goal

pub returns-in_default-clause-reply : goal.returns-in_default-clause-reply
returns-in_default-clause-reply c =
    let a = c.args in
    rw c.missing.ensures (no-settings (words_in a.settings.now a.states.now a.marks.now) c.in_default.ensures)

pub returns-in_default-as_array-clause-reply : goal.returns-in_default-as_array-clause-reply
returns-in_default-as_array-clause-reply c =
    let a = c.args in
    rw c.missing-in_default-as_array.ensures
    (no-states (words_in a.settings.now a.states.now a.marks.now) c.in-Some.ensures.0 c.in_default-as_array.ensures.cases)

pub returns-in_default-as_array-2-clause-reply : goal.returns-in_default-as_array-2-clause-reply
returns-in_default-as_array-2-clause-reply c =
    let a = c.args in
    rw c.missing-in_default-as_array-2.ensures
    (no-marks (words_in a.settings.now a.states.now a.marks.now) c.in-Some.ensures.0 c.in-Some-as_array.ensures.cases.long
    c.in_default-as_array-2.ensures.cases)

pub returns-clause-reply : goal.returns-clause-reply
returns-clause-reply c =
    let a = c.args in
    blocks-fit (words_in a.settings.now a.states.now a.marks.now) c.in-Some.ensures.0 c.in-Some-as_array.ensures.cases.long
    c.in-Some-as_array-2.ensures.cases.long
