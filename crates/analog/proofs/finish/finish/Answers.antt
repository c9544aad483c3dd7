-- `analog::finish::finish` meets its contract. Assumes nothing.
use mathlib.Core.Path.{◌≡◌, ap, ap₂, ◌∙◌}
use mathlib.Core.Bool.{Bool}
use mathlib.Core.List.{List, ◌++◌}
use Prim.Native.Nat.{ℕ, ◌+◌, ◌-◌, ◌*◌, ◌/◌}
use native.Mathlib.Omega.{arith}
use lib.ListN.{length, get_or, set, take, drop}
use Rattle.wire.specs.Internal.Words.{word_of, spread}
use Rattle.wire.specs.Internal.Places.{condition_unit}
use Rattle.layout.specs.Internal.Words.{pair_of}
use Rattle.condition.specs.Internal.Outcome.{ack_bits}
use Rattle.decision.specs.declared.decide.Cells.{Cells}
use Rattle.decision.specs.Internal.Cells.{cells_of}
use Rattle.state.specs.Internal.Starts.{keep_starts}
use Rattle.state.proofs.Starts.{starts-behind}
use Rattle.analog.specs.Internal.Inputs.{decided_by, begins_by}
use Rattle.analog.specs.Internal.Packed.{all_begin, ready_in, enabled_in, decided, flags_after}
use Rattle.analog.proofs.finish.finish.Goals as goal

pub returns : goal.returns
unfolding decided
returns c =
    let x = c.args.inputs in
    let ws : List ℕ = c.args.state.now in
    let on : Bool = enabled_in x.modes in
    let enabled = c.is_enabled-enabled.ensures in
    let low = c.lower-flags.ensures in
    let up = c.upper-previous.ensures in
    let acks =
    c.ack_word-acks.ensures.0 ∙ ap (λ (p : ℕ). word_of (spread (ack_bits x.word p))) up in
    let six : c.decide-six.result ≡ decided_by ws x =
    c.decide-six.ensures.0
    ∙ ap (λ (e : Bool). cells_of c.lower-flags.result e x.met x.frees c.due_in-ready.result c.ack_word-acks.result x.required) enabled
    ∙ c.due_in-ready.ensures.alike on x.frees
    c.ack_word-acks.result x.required
    ∙ (λ i. cells_of (low i) on x.met x.frees (ready_in (low i) (get_or ws 3 0) (get_or ws 4 0) x.duration x.time) (acks i)
    x.required)
    in
    let three : length ws - 8 ≡ 3 = omega arith in
    let starts = c.in-Some.ensures.cases.1.same ∙ ap (λ (k : ℕ). drop k ws) three in
    let begun =
    (λ i.
    take (three i) ws
    ++ (c.begin_all.ensures ∙ (λ j. keep_starts (all_begin (low j) (enabled j) x.met) x.time 0 (starts j))) i)
    ∙ starts-behind (begins_by ws x) x.time 3 ws (omega arith) in
    let kept =
    c.pair.ensures.0 ∙ ap (λ (f : ℕ). pair_of f x.word) (c.flags_after.ensures ∙ ap (flags_after x.modes x.met) six) in
    record {
      value = ap (λ (s : Cells). x.modes / 8 + condition_unit * s.events) six;
      state_after = ap₂ (λ (l : List ℕ) (v : ℕ). set l 0 v) begun kept;
    }
