-- `condition::command::Command::ack_word` meets its contract: a bit for each condition, and none of a word that has none. Assumes nothing.
use Rattle.condition.specs.Command.{acks}
use Rattle.condition.specs.Internal.Outcome.{ack_bits}
use Rattle.wire.specs.Internal.Words.{word_of, spread}
use native.Mathlib.Omega.{arith}
use mathlib.Core.Path.{sym, ap}
use Prim.Native.Nat.{ℕ}
use Rattle.condition.proofs.command.Own.{acks-are}
use Rattle.condition.proofs.command.Command.ack_word.Goals as goal

pub returns-then-self-eq0 : goal.returns-then-self-eq0
unfolding word_of spread ack_bits acks
returns-then-self-eq0 c = (sym (ap (λ (w : ℕ). word_of (spread (ack_bits w c.args.self.previous))) c.if-self-eq0.true), omega arith)

pub returns : goal.returns
returns c = (cc (acks-are c.args.self.word c.args.self.previous c.acks_all-all.ensures), c.spread_of.ensures.1)
