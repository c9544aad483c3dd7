-- `layout::block::put_alarms` meets its contract: the invariant: writing the alarms that are left gives what writing all gives, and the words say
-- those in front. Assumes nothing.
use borrow.Author.Rules.{rules}
use mathlib.Core.Path.{sym, ◌∙◌}
use Rattle.layout.proofs.Blocks.{alarms-next, alarms-none, said-next}
use Rattle.layout.proofs.block.put_alarms.Goals as goal

pub loop-index-preserved : goal.loop-index-preserved
loop-index-preserved c =
    let a = c.args in
    let l = c.loop-index in
    let p = c.put_alarm in
    record {
      left = alarms-next a.alarms l.words l.index (search rules) p.ensures.words_after ∙ l.invariant.left;
      says = said-next a.alarms l.words l.index _ l.invariant.says p.ensures.words_after p.ensures.read_back;
    }

pub returns : goal.returns
returns c =
    let a = c.args in
    let l = c.loop-index in
    record {
      words_after = sym (alarms-none a.alarms l.words l.index (search rules)) ∙ l.invariant.left;
      says = λ p h. l.invariant.says p (search rules);
      alarms_len = search rules;
    }
