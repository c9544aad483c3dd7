-- `image::write::put_words` meets its contract: the invariant: writing the numbers that are left gives what writing all gives. Assumes nothing.
use borrow.Author.Rules.{rules}
use mathlib.Core.Path.{refl, sym, ◌∙◌}
use Rattle.image.proofs.Numbers.{numbers-all, numbers-next, numbers-none}
use Rattle.image.proofs.write.put_words.Goals as goal

pub loop-i-init : goal.loop-i-init
loop-i-init c = record { same_length = refl; left = numbers-all c.args.numbers.now c.args.out.now c.args.at }

pub loop-i-preserved : goal.loop-i-preserved
loop-i-preserved c =
    let a = c.args in
    let l = c.loop-i in
    let p = c.put in
    record {
      same_length = p.auto.s ∙ l.invariant.same_length;
      left = numbers-next a.numbers.now l.out a.at l.i (search rules) p.ensures ∙ l.invariant.left;
    }

pub returns : goal.returns
returns c =
    let a = c.args in
    let l = c.loop-i in
    sym (numbers-none a.numbers.now l.out a.at l.i (search rules)) ∙ l.invariant.left
