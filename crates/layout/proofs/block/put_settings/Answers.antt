-- `layout::block::put_settings` meets its contract: zeros, the head, the alarms. Assumes nothing.
use mathlib.Core.Path.{◌≡◌, ap, ◌∙◌}
use Prim.Native.Nat.{ℕ}
use native.Mathlib.Omega.{arith}
use lib.ListN.{length, replicate}
use Rattle.layout.specs.Internal.Sizes.{settings_size}
use Rattle.layout.proofs.Blocks.{block-whole, block-head}
use Rattle.layout.proofs.block.put_settings.Goals as goal

pub returns : goal.returns
returns c =
    let s = c.args.settings in
    let p = c.put_alarms.ensures in
    let long : length c.args.words.now ≡ settings_size = omega arith in
    let z = c.clear.ensures ∙ ap (λ (k : ℕ). replicate k 0) long in
    let e = block-whole s p.alarms_len z c.put_head.ensures p.words_after in
    record {
      words_after = e;
      says = p.says;
      head = block-head s e;
    }
