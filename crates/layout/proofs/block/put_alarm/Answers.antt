-- `layout::block::put_alarm` meets its contract: the alarm's words are copied to their place. Assumes nothing.
use mathlib.Core.Path.{◌≡◌, sym, ap, ◌∙◌}
use Prim.Native.Nat.{ℕ, ◌+◌, ◌≤◌}
use native.Mathlib.Omega.{arith}
use lib.ListN.{length}
use lib.Seq.{sets}
use Rattle.layout.specs.Internal.Words.{alarm_in, alarm_words, form_of}
use Rattle.layout.specs.Internal.Block.{alarm_at}
use Rattle.layout.proofs.Stores.{alarm-copied, alarm-read}
use Rattle.layout.proofs.block.put_alarm.Goals as goal

pub returns : goal.returns
returns c =
    let a = c.args in
    let at = c.settings_at-at.result in
    let e : at ≡ alarm_at a.place.index = c.settings_at-at.ensures in
    let room : at + 8 ≤ length a.words.now = omega arith in
    let said = c.alarm_words.ensures in
    let copied = alarm-copied a.alarm a.words.now at room (c.copy_from_slice.ensures.after ∙ said.words_are) (omega arith) in
    record {
      words_after = copied ∙ ap (λ (k : ℕ). sets a.words.now k (alarm_words a.alarm)) e;
      read_back = ap (alarm_in (form_of a.alarm.kind) _) (sym e) ∙ alarm-read a.alarm a.words.now at room said.words_are copied said.read_back;
    }
