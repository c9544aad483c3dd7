-- Hexadecimal digits are text.
use mathlib.Core.Path.{◌≡◌, refl}
use mathlib.Core.Bool.{true}
use Prim.Native.Nat.{ℕ, ◌<◌}
use borrow.Author.Tests.{ltb-true}
use Rattle.std.specs.Prelude.{ltb}
use Rattle.std.specs.Str.{IsAscii}
use Rattle.std.proofs.lemmas.List.Elements.{All-weaker}
use Rattle.std.proofs.lemmas.List.Sums.{AllPass-from_list_all}
use Rattle.std.proofs.lemmas.Str.{IsUtf8-from_ascii}
use Rattle.std.proofs.lemmas.Str.Ascii.{IsAscii-from_all}
use Rattle.hex.specs.Hex.{encode_lower, lower_digits}
use Rattle.hex.proofs.HexLemmas.{IsAscii-encode_with}
use Rattle.calls.proofs.reply.WrittenDisplay.fmt.Goals as goal

digits-ascii : IsAscii lower_digits
digits-ascii =
    IsAscii-from_all lower_digits
    (All-weaker (λ (b : ℕ). ltb b 128 ≡ true) (λ (b : ℕ). b < 128) (λ b h. ltb-true b 128 h) lower_digits
    (AllPass-from_list_all (λ b. ltb b 128) lower_digits refl))

pub unreachable-requires-in_default-from_utf8 : goal.unreachable-requires-in_default-from_utf8
unreachable-requires-in_default-from_utf8 g c =
    let chunk = c.in-Some.chunk.now in
    c.in_default-from_utf8.ensures.cases.0
    (rw c.in-Ok.ensures.written (IsUtf8-from_ascii (encode_lower chunk) (IsAscii-encode_with lower_digits chunk digits-ascii)))
