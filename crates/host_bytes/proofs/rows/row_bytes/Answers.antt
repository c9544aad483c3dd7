-- `host_bytes::rows::row_bytes` meets its contract: its parts, each as a list, one after the other. Assumes nothing.
use Rattle.std.proofs.Common.{rules}
use mathlib.Core.Path.{◌≡◌, ap, ◌∙◌}
use mathlib.Core.Bool.{false}
use mathlib.Core.List.{[], ◌++◌}
use lib.ListN.{length}
use Rattle.std.specs.Int.{w32, w64, to_le_bytes}
use Rattle.std.specs.List.{flat_map}
use Rattle.std.proofs.lemmas.List.Folds.{flat_map-map}
use Rattle.wire.specs.Number.{bytes}
use Rattle.wire.proofs.Laws.{bytes-low}
use Rattle.host_bytes.specs.Bytes.{flag, row_bytes}
use Rattle.host_bytes.proofs.Mapped.{mapped, listed}
use Rattle.host_bytes.proofs.rows.row_bytes.Goals as goal

pub returns : goal.returns
unfolding row_bytes
returns c =
    let w = c.args.row in
    let four : length w.flags ≡ 4 = search rules in
    let three : length w.times ≡ 3 = search rules in
    let four_bytes : length c.to_le_bytes.result ≡ 4 = search rules in
    let number : c.to_le_bytes.result ≡ to_le_bytes w32 w.number = search rules in
    let flat : c.unwrap.result ≡ c.as_flattened.result.now = search rules in
    let flags = mapped flag false (λ p x y q e. search rules) four c.map.ensures.items in
    let times = mapped (bytes 8) 0 (λ p x y q e. let low : y ≡ to_le_bytes w64 x = search rules in low ∙ bytes-low 8 x) three c.map-2.ensures.items in
    let front = listed 0 c.map.result 4 c.map.ensures.items.long ∙ flags in
    let middle = listed 0 c.to_le_bytes.result 4 four_bytes ∙ number ∙ bytes-low 4 w.number in
    let back = ap (flat_map (λ x. x)) (listed [] c.map-2.result 3 c.map-2.ensures.items.long ∙ times) ∙ flat_map-map (λ x. x) (bytes 8) w.times in
    flat ∙ c.as_flattened.ensures.value ∙ (λ i. front i ++ (middle i ++ back i))
