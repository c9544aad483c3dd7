-- `host_bytes::rows::report_bytes` meets its contract: the row of the whole alarm, then its conditions. Assumes nothing.
use Rattle.std.proofs.Common.{rules}
use mathlib.Core.Path.{◌≡◌, refl, sym, ap, ◌∙◌}
use mathlib.Core.List.{◌++◌, map}
use lib.ListN.{length}
use Rattle.std.specs.List.{flat_map}
use Rattle.report.specs.Empty.{no_status}
use Rattle.host_bytes.specs.Bytes.{row_bytes, status_row, whole_row, condition_bytes, report_bytes}
use Rattle.host_bytes.proofs.Mapped.{mapped, listed}
use Rattle.host_bytes.proofs.Joined.{joined_is}
use Rattle.host_bytes.proofs.rows.report_bytes.Goals as goal

pub returns : goal.returns
unfolding report_bytes
returns c =
    let a = c.args.said in
    let six : length a.conditions ≡ 6 = search rules in
    let flat : c.unwrap.result ≡ c.as_flattened.result.now = search rules in
    let statuses = mapped status_row no_status (λ p x y q e. search rules) six c.map.ensures.items in
    let rows = mapped row_bytes c.whole_row.result (λ p x y q e. search rules) refl c.map-rows.ensures.items in
    let conditions = listed _ c.map.result 6 c.map.ensures.items.long ∙ statuses ∙ ap (map status_row) (sym (listed no_status a.conditions 6 six)) in
    flat ∙ c.as_flattened.ensures.value ∙ ap (flat_map (λ x. x)) rows
    ∙ (λ i. row_bytes (c.whole_row.ensures i) ++ flat_map (λ x. x) (map row_bytes (conditions i)))
    ∙ ap (λ l. row_bytes (whole_row a.alarm a.resettime) ++ l) (sym (joined_is (condition_bytes a.conditions) 6))
