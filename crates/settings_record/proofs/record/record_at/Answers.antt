-- `settings_record::record::record_at` meets its contract: what its form's function makes of the bytes that were cut out. Assumes nothing.
use mathlib.Core.Path.{refl, sym, ◌∙◌}
use Rattle.std.proofs.lemmas.Result.{err_from_is_err_and}
use Rattle.settings.specs.declared.types.Form.TheVariants.{Digital as DigitalForm, Analog as AnalogForm}
use Rattle.settings_record.proofs.Cut.{record-cut, record-short}
use Rattle.settings_record.proofs.record.record_at.Goals as goal

pub returns-in_err-bytes_at-in-Digital : goal.returns-in_err-bytes_at-in-Digital
returns-in_err-bytes_at-in-Digital c =
    let e = c.in_err-bytes_at-in-Digital.ensures.short in
    let p = err_from_is_err_and c.from_residual.result c.from_residual.ensures.1 in
    rw (p.1, p.2, c.in-Digital.is, e.1) (sym (record-short DigitalForm c.args.image.now c.args.at e.0))

pub returns-in_ok-bytes_at-in-Digital : goal.returns-in_ok-bytes_at-in-Digital
returns-in_ok-bytes_at-in-Digital c =
    rw c.in-Digital.is (c.digital_record.ensures ∙ sym (record-cut DigitalForm c.args.image.now c.args.at c.in_ok-bytes_at-in-Digital.ensures.whole refl))

pub returns-in_err-bytes_at-in-Analog : goal.returns-in_err-bytes_at-in-Analog
returns-in_err-bytes_at-in-Analog c =
    let e = c.in_err-bytes_at-in-Analog.ensures.short in
    let p = err_from_is_err_and c.from_residual-in_err-bytes_at-in-Analog.result c.from_residual-in_err-bytes_at-in-Analog.ensures.1 in
    rw (p.1, p.2, c.in-Analog.is, e.1) (sym (record-short AnalogForm c.args.image.now c.args.at e.0))

pub returns-in_ok-bytes_at-in-Analog : goal.returns-in_ok-bytes_at-in-Analog
returns-in_ok-bytes_at-in-Analog c =
    rw c.in-Analog.is (c.analog_record.ensures ∙ sym (record-cut AnalogForm c.args.image.now c.args.at c.in_ok-bytes_at-in-Analog.ensures.whole refl))
