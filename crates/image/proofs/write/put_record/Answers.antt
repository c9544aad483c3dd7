-- `image::write::put_record` meets its contract: by the kind. Assumes nothing.
use native.Mathlib.Omega.{arith}
use mathlib.Core.Path.{◌≡◌, ap}
use lib.ListN.{length}
use Rattle.layout.specs.Internal.Words.{form_of}
use Rattle.image.proofs.Images.{length-digital, length-analog}
use Rattle.image.specs.Internal.Write.{digital_bytes, analog_bytes, kind_bytes, record_bytes}
use Rattle.image.proofs.write.put_record.Goals as goal

pub put_digital-requires : goal.put_digital-requires
unfolding kind_bytes
put_digital-requires c =
    let a = c.args.alarm in
    let e : record_bytes (form_of a.kind) a ≡ digital_bytes a.flags c.in-Digital.severity a.duration = rw c.in-Digital.is in
    omega (arith, ap length e, length-digital a.flags c.in-Digital.severity a.duration)

pub put_analog-requires : goal.put_analog-requires
unfolding kind_bytes
put_analog-requires c =
    let a = c.args.alarm in
    let k = c.in-Analog in
    let e : record_bytes (form_of a.kind) a ≡ analog_bytes a.flags k.limits k.severities k.period a.duration = rw k.is in
    omega (arith, ap length e, length-analog a.flags k.limits k.severities k.period a.duration)

pub returns-in-Digital : goal.returns-in-Digital
unfolding kind_bytes
returns-in-Digital c =
    record {
      value = simp (c.in-Digital.is, length-digital);
      out_after = rw c.in-Digital.is c.put_digital.ensures;
    }

pub returns-in-Analog : goal.returns-in-Analog
unfolding kind_bytes
returns-in-Analog c =
    record {
      value = simp (c.in-Analog.is, length-analog);
      out_after = rw c.in-Analog.is c.put_analog.ensures;
    }
