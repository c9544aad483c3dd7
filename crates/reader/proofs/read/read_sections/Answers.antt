-- `reader::read::read_sections` meets its contract: the digital section has at most 12 alarms, then the rest. Assumes nothing.
use mathlib.Core.Path.{sym, ◌∙◌}
use borrow.Author.Tests.{lt-ltb, le-ltb}
use Rattle.std.proofs.lemmas.Result.{err_from_is_err_and}
use Rattle.reader.specs.Read.{sections_of, rest_of}
use Rattle.reader.proofs.Sections.{section-most}
use Rattle.reader.proofs.Alarms.{section-read, span-refused}
use Rattle.reader.proofs.read.read_sections.Goals as goal

pub returns-in_err-digital : goal.returns-in_err-digital
unfolding sections_of
returns-in_err-digital c =
    let p = err_from_is_err_and c.from_residual.result c.from_residual.ensures.1 in
    let digital = span-refused _ (sym c.section_at.ensures.value ∙ c.in_err-digital.was) in
    rw (p.1, p.2) (simp (← c.blank_alarms-alarms.ensures, digital))

pub section_at-requires-2 : goal.section_at-requires-2
section_at-requires-2 c = section-most _ _ _ _ _ (section-read _ _ _ _ _ (sym c.section_at.ensures.value ∙ c.in_ok-digital.was))

pub returns-in_err-analog : goal.returns-in_err-analog
unfolding sections_of rest_of
returns-in_err-analog c =
    let p = err_from_is_err_and c.from_residual-in_err-analog.result c.from_residual-in_err-analog.ensures.1 in
    let digital = section-read _ _ _ _ _ (sym c.section_at.ensures.value ∙ c.in_ok-digital.was) in
    let analog = span-refused _ (sym c.section_at-2.ensures.value ∙ c.in_err-analog.was) in
    rw (p.1, p.2) (simp (← c.blank_alarms-alarms.ensures, digital, ← c.section_at.ensures.alarms_after, analog))

pub returns-then-end-image : goal.returns-then-end-image
unfolding sections_of rest_of
returns-then-end-image c =
    let digital = section-read _ _ _ _ _ (sym c.section_at.ensures.value ∙ c.in_ok-digital.was) in
    let analog = section-read _ _ _ _ _ (sym c.section_at-2.ensures.value ∙ c.in_ok-analog.was) in
    rw c.at.ensures
    (simp (
      ← c.blank_alarms-alarms.ensures,
      digital,
      ← c.section_at.ensures.alarms_after,
      analog,
      lt-ltb _ _ c.if-end-image.true,
    ))

pub returns : goal.returns
unfolding sections_of rest_of
returns c =
    let digital = section-read _ _ _ _ _ (sym c.section_at.ensures.value ∙ c.in_ok-digital.was) in
    let analog = section-read _ _ _ _ _ (sym c.section_at-2.ensures.value ∙ c.in_ok-analog.was) in
    simp (
      ← c.blank_alarms-alarms.ensures,
      digital,
      ← c.section_at.ensures.alarms_after,
      analog,
      ← c.section_at-2.ensures.alarms_after,
      le-ltb _ _ c.if-end-image.false,
    )
