-- `reader::section::section_at` meets its contract: a count of at most 12 leaves room for its alarms. Assumes nothing.
use mathlib.Core.Path.{sym, ap, ◌∙◌}
use Prim.Native.Nat.{ℕ}
use native.Mathlib.Nat.{add-sub_cancel_left}
use native.Mathlib.Omega.{arith}
use Rattle.std.proofs.lemmas.Result.{err_from_is_err_and}
use Rattle.reader.specs.Section.{records_from, section_at}
use Rattle.reader.specs.Internal.Alarms.{span_of, records_alarms, section_alarms}
use Rattle.reader.proofs.Sections.{count-read}
use Rattle.reader.proofs.section.section_at.Goals as goal

pub returns-in_err-n : goal.returns-in_err-n
unfolding section_at section_alarms
returns-in_err-n c =
    let p = err_from_is_err_and c.from_residual.result c.from_residual.ensures.1 in
    let refused = sym c.count_at.ensures ∙ c.in_err-n.was in
    record { value = rw (p.1, p.2) (simp refused); alarms_after = simp refused }

pub overflow_add-first : goal.overflow_add-first
overflow_add-first c = omega (arith, (count-read _ _ (sym c.count_at.ensures ∙ c.in_ok-n.was)).most)

pub records-requires-clause-end_le_all_most : goal.records-requires-clause-end_le_all_most
records-requires-clause-end_le_all_most c = omega (arith, (count-read _ _ (sym c.count_at.ensures ∙ c.in_ok-n.was)).most)

pub returns : goal.returns
unfolding section_at section_alarms
returns c =
    let a = c.args in
    let g = c.in_ok-n in
    let count = sym c.count_at.ensures ∙ g.was in
    let n = add-sub_cancel_left a.first g.n in
    record {
      value =
          simp count
          (c.records.ensures.value ∙ ap (λ (k : ℕ). span_of (records_from a.form a.image.now k k a.first g.next a.alarms.now)) n);
      alarms_after =
          simp count
          (c.records.ensures.alarms_after ∙ ap (λ (k : ℕ). records_alarms a.form a.image.now k a.first g.next a.alarms.now) n);
    }
