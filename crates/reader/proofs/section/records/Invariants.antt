-- `reader::section::records` meets its contract: the invariant: reading on from here gives what reading from the first place gives. Assumes nothing.
use Rattle.std.proofs.Common.{◌≡◌, ◌-◌}
use Rattle.reader.specs.Section.{records_from}
use Rattle.reader.specs.Internal.Alarms.{records_alarms}
use Rattle.reader.proofs.section.records.Given as goal

abbrev pub invariant-loop-place : goal.invariant-loop-place
invariant-loop-place l =
    record {
      answer : records_from l.form l.image (l.end - l.first) (l.end - l.place) l.place l.next l.alarms
          ≡ records_from l.form l.image (l.end - l.first) (l.end - l.first) l.first l.at l.initial.alarms;
      filled : records_alarms l.form l.image (l.end - l.place) l.place l.next l.alarms
          ≡ records_alarms l.form l.image (l.end - l.first) l.first l.at l.initial.alarms;
    }
