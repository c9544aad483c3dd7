-- One scan of one condition, in document 01's order: acknowledgement, return, activation. It knows no number form and no time: it is
-- told whether the condition is met, would be freed, and is ready.
use Rattle.std.specs.Prelude.{ℕ, ◌+◌, List, [], ◌∷◌, Bool, false, not, ◌&&◌, ◌||◌, cond, ltb, ◌≡◌}
use Rattle.history.specs.Past.{Fact}
use Rattle.history.specs.Demand.{Facts}

-- what a condition is told in a scan
pub record Told : Type 0 where
  -- its alarm is enabled
  pub enabled : Bool
  pub met : Bool
  -- it would be cleared if it is not met
  pub frees : Bool
  -- it would be due if it is met
  pub ready : Bool
  pub ack : Bool
  -- AckRequired
  pub required : Bool

-- what a condition keeps
pub record Kept : Type 0 where
  pub alarm : Bool
  pub unacked : Bool
  pub count : ℕ

-- before the first scan
abbrev pub fresh : Kept
fresh = record { alarm = false; unacked = false; count = 0 }

-- event 6: acknowledged, and it was not
abbrev pub acknowledges : Told → Bool → Bool
acknowledges t unacked = t.enabled && t.ack && unacked

-- event 7: in alarm and cleared
abbrev pub returns : Told → Bool → Bool
returns t alarm = t.enabled && alarm && (not t.met && t.frees)

-- event 8: due and not in alarm
abbrev pub activates : Told → Bool → Bool
activates t alarm = t.enabled && t.met && t.ready && not alarm

abbrev pub alarm_after : Told → Bool → Bool
alarm_after t alarm = activates t alarm || t.enabled && not (not t.met && t.frees) && alarm

-- an activation is unacknowledged if acknowledgement is required, whatever else the scan commands
abbrev pub unacked_after : Told → Bool → Bool → Bool
unacked_after t alarm unacked = cond (activates t alarm) t.required (t.enabled && not t.ack && unacked)

abbrev pub count_up : ℕ → ℕ
count_up n = cond (ltb n 2147483647) (n + 1) n

-- a count reset comes first; an activation counts up by one, unless 2,147,483,647 is reached
abbrev pub count_after : Bool → Bool → ℕ → ℕ
count_after reset activated n = cond activated (count_up (cond reset 0 n)) (cond reset 0 n)

abbrev pub kept_after : Told → Bool → Kept → Kept
kept_after t reset k =
    record {
      alarm = alarm_after t k.alarm;
      unacked = unacked_after t k.alarm k.unacked;
      count = count_after reset (activates t k.alarm) k.count;
    }

-- ---- the conditions of one alarm over a list of scans

-- where cleared is: not met, and freed
abbrev pub Frees : {S C : Type 0} → Facts S C → (C → Fact S) → Type 0
Frees {S} {C} f frees = (c : C) (s : S) (past : List S) → f.cleared c s past ≡ not (f.met c s past) && frees c s past

module _ {S C : Type 0} (f : Facts S C) (frees : C → Fact S) where
  -- what the scan tells a condition, given which conditions were in alarm before it
  abbrev pub told : (C → Bool) → C → S → List S → Told
  told before c s past =
      record {
        enabled = f.enabled s past;
        met = f.met c s past;
        frees = frees c s past;
        ready = f.lasted c s past || (f.beside c before || f.rate c);
        ack = f.ack c s past;
        required = f.required;
      }

  -- what each condition keeps after a list of scans, scan by scan
  unfoldable pub kept : List S → C → Kept
  kept [] c = fresh
  kept (s ∷ past) c = kept_after (told (λ d. (kept past d).alarm) c s past) (f.reset s past) (kept past c)
