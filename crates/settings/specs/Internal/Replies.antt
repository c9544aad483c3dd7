-- An answer without its value.
use Rattle.std.specs.Prelude.{Result, Ok, ⊤}
use Rattle.settings.specs.Refusals.{and_then}
use Rattle.settings.specs.declared.refusals.Refusal.{Refusal}

-- an answer without its value
abbrev pub reply_of : {A : Type 0} → Result A Refusal → Result ⊤ Refusal
reply_of r = and_then r (λ _. Ok tt)
