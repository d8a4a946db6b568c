-- The worked examples in the pass net: the tape, the calls that open it, and the calls in question.
use Rattle.std.specs.Prelude.{ℕ, List, [], ◌∷◌, ◌++◌, pos, Some, None}
use Rattle.recovery_model.specs.declared.call.Call.{Call}
use Rattle.recovery_model.specs.declared.call.Call.TheVariants.{State, Enter, Leave, Match, Sync, Report, Recover}
use Rattle.recovery_samples.specs.declared.sample.Sample.{Sample}
use Rattle.recovery_samples.specs.declared.sample.Sample.TheVariants.{Extra, Missing, MissingLast, Mismatch, MismatchReported, ToTheEnd, Outermost, LoopEntry, LoopBack}
use Rattle.recovery_samples.specs.Beginnings.{Stand}

-- the types of the tape before EOF
abbrev pub types_of : Sample → List ℕ
types_of Extra = 1 ∷ 1 ∷ 2 ∷ 3 ∷ []
types_of Missing = 1 ∷ 3 ∷ []
types_of MissingLast = 1 ∷ 2 ∷ []
types_of Mismatch = 1 ∷ 1 ∷ 1 ∷ 2 ∷ 3 ∷ []
types_of MismatchReported = 1 ∷ 1 ∷ 1 ∷ 2 ∷ 3 ∷ []
types_of ToTheEnd = 2 ∷ 2 ∷ 3 ∷ []
types_of Outermost = 1 ∷ 1 ∷ []
types_of LoopEntry = 2 ∷ 1 ∷ 2 ∷ 3 ∷ []
types_of LoopBack = 1 ∷ 2 ∷ 3 ∷ 3 ∷ 2 ∷ 1 ∷ 2 ∷ 3 ∷ []

-- Rule 0 is entered and calls rule 1; and there a 1 is taken, and a 2 after it.
abbrev pub calling_rule_1 : List Call
calling_rule_1 = Enter 0 ∷ State 2 ∷ Enter 1 ∷ State 7 ∷ []

abbrev pub past_1 : List Call
past_1 = calling_rule_1 ++ Match (pos 1) ∷ State 8 ∷ []

abbrev pub past_2 : List Call
past_2 = past_1 ++ Match (pos 2) ∷ State 9 ∷ []

-- the calls with which a new parser begins
abbrev pub opening_of : Sample → List Call
opening_of MissingLast = past_2
opening_of ToTheEnd = calling_rule_1
opening_of Outermost = Enter 1 ∷ State 7 ∷ []
opening_of LoopEntry = Enter 0 ∷ State 1 ∷ []
opening_of LoopBack = past_2 ++ Match (pos 3) ∷ Leave ∷ State 3 ∷ []
opening_of s = past_1

-- where they lead
abbrev pub leads_to : Sample → Stand
leads_to MissingLast = record { place = 2; state = Some 9; invoking = Some 2 ∷ None ∷ [] }
leads_to ToTheEnd = record { place = 0; state = Some 7; invoking = Some 2 ∷ None ∷ [] }
leads_to Outermost = record { place = 0; state = Some 7; invoking = None ∷ [] }
leads_to LoopEntry = record { place = 0; state = Some 1; invoking = None ∷ [] }
leads_to LoopBack = record { place = 3; state = Some 3; invoking = None ∷ [] }
leads_to s = record { place = 1; state = Some 8; invoking = Some 2 ∷ None ∷ [] }

-- the calls that it gets there
abbrev pub calls_of : Sample → List Call
calls_of Extra = Match (pos 2) ∷ Leave ∷ []
calls_of Missing = Match (pos 2) ∷ []
calls_of MissingLast = Match (pos 3) ∷ []
calls_of Mismatch = Match (pos 2) ∷ Recover ∷ Recover ∷ []
calls_of MismatchReported = Match (pos 2) ∷ Report 2 ∷ Recover ∷ Recover ∷ []
calls_of ToTheEnd = Report 1 ∷ Recover ∷ Recover ∷ Recover ∷ []
calls_of Outermost = Report 3 ∷ Recover ∷ []
calls_of LoopEntry = Sync ∷ []
calls_of LoopBack = Sync ∷ Sync ∷ []
