-- What the calls of the worked examples answer and do, whatever decides the within-rule sets of the pass net.
use Rattle.std.specs.Prelude.{◌≡◌, List, [], ◌∷◌, ◌++◌, Some, None, Bool, ℤ, pos}
use Rattle.token.specs.declared.token_type.TokenType.TheVariants.{Eof, Of}
use Rattle.token.specs.Tokens.{Fields}
use Rattle.leaves.specs.Leaves.{LeafFields as Leaf}
use Rattle.leaves.specs.declared.leaf.LeafKind.TheVariants.{Terminal, Error}
use Rattle.reports.specs.declared.report.Report.{Report}
use Rattle.reports.specs.declared.report.ReportKind.TheVariants.{NoViableAlternative, InputMismatch as MismatchReport, FailedPredicate, UnwantedToken, MissingToken}
use Rattle.samples.specs.Pass.{pass, PassSets}
use Rattle.recovery_model.specs.Calls.{InputMismatch, Done, Left, Token, Mismatch as NoMatch}
use Rattle.recovery_model.specs.declared.strategy_state.Mode.TheVariants.{Normal, InErrorRecovery}
use Rattle.recovery_model.specs.Sets.{WithinSets, Agree, no_types}
use Rattle.recovery_model.specs.Views.{View, new_strategy_state}
use Rattle.recovery_model.specs.Steps.{step}
use Rattle.recovery_model.specs.Journals.{run, told_in}
use Rattle.recovery_model.specs.TapeLaw.{New}
use Rattle.recovery_samples.specs.declared.sample.Sample.{Sample}
use Rattle.recovery_samples.specs.declared.sample.Sample.TheVariants.{Extra, Missing, MissingLast, Mismatch, MismatchReported, ToTheEnd, Outermost, LoopEntry, LoopBack}
use Rattle.recovery_samples.specs.Beginnings.{token, made, stand}
use Rattle.recovery_samples.specs.Examples.{types_of, opening_of, leads_to, calls_of}
use Rattle.recovery_samples.specs.Seen.{Seen, in_called, in_outermost, in_caller, report, seen, trace, types_told, only, end_or_one}

-- the view to which the opening calls of an example lead from a new parser, what is seen of its calls from there on, what they
-- leave, and the types that they tell
abbrev pub begins : WithinSets → Sample → View
begins w s = run pass w (opening_of s) (made (types_of s))

abbrev pub sees : WithinSets → Sample → List Seen
sees w s = trace seen (step pass w) (calls_of s) (begins w s)

abbrev pub end : WithinSets → Sample → View
end w s = run pass w (calls_of s) (begins w s)

abbrev pub tells : WithinSets → Sample → List (ℤ → Bool)
tells w s = types_told (step pass w) (calls_of s) (begins w s)

-- An example is opened: by the calls of a new parser, which lead to where it is said. They tell nothing, and nothing is noted then.
pub record Opened (w : WithinSets) (s : Sample) : Type 0 where
  pub new : New (made (types_of s))
  pub leads : stand (begins w s) ≡ leads_to s
  pub tells_none : told_in pass w (opening_of s) (made (types_of s)) ≡ []
  pub notes_none : (begins w s).strategy ≡ new_strategy_state

-- the leaf of the first 1, which was taken
abbrev pub first_one : List Leaf
first_one = in_called Terminal (token (Of 1) 0) ∷ []

-- and those of the second 1 and of the 2 of 1 1 2 3 after it
abbrev pub struck_and_taken : List Leaf
struck_and_taken = first_one ++ in_called Error (token (Of 1) 1) ∷ in_called Terminal (token (Of 2) 2) ∷ []

-- the token that is made up for the missing one, where the token 3 stands
abbrev pub missing_symbol : Fields
missing_symbol = record { typ = Of 2; channel = 0; index = None; position = (1, 1); span = None }

-- and for the one that is missing before EOF, where the token 2 stood
abbrev pub missing_symbol_last : Fields
missing_symbol_last = record { typ = Of 3; channel = 0; index = None; position = (1, 1); span = None }

-- the second 1 does not match in state 8
abbrev pub second_one : InputMismatch
second_one = record { token = token (Of 1) 1; state = 8; chain = 2 ∷ [] }

-- the leaves of 2 2 3, passed in error recovery
abbrev pub all_struck : List Leaf
all_struck = in_called Error (token (Of 2) 0) ∷ in_called Error (token (Of 2) 1) ∷ in_called Error (token (Of 3) 2) ∷ []

-- the leaves of 1 2 3, which were taken, and of 3 2, passed in error recovery on the way back of the loop
abbrev pub none_fits : List Leaf
none_fits =
    first_one ++ in_called Terminal (token (Of 2) 1) ∷ in_called Terminal (token (Of 3) 2)
    ∷ in_caller Error (token (Of 3) 3) ∷ in_caller Error (token (Of 2) 4) ∷ []

-- the reports of the repairs
abbrev pub extra_report : Report
extra_report = report UnwantedToken (token (Of 1) 1) 1 (Of 2)

abbrev pub missing_report : Report
missing_report = report MissingToken (token (Of 3) 1) 1 (Of 2)

abbrev pub missing_last_report : Report
missing_last_report = report MissingToken (token Eof 2) 1 (Of 3)

abbrev pub mismatch_report : Report
mismatch_report = report MismatchReport (token (Of 1) 1) 1 (Of 2)

pub record Repaired (w : WithinSets) : Type 0 where
  pub opened : (s : Sample) → Opened w s
  -- 1 1 2 3: the second 1 is one too many. It is reported and deleted, and the 2 is taken. With the first 1 three leaves were
  -- added in the rule.
  pub extra :
      sees w Extra
      ≡ record { answer = Token (token (Of 2) 2); leaves = struck_and_taken; place = 3; told = extra_report ∷ []; mode = Normal }
      ∷ record { answer = Left 3; leaves = struck_and_taken; place = 3; told = []; mode = Normal } ∷ []
  pub extra_types : tells w Extra ≡ only (pos 2) ∷ []
  -- 1 3: the 2 is missing. That is reported, and a 2 is made up; the 3 is still to come.
  pub missing_token : sees w Missing ≡ record { answer = Token missing_symbol; leaves = first_one ++ in_called Error missing_symbol ∷ []; place = 1; told = missing_report ∷ []; mode = InErrorRecovery } ∷ []
  pub missing_types : tells w Missing ≡ only (pos 2) ∷ []
  -- 1 2: the 3 is missing, and EOF may follow the rule.
  pub missing_last :
      sees w MissingLast
      ≡ record { answer = Token missing_symbol_last; leaves = first_one ++ in_called Terminal (token (Of 2) 1) ∷ in_called Error missing_symbol_last ∷ []; place = 2; told = missing_last_report ∷ []; mode = InErrorRecovery } ∷ []
  pub missing_last_types : tells w MissingLast ≡ only (pos 3) ∷ []
  -- 1 1 1 2 3: neither helps. The first search ends at once, as a 1 may follow; the second skips that 1, and ends on the next.
  -- With no report before it, its leaf is terminal.
  pub mismatch :
      sees w Mismatch
      ≡ record { answer = NoMatch second_one; leaves = first_one; place = 1; told = []; mode = Normal }
      ∷ record { answer = Done; leaves = first_one; place = 1; told = []; mode = Normal }
      ∷ record { answer = Done; leaves = first_one ++ in_called Terminal (token (Of 1) 1) ∷ []; place = 2; told = []; mode = Normal } ∷ []
  pub mismatch_kept : (end w Mismatch).input_mismatch ≡ Some second_one
  -- After a report its leaf is an error.
  pub mismatch_reported :
      sees w MismatchReported
      ≡ record { answer = NoMatch second_one; leaves = first_one; place = 1; told = []; mode = Normal }
      ∷ record { answer = Done; leaves = first_one; place = 1; told = mismatch_report ∷ []; mode = InErrorRecovery }
      ∷ record { answer = Done; leaves = first_one; place = 1; told = []; mode = InErrorRecovery }
      ∷ record { answer = Done; leaves = first_one ++ in_called Error (token (Of 1) 1) ∷ []; place = 2; told = []; mode = InErrorRecovery } ∷ []
  pub mismatch_types : tells w MismatchReported ≡ only (pos 2) ∷ []
  -- 2 2 3: nothing that may follow is left, so the first search ends on EOF. The second ends there at once, and the third
  -- passes EOF, which stays.
  pub to_the_end :
      sees w ToTheEnd
      ≡ record { answer = Done; leaves = []; place = 0; told = report NoViableAlternative (token (Of 2) 0) 0 (Of 0) ∷ []; mode = InErrorRecovery }
      ∷ record { answer = Done; leaves = all_struck; place = 3; told = []; mode = InErrorRecovery }
      ∷ record { answer = Done; leaves = all_struck; place = 3; told = []; mode = InErrorRecovery }
      ∷ record { answer = Done; leaves = all_struck ++ in_called Error (token Eof 3) ∷ []; place = 3; told = []; mode = InErrorRecovery } ∷ []
  pub to_the_end_types : tells w ToTheEnd ≡ no_types ∷ []
  -- 1 1, and rule 1 is alone: no type may follow it, so the search ends on EOF.
  pub outermost :
      sees w Outermost
      ≡ record { answer = Done; leaves = []; place = 0; told = report FailedPredicate (token (Of 1) 0) 0 (Of 0) ∷ []; mode = InErrorRecovery }
      ∷ record { answer = Done; leaves = in_outermost Error (token (Of 1) 0) ∷ in_outermost Error (token (Of 1) 1) ∷ []; place = 2; told = []; mode = InErrorRecovery } ∷ []
  pub outermost_types : tells w Outermost ≡ no_types ∷ []
  -- 2 1 2 3 at the entry of the loop: the first 2 is one too many. It is reported and deleted.
  pub loop_entry :
      sees w LoopEntry
      ≡ record { answer = Done; leaves = in_caller Error (token (Of 2) 0) ∷ []; place = 1; told = report UnwantedToken (token (Of 2) 0) 2 Eof ∷ []; mode = Normal } ∷ []
  pub loop_entry_types : tells w LoopEntry ≡ end_or_one ∷ []
  -- 1 2 3 3 2 1 2 3 on the way back of the loop: the second 3 and the 2 do not fit, and are passed. Then sync does nothing.
  pub loop_back :
      sees w LoopBack
      ≡ record { answer = Done; leaves = none_fits; place = 5; told = report UnwantedToken (token (Of 3) 3) 2 Eof ∷ []; mode = InErrorRecovery }
      ∷ record { answer = Done; leaves = none_fits; place = 5; told = []; mode = InErrorRecovery } ∷ []
  pub loop_back_types : tells w LoopBack ≡ end_or_one ∷ []

-- The within-rule sets of four states are known; some tests agree with the walks of the pass net, and with any that do the
-- examples go so.
pub record Samples : Type 0 where
  pub sets : PassSets
  pub tests : WithinSets
  pub agree : Agree pass tests
  pub repaired : (w : WithinSets) → Agree pass w → Repaired w
