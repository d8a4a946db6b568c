use Rattle.std.proofs.Common.{sym}
use Rattle.std.proofs.lemmas.Bool.{both_ways}
use Rattle.atn.specs.Found.{found}
use Rattle.atn.specs.Reach.{Listed}
use Rattle.atn.proofs.Following.{along_with, call_with, both_with}
use Rattle.atn.proofs.nullable.NullableStates.follow.Goals as goal

pub returns-in-Along : goal.returns-in-Along
returns-in-Along c = along_with (Listed (found c.args.self.now.states)) c.args.e.now _ _ c.in-Along.ensures c.note.ensures

pub returns-then-has : goal.returns-then-has
returns-then-has c =
    both_with (Listed (found c.args.self.now.states)) c.args.e.now _ c.in-Call.follow _ _ c.in-Call.ensures
    (sym c.if-has.ensures) c.note-in-Call.ensures c.note-then-has.ensures

pub returns-else-has : goal.returns-else-has
returns-else-has c =
    call_with (Listed (found c.args.self.now.states)) c.args.e.now _ c.in-Call.follow _ c.in-Call.ensures
    (λ nullable. both_ways _ (sym c.if-has.ensures) nullable) c.note-in-Call.ensures
