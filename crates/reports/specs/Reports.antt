-- What a report says.
use Rattle.std.specs.Prelude.{ℕ, zero, suc, ◌+◌, Bool, ◌&&◌, List, [], ◌∷◌, ℤ, negsuc, int_le, Option, unwrap_or, find}
use Rattle.interval_set.specs.declared.set.IntervalSet.{IntervalSet}
use Rattle.interval_set.specs.Members.{holds, how_many}
use Rattle.token.specs.declared.token_type.TokenType.{TokenType}
use Rattle.token.specs.declared.token_type.TokenType.TheVariants.{Eof, Of}
use Rattle.token.specs.Tokens.{type_number}
use Rattle.reports.specs.declared.report.Report.{Report}
use Rattle.reports.specs.declared.report.ReportKind.{ReportKind}
use Rattle.reports.specs.declared.report.ReportKind.TheVariants.{NoViableAlternative, InputMismatch, FailedPredicate, UnwantedToken, MissingToken}

-- the numbers of the kinds
abbrev pub report_number : ReportKind → ℕ
report_number NoViableAlternative = 1
report_number InputMismatch = 2
report_number FailedPredicate = 3
report_number UnwantedToken = 4
report_number MissingToken = 5

-- the set holds x, and x is the number of a type: -1, which is EOF, or more
abbrev pub expects : IntervalSet → ℤ → Bool
expects s x = holds s x && int_le (negsuc 0) x

-- how many of the numbers from -2 to 255 pass the test
unfoldable pub types_in : (ℤ → Bool) → ℕ
types_in test = how_many 258 test

-- the types from t on, so many of them
abbrev pub types_from : ℕ → ℕ → List TokenType
types_from zero t = []
types_from (suc k) t = Of t ∷ types_from k (t + 1)

-- Of EOF and the types 0 to 255, the smallest that passes the test; where none passes, type 0.
abbrev pub smallest_type : (ℤ → Bool) → TokenType
smallest_type test = unwrap_or (find (λ t. test (type_number t)) (Eof ∷ types_from 256 0)) (Of 0)

-- The report of a token where these types were expected: it tells how many they are, and the smallest of them.
abbrev pub report_at : ReportKind → Option ℕ → ℕ × ℕ → (ℤ → Bool) → Report
report_at kind index position types =
    record { kind = kind; index = index; line = position.0; column = position.1; expected = types_in types; smallest = smallest_type types }
