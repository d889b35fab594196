-- What check_report says of a record. Assumes nothing.
use Rattle.std.specs.Prelude.{ℕ, Bool, List, ◌++◌, Ok, Err}
use Rattle.checking.specs.Check.{Answer, checked, answer_verdict, call_sign_of}
use Rattle.refusals.specs.Verdicts.{is_refused}
use Rattle.report_lines.specs.Sentences.{refused_line, accepted_line, call_sign_line}

-- that it is accepted, with its edition, and its call sign where it has one; or that it is refused, with number and place
unfoldable pub check_text : ℕ → List ℕ → Answer → List ℕ
check_text n line (Ok edition) = accepted_line n edition ++ call_sign_line n (call_sign_of (Ok edition) line)
check_text n line (Err r) = refused_line n r

-- what is said of a record with its count, and whether it is refused
abbrev pub check_said : ℕ → List ℕ → List ℕ
check_said n line = check_text n line (checked line)

abbrev pub check_refused : List ℕ → Bool
check_refused line = is_refused (answer_verdict (checked line))
