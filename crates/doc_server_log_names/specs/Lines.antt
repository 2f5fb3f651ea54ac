-- The lines of a log.
use Rattle.std.specs.Prelude.{◌≡◌, ℕ, List, ◌++◌, codes, Option, option_and_then}
use Rattle.doc_http.specs.declared.request.Request.{Request}
use Rattle.doc_http.specs.Passwords.{token_in}
use Rattle.doc_server_log.specs.declared.entry.Entry.{Entry}
use Rattle.doc_server_log.specs.JsonLines.{json_line}
use Rattle.doc_server_log.specs.PlainLines.{plain_line}
use Rattle.doc_server_log.specs.Readers.{shown_reader}
use Rattle.doc_server_log_names.specs.declared.answered.Answered.{Answered}
use Rattle.doc_server_log_names.specs.declared.lines.Lines.{Lines}
use Rattle.doc_server_log_names.specs.declared.lines.Lines.TheVariants.{Plain, Json}
use Rattle.doc_server_log_names.specs.Names.{found_by, shown_found}

-- who asks, where lines tell that: the reader of the configuration whose token the request has, as the server reads it
abbrev pub asking_in : Lines → Request → List ℕ
asking_in Plain request = codes "-"
asking_in (Json askers) request = shown_found (option_and_then (found_by askers.names) (token_in askers.login request.authorization))

abbrev pub line_by : Lines → Entry → List ℕ
line_by Plain entry = plain_line entry
line_by (Json askers) entry = json_line entry

-- what a line tells of this reader, method and target, which were answered so
pub record IsEntryOf (answered : Answered) (reader method target : List ℕ) (entry : Entry) : Type 0 where
  pub time : entry.time ≡ answered.time
  pub connection : entry.connection ≡ answered.connection
  pub reader_is : shown_reader entry.reader ≡ reader
  pub method_is : entry.method.now ≡ method
  pub target_is : entry.target.now ≡ target
  pub code : entry.code ≡ answered.code
  pub bytes : entry.bytes ≡ answered.bytes
  pub micros : entry.micros ≡ answered.micros

-- behind what was written stands a line of an entry of these
abbrev pub IsLineOf : Lines → Answered → List ℕ → List ℕ → List ℕ → List ℕ → List ℕ → Type 0
IsLineOf lines answered reader method target old new =
    (entry : Entry) × IsEntryOf answered reader method target entry × (new ≡ old ++ line_by lines entry)
