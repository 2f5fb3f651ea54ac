-- A line as JSON is one line, by its parts.
use Rattle.std.proofs.Common.{ℕ, List, ◌++◌, codes, decimal, refl, sym, append_assoc}
use Rattle.std.specs.Prelude.{Option, Some, None}
use Rattle.std.proofs.lemmas.List.Sums.{list_all-from_AllPass}
use Rattle.doc_server_log.specs.declared.entry.Entry.{Entry}
use Rattle.doc_server_log.specs.JsonLines.{asking_members, escaped, is_printable, json_string, member, reply_members, request_members, time_value}
use Rattle.doc_server_log.specs.Laws.{IsALine}
use Rattle.doc_server_log.specs.Moments.{rfc3339}
use Rattle.doc_server_log.specs.Readers.{IsNamed, shown_reader}
use Rattle.doc_server_log.specs.RequestLines.{shown_method, shown_target}
use Rattle.doc_server_log.proofs.PlainSteps.{Plain, Printable, both_printable, decimal_plain, escaped_printable, method_plain, moment_plain, printable_from_plain, printable_literal, reader_plain, target_printable}

string_printable : (text : List ℕ) → Printable text → Printable (json_string text)
string_printable text h =
    both_printable (codes "\"" ++ escaped text) (codes "\"")
    (both_printable (codes "\"") (escaped text) (printable_literal (codes "\"") refl) (escaped_printable text h))
    (printable_literal (codes "\"") refl)

plain_string : (text : List ℕ) → Plain text → Printable (json_string text)
plain_string text h = string_printable text (printable_from_plain text h)

member_printable : (name value : List ℕ) → Printable name → Printable value → Printable (member name value)
member_printable name value first second =
    both_printable (codes ",\"" ++ name ++ codes "\":") value
    (both_printable (codes ",\"" ++ name) (codes "\":") (both_printable (codes ",\"") name (printable_literal (codes ",\"") refl) first)
    (printable_literal (codes "\":") refl))
    second

time_printable : (time : Option ℕ) → Printable (time_value time)
time_printable None = printable_literal (codes "null") refl
time_printable (Some micros) = plain_string (rfc3339 micros) (moment_plain micros)

number_printable : (n : ℕ) → Printable (decimal n)
number_printable n = printable_from_plain (decimal n) (decimal_plain n)

asking_printable : (entry : Entry) → IsNamed entry.reader → Printable (asking_members entry)
asking_printable entry named =
    both_printable (member (codes "conn") (decimal entry.connection)) (member (codes "reader") (json_string (shown_reader entry.reader)))
    (member_printable (codes "conn") (decimal entry.connection) (printable_literal (codes "conn") refl) (number_printable entry.connection))
    (member_printable (codes "reader") (json_string (shown_reader entry.reader)) (printable_literal (codes "reader") refl)
    (plain_string (shown_reader entry.reader) (reader_plain entry.reader named)))

request_printable : (entry : Entry) → Printable (request_members entry)
request_printable entry =
    both_printable (member (codes "method") (json_string (shown_method entry.method.now)))
    (member (codes "path") (json_string (shown_target entry.target.now)))
    (member_printable (codes "method") (json_string (shown_method entry.method.now)) (printable_literal (codes "method") refl)
    (plain_string (shown_method entry.method.now) (method_plain entry.method.now)))
    (member_printable (codes "path") (json_string (shown_target entry.target.now)) (printable_literal (codes "path") refl)
    (string_printable (shown_target entry.target.now) (target_printable entry.target.now)))

reply_printable : (entry : Entry) → Printable (reply_members entry)
reply_printable entry =
    both_printable (member (codes "code") (decimal entry.code) ++ member (codes "bytes") (decimal entry.bytes))
    (member (codes "us") (decimal entry.micros))
    (both_printable (member (codes "code") (decimal entry.code)) (member (codes "bytes") (decimal entry.bytes))
    (member_printable (codes "code") (decimal entry.code) (printable_literal (codes "code") refl) (number_printable entry.code))
    (member_printable (codes "bytes") (decimal entry.bytes) (printable_literal (codes "bytes") refl) (number_printable entry.bytes)))
    (member_printable (codes "us") (decimal entry.micros) (printable_literal (codes "us") refl) (number_printable entry.micros))

-- the line in front of its last two bytes
abbrev most_of : Entry → List ℕ
most_of entry = codes "{\"time\":" ++ time_value entry.time ++ asking_members entry ++ request_members entry ++ reply_members entry

most_printable : (entry : Entry) → IsNamed entry.reader → Printable (most_of entry)
most_printable entry named =
    both_printable (codes "{\"time\":" ++ time_value entry.time ++ asking_members entry ++ request_members entry) (reply_members entry)
    (both_printable (codes "{\"time\":" ++ time_value entry.time ++ asking_members entry) (request_members entry)
    (both_printable (codes "{\"time\":" ++ time_value entry.time) (asking_members entry)
    (both_printable (codes "{\"time\":") (time_value entry.time) (printable_literal (codes "{\"time\":") refl)
    (time_printable entry.time))
    (asking_printable entry named))
    (request_printable entry))
    (reply_printable entry)

pub is_a_line : IsALine
is_a_line entry named = (
  most_of entry ++ codes "}",
  sym (append_assoc (most_of entry) (codes "}") (codes "\n")),
  list_all-from_AllPass is_printable (most_of entry ++ codes "}")
      (both_printable (most_of entry) (codes "}") (most_printable entry named) (printable_literal (codes "}") refl)),
)
