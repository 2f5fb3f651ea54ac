-- The examples of a published text of CommonMark, and what the command `examples` prints for them. The form of that text is the one of
-- CommonMark 0.31.2's `spec.txt`; what is printed is this project's choice.
use Rattle.std.specs.Prelude.{ℕ, ◌≡◌, ◌⊎◌, ◌+◌, Bool, ◌||◌, ◌==◌, List, [], ◌∷◌, ◌++◌, map, codes, chars, string_bytes, encode_utf8_all}
use Rattle.std.specs.Prelude.{decimal, bytes_eq, Option, Some, None, if◌then◌else◌}
use Rattle.std.specs.List.{slice_split}
use Rattle.std.specs.Io.KnownBytes.{Keeps}
use Rattle.doc_server_streams.specs.Streams.{AppendsPrefix}
use Rattle.doc_server_streams.specs.Inputs.{OfText}
use Rattle.doc_server.specs.Rendering.{rendered}
use Rattle.doc_server.specs.declared.count.Count.{Count}
use Rattle.doc_server_streams.specs.declared.fault.Fault.{Fault}
use Rattle.doc_server_streams.specs.declared.fault.Fault.TheVariants as faults

-- an example: a text, and the HTML that it should be
pub record Example : Type 0 where
  pub input : List ℕ
  pub output : List ℕ

-- ---- lines

-- the text between LFs
abbrev pub lines : List ℕ → List (List ℕ)
lines text = slice_split (λ b. b == 10) text

-- the line is this one; a CR at its end doesn't count
abbrev pub is_line : List ℕ → List ℕ → Bool
is_line mark line = bytes_eq line mark || bytes_eq line (mark ++ 13 ∷ [])

-- 32 backticks
abbrev pub fence : List ℕ
fence = codes "````````````````````````````````"

-- an example begins behind this line
unfoldable pub begins_example : List ℕ → Bool
begins_example line = is_line (fence ++ codes " example") line

-- an example's input ends before this line
unfoldable pub ends_input : List ℕ → Bool
ends_input line = bytes_eq line (codes ".")

-- an example's output ends before this line
unfoldable pub ends_output : List ℕ → Bool
ends_output line = is_line fence line

-- a tab is written as `→`
abbrev pub tab_or : ℕ → ℕ
tab_or c = if c == 0x2192 then 9 else c

-- a line as it is meant, with its LF
unfoldable pub meant : List ℕ → List ℕ
meant line = encode_utf8_all (map tab_or (chars line)) ++ 10 ∷ []

-- ---- examples

-- where a line stands, with what was read of its example
pub data Place : Type 0 where
  Between : Place
  InInput : List ℕ → Place
  InOutput : List ℕ → List ℕ → Place

-- the place behind a line
abbrev pub place_after : Place → List ℕ → Place
place_after Between line = if begins_example line then InInput [] else Between
place_after (InInput input) line = if ends_input line then InOutput input [] else InInput (input ++ meant line)
place_after (InOutput input output) line = if ends_output line then Between else InOutput input (output ++ meant line)

-- the example that ends before a line at this place
abbrev pub example_before : Place → List ℕ → Option Example
example_before Between line = None
example_before (InInput input) line = None
example_before (InOutput input output) line = if ends_output line then Some (record { input = input; output = output }) else None

-- an example before others, where there is one
abbrev pub onto : Option Example → List Example → List Example
onto None more = more
onto (Some example) more = example ∷ more

-- the examples that end among these lines, the first of which stands at this place
unfoldable pub examples_from : Place → List (List ℕ) → List Example
examples_from place [] = []
examples_from place (line ∷ more) = onto (example_before place line) (examples_from (place_after place line) more)

-- the examples of a text; one that doesn't end is none
unfoldable pub examples_of : List ℕ → List Example
examples_of text = examples_from Between (lines text)

-- ---- what is printed

-- the example's text is shown as it should be
abbrev pub passes : Example → Bool
passes example = bytes_eq (rendered example.input) example.output

-- one example more, of which this says whether it passed
abbrev pub one_more : Count → Bool → Count
one_more count passed = if passed then record { passed = count.passed + 1; failed = count.failed } else
    record { passed = count.passed; failed = count.failed + 1 }

-- the number of the next example: they are numbered from 1
abbrev pub next_number : Count → ℕ
next_number count = count.passed + count.failed + 1

-- what is printed of the example with this number
abbrev pub differs_line : ℕ → List ℕ
differs_line number = codes "example " ++ decimal number ++ codes " differs\n"

-- what is printed of the next example
abbrev pub example_line : Count → Bool → List ℕ
example_line count passed = if passed then [] else differs_line (next_number count)

-- what is printed of these examples, after so many
unfoldable pub lines_from : Count → List Example → List ℕ
lines_from count [] = []
lines_from count (example ∷ more) = example_line count (passes example) ++ lines_from (one_more count (passes example)) more

-- the count of these examples, after so many
unfoldable pub count_from : Count → List Example → Count
count_from count [] = count
count_from count (example ∷ more) = count_from (one_more count (passes example)) more

abbrev pub no_examples : Count
no_examples = record { passed = 0; failed = 0 }

-- what is printed last
abbrev pub count_line : Count → List ℕ
count_line count = decimal count.passed ++ codes " passed, " ++ decimal count.failed ++ codes " failed\n"

-- how many examples of a text pass, and how many don't
abbrev pub count_of : List ℕ → Count
count_of text = count_from no_examples (examples_of text)

-- what is printed for a text
abbrev pub report : List ℕ → List ℕ
report text = lines_from no_examples (examples_of text) ++ count_line (count_of text)

-- the status that the command ends with
abbrev pub status_of : Count → ℕ
status_of count = if count.failed == 0 then 0 else 1

-- What stops the command `examples` on a file of this name, and what the output holds then. The file can't be read, or isn't UTF-8:
-- nothing is written. The output can't be written, or memory runs out: it grows by a prefix of what is printed.
abbrev pub StopsExamples : List ℕ → Option (List ℕ) → Option (List ℕ) → Option (List ℕ) → Fault → Type 0
StopsExamples name file old new (faults.CannotRead called) = (string_bytes called ≡ name) × Keeps old new
StopsExamples name file old new faults.CannotWrite = OfText file (λ text. AppendsPrefix old new (report text))
StopsExamples name file old new faults.Memory = Keeps old new ⊎ OfText file (λ text. AppendsPrefix old new (report text))
StopsExamples name file old new fault = ⊥
