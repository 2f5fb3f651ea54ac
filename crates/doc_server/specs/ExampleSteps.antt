-- Words in which the parts of the command `examples` are stated.
use Rattle.std.specs.Prelude.{◌≡◌, ◌≤◌, ◌+◌, ℕ, List, [], ◌++◌, length, Option, Some, None, string_bytes}
use denote.Ref.{Bor}
use Rattle.std.specs.Io.KnownBytes.{Appends}
use Rattle.doc_server.specs.Examples.{Example, Place, Between, InInput, InOutput, examples_from, examples_of, passes, one_more}
use Rattle.doc_server.specs.Examples.{example_line, lines_from, count_from, no_examples, count_of}
use Rattle.doc_server.specs.declared.count.Count.{Count}
use Rattle.doc_server.specs.declared.example_reader.Part.{Part}
use Rattle.doc_server.specs.declared.example_reader.Part.TheVariants as parts
use Rattle.doc_server.specs.declared.example_reader.ExampleReader.{ExampleReader}

-- the place that a reader of examples is at
abbrev pub place_in : Part → List ℕ → List ℕ → Place
place_in parts.Between input output = Between
place_in parts.Input input output = InInput input
place_in parts.Output input output = InOutput input output

abbrev pub place_of : ExampleReader → Place
place_of reader = place_in reader.part (string_bytes reader.input) (string_bytes reader.output)

-- two texts as an example
abbrev pub example_shown : Bor (List ℕ) × Bor (List ℕ) → Example
example_shown texts = record { input = texts.0.now; output = texts.1.now }

-- what is printed where an example ends, and the count behind it
abbrev pub line_before : Count → Option Example → List ℕ
line_before count None = []
line_before count (Some example) = example_line count (passes example)

abbrev pub count_after : Count → Option Example → Count
count_after count None = count
count_after count (Some example) = one_more count (passes example)

-- there is a number for one example more
abbrev pub HasRoom : Count → Type 0
HasRoom count = count.passed + count.failed + 1 ≤ 0xFFFF_FFFF_FFFF_FFFF

-- Of a text these lines are left, the first of which stands at this place; so many examples ended before, and the output grew by
-- what is printed of them.
abbrev pub IsAt : List ℕ → Option (List ℕ) → Place → Count → Option (List ℕ) → List (List ℕ) → Type 0
IsAt text old place count new rest =
    (sent : List ℕ) × Appends old new sent × (lines_from no_examples (examples_of text) ≡ sent
    ++ lines_from count (examples_from place rest))
    × (count_of text ≡ count_from count (examples_from place rest)) × (count.passed + count.failed + length rest ≤ length text + 1)
