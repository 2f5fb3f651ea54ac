-- The delimiter runs of the code, as the rules speak of them.
use Rattle.std.specs.Prelude.{ℕ, List, map}
use Rattle.doc_rules.specs.Inlines as rules
use Rattle.doc_inlines_emphasis.specs.Marks.{Placed}
use Rattle.doc_inlines_emphasis.specs.declared.delimiter.Delimiter.{Delimiter}
use Rattle.doc_inlines_emphasis.specs.declared.delimiter.Delimiter.TheVariants.{Star, Underscore, Tilde, TwoTildes}
use Rattle.doc_inlines_emphasis.specs.declared.run.Run.{Run}

-- the character of a run
abbrev pub delimiter : Delimiter → ℕ
delimiter Star = 42
delimiter Underscore = 95
delimiter Tilde = 126
delimiter TwoTildes = 126

-- the first of the kinds of closers that it may be
abbrev pub first_kind : Delimiter → ℕ
first_kind Star = 6
first_kind Underscore = 0
first_kind Tilde = 12
first_kind TwoTildes = 13

abbrev pub char_of : Run → ℕ
char_of run = delimiter run.delimiter

-- how many there were at first; of '~' the kind tells it
abbrev pub length_by : Delimiter → ℕ → ℕ
length_by Star n = n
length_by Underscore n = n
length_by Tilde n = 1
length_by TwoTildes n = 2

abbrev pub run_shown : Run → rules.Run
run_shown run = record {
  char = char_of run;
  left = run.left;
  length = length_by run.delimiter run.length;
  opens = run.opens;
  closes = run.closes;
}

abbrev pub placed_shown : Run → Placed
placed_shown run = record { first = run.first; run = run_shown run }

abbrev pub all_placed : List Run → List Placed
all_placed runs = map placed_shown runs
