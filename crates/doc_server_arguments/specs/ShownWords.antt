-- How words of the arguments are told.
use Rattle.std.specs.Prelude.{ℕ, List, [], ◌++◌, length, take, codes, nat_le, if◌then◌else◌}
use Rattle.percent_encoding.specs.Percent.{percent_encode}
use Rattle.doc_server_arguments.specs.declared.shown_word.TheConstants.{HIDDEN}

-- a word, controls, spaces and what isn't ASCII by their numbers, and cut behind 1,000 bytes
abbrev pub shown_word : List ℕ → List ℕ
shown_word word = percent_encode HIDDEN (take 1000 word) ++ (if nat_le (length word) 1000 then [] else codes "...")
