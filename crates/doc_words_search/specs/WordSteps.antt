-- Counts of words, and words of a text, as they are found one after another.
use Rattle.std.specs.Prelude.{◌≡◌, ℕ, ◌+◌, Bool, true, IsAscii, ◌||◌, List, [], ◌∷◌, ◌++◌, if◌then◌else◌, unwrap_or}
use Rattle.std.specs.Char.{is_ascii_digit, is_ascii_lowercase}
use Rattle.std.specs.FinMap as map
use Rattle.std.specs.List.{list_all}
use Rattle.doc_index_tables.specs.Maps.{TextMap}
use Rattle.doc_words_search.specs.Words.{capped, folded, is_word_char}

-- one more of a word
abbrev pub one_more : TextMap ℕ → List ℕ → TextMap ℕ
one_more counts word = map.insert counts word (capped (unwrap_or (map.get counts word) 0 + 1))

-- one more of each word
abbrev pub counted : TextMap ℕ → List (List ℕ) → TextMap ℕ
counted counts [] = counts
counted counts (word ∷ words) = counted (one_more counts word) words

-- the word of a run, where that isn't empty
abbrev pub word_if : List ℕ → List (List ℕ)
word_if [] = []
word_if (c ∷ run) = folded (c ∷ run) ∷ []

-- the words of what follows a run, which may go on
abbrev pub words_after : List ℕ → List ℕ → List (List ℕ)
words_after run [] = word_if run
words_after run (c ∷ rest) = if is_word_char c then words_after (run ++ c ∷ []) rest else word_if run ++ words_after [] rest

-- of what the words are that stand in texts as they are
abbrev pub is_plain : ℕ → Bool
is_plain c = is_ascii_lowercase c || is_ascii_digit c

-- such a run is its word, where it isn't empty
abbrev pub own_word : List ℕ → List (List ℕ)
own_word [] = []
own_word (c ∷ run) = (c ∷ run) ∷ []

-- a run of ASCII
abbrev pub IsRun : List ℕ → Type 0
IsRun run = IsAscii run × (list_all is_word_char run ≡ true)
