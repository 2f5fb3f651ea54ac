-- The words of pages and of queries.
use Rattle.std.specs.Prelude.{ℕ, ◌^◌, ◌-◌, min, nat_lt, List, [], ◌∷◌, length, Bool, not, ◌||◌, if◌then◌else◌, Result, Ok, Err}
use Rattle.std.specs.Prelude.{bytes_eq, chars, count_by, encode_utf8_all, map as mapped}
use Rattle.std.specs.FinMap as map
use Rattle.std.specs.List.{filter, flat_map, slice_split}
use Rattle.caseless.specs.Caseless.{default_case_fold}
use Rattle.unicode.specs.GeneralCategory.{general_category}
use Rattle.unicode.specs.GeneralCategoryGroup.{in_group}
use Rattle.unicode.specs.declared.properties.GeneralCategoryGroup.TheVariants.{Letter, Mark, Number}
use Rattle.doc_index_tables.specs.Maps.{TextMap}
use Rattle.doc_page_parts.specs.Pages.{is_empty}
use Rattle.doc_page_parts.specs.declared.rendered.Rendered.{Rendered}
use Rattle.doc_words_search.specs.declared.query.QueryError.{QueryError}
use Rattle.doc_words_search.specs.declared.query.QueryError.TheVariants.{NoWords, TooManyWords}

-- the general categories L, M and N (the Unicode Standard, section 4.5); that these make words is this project's choice
abbrev pub is_word_char : ℕ → Bool
is_word_char c =
    in_group Letter (general_category c) || (in_group Mark (general_category c) || in_group Number (general_category c))

-- the longest runs of such characters: what stands between the others, where that isn't empty
abbrev pub runs : List ℕ → List (List ℕ)
runs characters = filter (λ run. not (is_empty run)) (slice_split (λ c. not (is_word_char c)) characters)

-- a run with its case folded (the Unicode Standard, section 3.13, toCasefold), as bytes
abbrev pub folded : List ℕ → List ℕ
folded run = encode_utf8_all (default_case_fold run)

-- the words of a text: its runs are cut first, and folded then; this project's choice
abbrev pub words_of : List ℕ → List (List ℕ)
words_of text = mapped folded (runs (chars text))

-- the words of a page are those of each of its texts
abbrev pub page_words : Rendered → List (List ℕ)
page_words page = flat_map words_of page.texts

-- a number past the last one of 64 bits counts as that one
abbrev pub capped : ℕ → ℕ
capped n = min n (2 ^ 64 - 1)

-- how often a word stands among words
abbrev pub count : List (List ℕ) → List ℕ → ℕ
count words word = capped (count_by (bytes_eq word) words)

-- each word with its count
abbrev pub counts_of : List (List ℕ) → TextMap ℕ
counts_of words = map.from_entries (mapped (λ word. (word, count words word)) words)

abbrev pub word_counts : Rendered → TextMap ℕ
word_counts page = counts_of (page_words page)

-- each word once, in the order of bytes
abbrev pub different : List (List ℕ) → List (List ℕ)
different words = map.keys (counts_of words)

-- a query has 1 to 16 different words; this project's choice
abbrev pub checked : List (List ℕ) → Result (List (List ℕ)) QueryError
checked [] = Err NoWords
checked (word ∷ words) = if nat_lt 16 (length (word ∷ words)) then Err TooManyWords else Ok (word ∷ words)

-- the words of a query, or why it has none
abbrev pub query_of : List ℕ → Result (List (List ℕ)) QueryError
query_of text = checked (different (words_of text))
