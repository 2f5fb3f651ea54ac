-- What a hit shows of its page: a piece of one of the page's texts, with the words that terms meet marked. All of this is this project's
-- choice.
use Rattle.std.specs.Prelude.{ℕ, ◌+◌, ◌-◌, List, [], ◌∷◌, ◌++◌, length, take, drop, filter, Bool, false, not, ◌&&◌, nat_lt, nat_le, bytes_eq}
use Rattle.std.specs.Prelude.{chars, codes, count_by, encode_utf8_all, Option, Some, None, option_map, slice_range, unwrap_or, if◌then◌else◌}
use Rattle.std.specs.List.{best_of, flat_map, list_any, position_or_len, suffix_len}
use Rattle.doc_page_parts.specs.Escaping.{escaped}
use Rattle.doc_page_parts.specs.Pages.{is_empty}
use Rattle.doc_page_parts.specs.declared.rendered.Rendered.{Rendered}
use Rattle.doc_rules.specs.Characters.{is_white}
use Rattle.doc_words_search.specs.Words.{folded, is_word_char}
use Rattle.doc_people.specs.Folders.{ellipsis, first_text, title_by}
use Rattle.doc_people.specs.Limits.{lead_limit, read_limit, snippet_limit}
use Rattle.doc_people.specs.Terms.{meets, meets_in}
use Rattle.doc_people.specs.declared.term.Term.{Term}

-- ---- which text

-- texts, up to the first with which their bytes are more than so many
abbrev pub within : ℕ → List (List ℕ) → List (List ℕ)
within room [] = []
within room (text ∷ rest) = if nat_le (length text) room then text ∷ within (room - length text) rest else []

-- the texts of a page that are read, without those that are empty and those that are its title
abbrev pub texts_read : List ℕ → Rendered → List (List ℕ)
texts_read title page = filter (λ text. not (is_empty text) && not (bytes_eq text title)) (within read_limit page.texts)

-- how many of the terms meet a word of a text
abbrev pub met_in : List Term → List ℕ → ℕ
met_in terms text = count_by (meets_in text) terms

-- the first text that most terms meet
abbrev pub best_text : List Term → List (List ℕ) → List ℕ
best_text terms [] = []
best_text terms (text ∷ rest) = best_of (λ new best. nat_lt (met_in terms best) (met_in terms new)) text rest

-- ---- its words

-- a run of characters, where it isn't empty
abbrev pub run_if : List ℕ → List (List ℕ)
run_if [] = []
run_if (c ∷ run) = (c ∷ run) ∷ []

-- the parts of characters behind those of a run, which may go on
abbrev pub parts_behind : List ℕ → List ℕ → List (List ℕ)
parts_behind run [] = run_if run
parts_behind run (c ∷ rest) =
    if is_word_char c then parts_behind (run ++ c ∷ []) rest else run_if run ++ (c ∷ []) ∷ parts_behind [] rest

-- the parts of characters: the longest runs of letters, marks and numbers, and each other character
unfoldable pub parts : List ℕ → List (List ℕ)
parts characters = parts_behind [] characters

-- a part is such a run
abbrev pub is_run : List ℕ → Bool
is_run [] = false
is_run (c ∷ part) = is_word_char c

-- a part is a word that a term meets
abbrev pub is_met : List Term → List ℕ → Bool
is_met terms part = is_run part && list_any (λ term. meets term (folded part)) terms

-- where the first of these parts that a term meets begins
abbrev pub met_at : List Term → List (List ℕ) → Option ℕ
met_at terms [] = None
met_at terms (part ∷ rest) = if is_met terms part then Some 0 else option_map (λ n. length part + n) (met_at terms rest)

-- where the first word that a term meets begins, in characters; at the start where there is none
abbrev pub match_at : List Term → List ℕ → ℕ
match_at terms characters = unwrap_or (met_at terms (parts characters)) 0

-- ---- the piece

-- where it begins: at most so many characters before the match, and there behind the first white space, or else at the match
abbrev pub start_before : ℕ → List ℕ → ℕ
start_before at characters =
    if nat_le at lead_limit then 0
    else at - lead_limit + position_or_len is_white (take lead_limit (drop (at - lead_limit - 1) characters))

-- of the characters behind the first one of the piece: where the last white space among them stands, or else where they end
abbrev pub end_among : ℕ → List ℕ → ℕ
end_among start following =
    if list_any is_white following then start + snippet_limit - suffix_len (λ c. not (is_white c)) following else start + snippet_limit

-- where it ends: where the text does, or else before the last white space
abbrev pub end_after : ℕ → List ℕ → ℕ
end_after start characters =
    if nat_le (length characters) (start + snippet_limit) then length characters
    else end_among start (take snippet_limit (drop (start + 1) characters))

-- a part as it is written
abbrev pub written_part : List Term → List ℕ → List ℕ
written_part terms part =
    if is_met terms part then codes "<mark>" ++ escaped (encode_utf8_all part) ++ codes "</mark>" else escaped (encode_utf8_all part)

-- the characters from one place to another, and whether something is left out at each end
abbrev pub piece : List Term → List ℕ → ℕ → ℕ → List ℕ
piece terms characters start end =
    (if nat_lt 0 start then ellipsis else [])
    ++ flat_map (written_part terms) (parts (slice_range characters start end))
    ++ (if nat_lt end (length characters) then ellipsis else [])

-- the same from a place on
abbrev pub piece_from : List Term → List ℕ → ℕ → List ℕ
piece_from terms characters start = piece terms characters start (end_after start characters)

-- the snippet of a text
unfoldable pub snippet_of : List Term → List ℕ → List ℕ
snippet_of terms characters = piece_from terms characters (start_before (match_at terms characters) characters)

-- the snippet of a page
abbrev pub snippet : List Term → List ℕ × Rendered → List ℕ
snippet terms page = snippet_of terms (chars (best_text terms (texts_read (title_by page.0 (first_text page.1.headings)) page.1)))
