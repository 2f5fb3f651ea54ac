-- The lines of a text (CommonMark 0.31.2, section 2.1).
use Rattle.std.specs.Prelude.{ℕ, List, [], ◌∷◌, ◌-◌, length, take, drop, Bool, false, not, ◌&&◌, ◌||◌, ◌==◌, if◌then◌else◌}
use Rattle.std.specs.List.{list_all, onto_first, prefix_len, suffix_len}

-- the text's first byte is this one
abbrev pub begins_with : ℕ → List ℕ → Bool
begins_with b [] = false
begins_with b (c ∷ bs) = c == b

-- a line ends at a byte that is LF, or CR where no LF follows (section 2.1, "line ending")
abbrev pub ends_line : ℕ → List ℕ → Bool
ends_line b rest = b == 10 || (b == 13 && not (begins_with 10 rest))

-- each line up to and with its ending, and the last one also without one (section 2.1, "line")
unfoldable pub lines : List ℕ → List (List ℕ)
lines [] = []
lines (b ∷ bs) = if ends_line b bs then (b ∷ []) ∷ lines bs else onto_first b (lines bs)

-- the bytes of line endings (section 2.1)
abbrev pub is_ending : ℕ → Bool
is_ending b = b == 10 || b == 13

-- the line without its ending
unfoldable pub without_ending : List ℕ → List ℕ
without_ending line = take (length line - suffix_len is_ending line) line

-- a space or a tab
abbrev pub is_space_or_tab : ℕ → Bool
is_space_or_tab b = b == 32 || b == 9

-- nothing but spaces and tabs; of a line the ending is off (section 2.1, "blank line")
abbrev pub is_blank : List ℕ → Bool
is_blank text = list_all is_space_or_tab text

-- the text without spaces and tabs at both ends; of a blank line nothing is left (section 2.1,
-- "blank line")
unfoldable pub stripped : List ℕ → List ℕ
stripped text =
    let rest = drop (prefix_len is_space_or_tab text) text in
    take (length rest - suffix_len is_space_or_tab rest) rest
