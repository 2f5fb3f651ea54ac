-- Addresses that are links without '<' and '>' (GitHub Flavored Markdown 0.29, section 6.9), but for those of mail. How a host is read,
-- and what goes from the end of an address, is one rule everywhere (this project's choice).
use Rattle.std.specs.Prelude.{ℕ, zero, suc, ◌-◌, nat_lt, nat_le, Bool, true, false, not, ◌&&◌, ◌||◌, ◌==◌, [], ◌∷◌, ◌++◌}
use Rattle.std.specs.Prelude.{filter, length, reverse, Option, Some, None, codes}
use Rattle.std.specs.Char.{is_ascii_alphabetic, is_ascii_alphanumeric}
use Rattle.doc_rules.specs.Characters.{Text, one_of, is_white, first_or, strip_end}
use Rattle.doc_rules.specs.Parsers.{Parser, is, word, word_in_any_case, ◌then◌, ◌or◌, some}

-- ---- hosts

-- a letter, a digit, '.', '-', '_', or a character past ASCII that is no white space
unfoldable pub is_host_char : ℕ → Bool
is_host_char c = is_ascii_alphanumeric c || (one_of (codes ".-_") c || (nat_le 128 c && not (is_white c)))

-- the longest run of such characters at the front of a text
unfoldable pub host_run : Text → Text
host_run [] = []
host_run (c ∷ rest) = elim (is_host_char c) [ true ↦ c ∷ host_run rest | false ↦ [] ]

-- a text up to the n-th '.' in it, or to its end
unfoldable pub dotted : ℕ → Text → Text
dotted zero text = []
dotted (suc n) [] = []
dotted (suc n) (c ∷ rest) = elim (c == 46) [ true ↦ dotted n rest | false ↦ c ∷ dotted (suc n) rest ]

-- not empty, and no '_' in the last two of the parts between its '.'
unfoldable pub is_host : Text → Bool
is_host host = nat_lt 0 (length host) && not (one_of (dotted 2 (reverse host)) 95)

-- a run of at most 253 characters, which is a host but for '.' and '_' at its end
unfoldable pub holds_host : Text → Bool
holds_host run = nat_le (length run) 253 && is_host (strip_end (one_of (codes "._")) run)

-- ---- the end of an address, whose characters stand here with the last one first

-- how often a character stands in a text
abbrev pub count_of : ℕ → Text → ℕ
count_of c text = length (filter (λ d. d == c) text)

-- how many characters '&' and letters are, where they stand before a ';'
unfoldable pub reference_before : Text → ℕ
reference_before before_it = elim ((some is_ascii_alphabetic then is 38) before_it) [
  | Some more ↦ length before_it - length more
  | None ↦ 0
]

-- the last character of an address is none of it, and how many before it aren't either: punctuation, a ';' with the reference that it
-- ends, or a ')' where more of them than of '(' stand in the address
unfoldable pub end_goes : ℕ → Text → Option ℕ
end_goes c before_it =
    elim (one_of (codes "?!.,:*_~'\"") c) [
      | true ↦ Some 0
      | false ↦ elim (c == 59) [
        | true ↦ Some (reference_before before_it)
        | false ↦ elim ((c == 41) && nat_lt (count_of 40 before_it) (suc (count_of 41 before_it))) [ true ↦ Some 0 | false ↦ None ]
      ]
    ]

-- an address without what goes from its end; of the last ones the first n go in any case
unfoldable pub without_end : ℕ → Text → Text
without_end n [] = []
without_end (suc n) (c ∷ before_it) = without_end n before_it
without_end zero (c ∷ before_it) = elim (end_goes c before_it) [ Some n ↦ without_end n before_it | None ↦ c ∷ before_it ]

-- ---- addresses

-- an address goes on to white space or '<'
unfoldable pub address_run : Text → Text
address_run [] = []
address_run (c ∷ rest) = elim (is_white c || (c == 60)) [ true ↦ [] | false ↦ c ∷ address_run rest ]

-- the address at the front of a text
unfoldable pub address_of : Text → Text
address_of text = reverse (without_end 0 (reverse (address_run text)))

-- what stands before the host of an address with a scheme
unfoldable pub web_scheme : Parser
web_scheme = word_in_any_case (codes "http://") or word_in_any_case (codes "https://") or word_in_any_case (codes "ftp://")

-- a host begins here with a character that is none of these
abbrev pub begins_host : Text → Text → Bool
begins_host others text = is_host_char (first_or 32 text) && not (one_of others (first_or 32 text)) && holds_host (host_run text)

-- 'www.' may stand behind this character
abbrev pub is_www_place : ℕ → Bool
is_www_place last = is_white last || one_of (codes "*_~(") last

-- the host that 'www.' begins goes on behind it
unfoldable pub is_www : Text → Bool
is_www text = elim (word (codes "www.") text) [
  | None ↦ false
  | Some rest ↦ is_host_char (first_or 46 rest) && (not (first_or 46 rest == 46) && holds_host (host_run text))
]

-- a host stands behind a scheme
unfoldable pub is_web : Text → Bool
is_web text = elim (web_scheme text) [ None ↦ false | Some rest ↦ begins_host (codes ".-_") rest ]

-- the destination and the source of the bare link at the front of a text, behind this character
unfoldable pub bare_address : ℕ → Text → Option (Text × Text)
bare_address last text =
    elim (is_www_place last && is_www text) [
      | true ↦ Some (codes "http://" ++ address_of text, address_of text)
      | false ↦ elim (not (is_ascii_alphabetic last) && is_web text) [ true ↦ Some (address_of text, address_of text) | false ↦ None ]
    ]
