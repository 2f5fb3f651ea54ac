-- Which values the settings of the pages for people may have. All of this is this project's choice.
use Rattle.std.specs.Prelude.{ℕ, List, [], ◌∷◌, length, reverse, Bool, false, not, ◌&&◌, ◌==◌, nat_le}
use Rattle.std.specs.Char.{is_ascii_alphabetic, is_ascii_alphanumeric}
use Rattle.std.specs.List.{list_all, slice_split}
use Rattle.std.specs.Str.{chars}
use Rattle.doc_page_parts.specs.Lines.{begins_with}
use Rattle.doc_page_parts.specs.Paths.{is_control}
use Rattle.doc_people.specs.Limits.{title_limit, language_limit, subtag_limit}

-- the text's last byte is this one
abbrev pub ends_with : ℕ → List ℕ → Bool
ends_with b text = begins_with b (reverse text)

-- at least so many bytes, and at most so many
abbrev pub has_length : ℕ → ℕ → List ℕ → Bool
has_length least most text = nat_le least (length text) && nat_le (length text) most

-- a title of the site: 1 to 100 bytes, without control characters, and neither first nor last a space
unfoldable pub is_title : List ℕ → Bool
is_title text =
    has_length 1 title_limit text && list_all (λ c. not (is_control c)) (chars text)
    && not (begins_with 32 text) && not (ends_with 32 text)

-- the parts of a language tag, between its hyphens (BCP 47, section 2.1)
abbrev pub subtags : List ℕ → List (List ℕ)
subtags text = slice_split (λ b. b == 45) text

-- 1 to 8 letters or digits (BCP 47, section 2.1)
abbrev pub is_subtag : List ℕ → Bool
is_subtag part = has_length 1 subtag_limit part && list_all is_ascii_alphanumeric part

-- the first part is of letters alone, and of two at least
abbrev pub begins_with_letters : List (List ℕ) → Bool
begins_with_letters [] = false
begins_with_letters (first ∷ rest) = list_all is_ascii_alphabetic first && nat_le 2 (length first)

-- a language: 1 to 35 bytes of the form of a tag of BCP 47, which isn't looked up
unfoldable pub is_language : List ℕ → Bool
is_language text =
    has_length 1 language_limit text && list_all is_subtag (subtags text) && begins_with_letters (subtags text)
