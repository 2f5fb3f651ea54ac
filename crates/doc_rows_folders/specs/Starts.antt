-- Where to look for what stands in a folder: the text from which paths on have keys that don't come before a text. This project's choice.
use Rattle.std.specs.Prelude.{ℕ, List, [], ◌∷◌, ◌++◌, length, drop, Bool, false, ◌||◌, Option, Some, None, if◌then◌else◌}
use Rattle.doc_page_parts.specs.Pages.{is_empty}
use Rattle.doc_people.specs.Folders.{is_below, is_slash, key}
use Rattle.doc_people.specs.Navigation.{is_before}

-- of what follows the folder: a text that goes on behind a slash leaves all behind that begins with what stands up to there
abbrev pub start_in : List ℕ → List ℕ
start_in [] = []
start_in (b ∷ rest) = if is_slash b then (if is_empty rest then b ∷ [] else 48 ∷ []) else b ∷ start_in rest

-- of a text that begins with the folder
abbrev pub start_below : List ℕ → List ℕ → List ℕ
start_below folder text = folder ++ start_in (drop (length folder) text)

-- the next text of the same length: behind all that begins with a folder
abbrev pub end_of : List ℕ → List ℕ
end_of [] = []
end_of (b ∷ rest) = if is_empty rest then 48 ∷ [] else b ∷ end_of rest

-- of a text that doesn't begin with the folder, the text itself stands for one behind it
abbrev pub first_start : List ℕ → List ℕ → List ℕ
first_start folder text =
    if is_below folder text then start_below folder text else (if is_before text folder then folder else text)

-- and the folder's end
abbrev pub last_start : List ℕ → List ℕ → List ℕ
last_start folder text =
    if is_below folder text then start_below folder text else (if is_before text folder then folder else end_of folder)

-- what the folder shows of a path that was found
abbrev pub key_found : List ℕ → Option (List ℕ) → Option (List ℕ)
key_found folder None = None
key_found folder (Some path) = if is_below folder path then Some (key folder path) else None

-- what follows the folder in a text that begins with it
abbrev pub rest_below : List ℕ → List ℕ → Option (List ℕ)
rest_below folder text = if is_below folder text then Some (drop (length folder) text) else None

-- the last byte is a slash
abbrev pub ends_in_slash : List ℕ → Bool
ends_in_slash [] = false
ends_in_slash (b ∷ rest) = if is_empty rest then is_slash b else ends_in_slash rest

-- the empty folder, or a text that ends in a slash
abbrev pub is_whole : List ℕ → Bool
is_whole folder = is_empty folder || ends_in_slash folder
