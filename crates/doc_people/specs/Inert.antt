-- How the HTML of a page is kept from beginning forms and frames, and from leaving a tag open. All of this is this project's choice.
use Rattle.std.specs.Prelude.{ℕ, List, [], ◌∷◌, ◌++◌, Bool, true, false, ◌||◌, ◌&&◌, ◌==◌, codes, if◌then◌else◌}
use Rattle.std.specs.Char.{eq_ignore_ascii_case}
use Rattle.std.specs.List.{list_any}

-- the text begins with the word, in any case of ASCII letters
abbrev pub begins_in_any_case : List ℕ → List ℕ → Bool
begins_in_any_case [] text = true
begins_in_any_case (w ∷ word) [] = false
begins_in_any_case (w ∷ word) (b ∷ rest) = eq_ignore_ascii_case b w && begins_in_any_case word rest

-- the tag of a form or of a frame begins
abbrev pub begins_form_or_frame : List ℕ → Bool
begins_form_or_frame text = begins_in_any_case (codes "<form") text || begins_in_any_case (codes "<iframe") text

-- the text with `&lt;` for each `<` that begins such a tag
unfoldable pub disarmed : List ℕ → List ℕ
disarmed [] = []
disarmed (b ∷ rest) = (if begins_form_or_frame (b ∷ rest) then codes "&lt;" else b ∷ []) ++ disarmed rest

-- a line that ends a tag which is left open, in either kind of quotes
abbrev pub ending_line : List ℕ
ending_line = codes "<!--'\"-->\n"

-- the HTML has a `'`
abbrev pub has_apostrophe : List ℕ → Bool
has_apostrophe html = list_any (λ b. b == 39) html

-- the HTML begins no form and no frame, and where it has a `'`, that line stands behind it
abbrev pub inert : List ℕ → List ℕ
inert html = disarmed html ++ (if has_apostrophe html then ending_line else [])
