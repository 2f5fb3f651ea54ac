-- How text is written in HTML.
use Rattle.std.specs.Prelude.{ℕ, List, ◌∷◌, [], ◌==◌, if◌then◌else◌, codes}
use Rattle.std.specs.List.{flat_map}

-- `&`, `<`, `>` and `"` are written as character references, and each other byte as it is (the HTML
-- of the examples of CommonMark 0.31.2)
abbrev pub escaped_byte : ℕ → List ℕ
escaped_byte b =
    if b == 38 then codes "&amp;"
    else (if b == 60 then codes "&lt;"
    else (if b == 62 then codes "&gt;"
    else (if b == 34 then codes "&quot;" else b ∷ [])))

-- the text, each byte written so
unfoldable pub escaped : List ℕ → List ℕ
escaped text = flat_map escaped_byte text
