-- Examples: what is read of texts with a front.
use Rattle.std.proofs.Common.{◌≡◌, ℕ, List, ◌∷◌, refl, true, false}
use Rattle.std.specs.Prelude.{codes, Some, None}
use Rattle.doc_rules.specs.Characters.{Text}
use Rattle.doc_front.specs.declared.rules.FrontMatter.TheVariants.{Keep, Skip, Title}
use Rattle.doc_front.specs.Titles.{simple_value}
use Rattle.doc_front.specs.Front.{front_of}
use Rattle.doc_front.proofs.Computing.{front_words}

-- the text without its front matter
abbrev skip : List ℕ → Text
skip text = front_of (record { skip_bom = false; front_matter = Skip }) text

-- the same with its title
abbrev title : List ℕ → Text
title text = front_of (record { skip_bom = false; front_matter = Title }) text

-- a bare title becomes a heading, with its punctuation escaped
bare :
    (skip (codes "---\ntitle: A & B\n---\nx\n") ≡ codes "x\n")
    × (title (codes "---\ntitle: A & B\n---\nx\n") ≡ codes "# A \\& B\n\nx\n")
unfolding front_words
bare = (refl, refl)

-- in single quotes, two of them are one
single :
    (skip (codes "---\ntags: [a]\ntitle: 'It''s'\n---\n\nx\n") ≡ codes "\nx\n")
    × (title (codes "---\ntags: [a]\ntitle: 'It''s'\n---\n\nx\n") ≡ codes "# It\\'s\n\n\nx\n")
unfolding front_words
single = (refl, refl)

-- a heading of level 1 stands already
heading :
    (skip (codes "---\ntitle: \"A: B\"\n---\n\n# A\n") ≡ codes "\n# A\n")
    × (title (codes "---\ntitle: \"A: B\"\n---\n\n# A\n") ≡ codes "\n# A\n")
unfolding front_words
heading = (refl, refl)

-- and so it does with an underline
underlined :
    (skip (codes "---\ntitle: \"A: B\"\n---\nT\n===\n") ≡ codes "T\n===\n")
    × (title (codes "---\ntitle: \"A: B\"\n---\nT\n===\n") ≡ codes "T\n===\n")
unfolding front_words
underlined = (refl, refl)

-- a title that is no simple value
not_simple :
    (skip (codes "---\ntitle: A: B\n---\nx\n") ≡ codes "x\n")
    × (title (codes "---\ntitle: A: B\n---\nx\n") ≡ codes "x\n")
unfolding front_words
not_simple = (refl, refl)

-- nothing stands between the lines
nothing_inside :
    (skip (codes "---\n---\nx") ≡ codes "x")
    × (title (codes "---\n---\nx") ≡ codes "x")
unfolding front_words
nothing_inside = (refl, refl)

-- a thematic break and an empty line
broken :
    (skip (codes "---\n\nx\n---\n") ≡ codes "---\n\nx\n---\n")
    × (title (codes "---\n\nx\n---\n") ≡ codes "---\n\nx\n---\n")
unfolding front_words
broken = (refl, refl)

-- a thematic break and a sentence
sentence :
    (skip (codes "---\nNo key here: x\n---\n") ≡ codes "---\nNo key here: x\n---\n")
    × (title (codes "---\nNo key here: x\n---\n") ≡ codes "---\nNo key here: x\n---\n")
unfolding front_words
sentence = (refl, refl)

-- no line ends it
endless :
    (skip (codes "---\ntitle: x\n") ≡ codes "---\ntitle: x\n")
    × (title (codes "---\ntitle: x\n") ≡ codes "---\ntitle: x\n")
unfolding front_words
endless = (refl, refl)

-- spaces and tabs stand at the ends of lines, which end in CR LF
spaced :
    (skip (codes "--- \t\r\n# c\r\ntitle:\t\"A\" \r\n---\t\r\n## B\r\n") ≡ codes "## B\r\n")
    × (title (codes "--- \t\r\n# c\r\ntitle:\t\"A\" \r\n---\t\r\n## B\r\n") ≡ codes "# A\n\n## B\r\n")
unfolding front_words
spaced = (refl, refl)

-- the first line with a title counts
first_title :
    (skip (codes "---\ntitle: [A]\ntitle: B\n---\nx") ≡ codes "x")
    × (title (codes "---\ntitle: [A]\ntitle: B\n---\nx") ≡ codes "x")
unfolding front_words
first_title = (refl, refl)

-- all behind it is blank
all_blank :
    (skip (codes "---\ntitle: A\n---\n \n") ≡ codes " \n")
    × (title (codes "---\ntitle: A\n---\n \n") ≡ codes "# A\n\n \n")
unfolding front_words
all_blank = (refl, refl)

-- what is a simple value, and what is none
values :
    (simple_value (codes "\"A, 'B'\"") ≡ Some (codes "A, 'B'"))
    × (simple_value (codes "\" A \"") ≡ Some (codes "A"))
    × (simple_value (codes "\"A\\n\"") ≡ None)
    × (simple_value (codes "\"A\" B") ≡ None)
    × (simple_value (codes "\"A") ≡ None)
    × (simple_value (codes "''") ≡ None)
    × (simple_value (codes "''''") ≡ Some (codes "'"))
    × (simple_value (codes "'A'B'") ≡ None)
    × (simple_value (codes "A:B#c") ≡ Some (codes "A:B#c"))
    × (simple_value (codes "A:") ≡ None)
    × (simple_value (codes "A #b") ≡ None)
    × (simple_value (codes "- A") ≡ None)
    × (simple_value (codes "A\tB") ≡ None)
    × (simple_value (codes "") ≡ None)
unfolding front_words
values = (refl, refl, refl, refl, refl, refl, refl, refl, refl, refl, refl, refl, refl, refl)

-- a byte order mark goes before front matter is looked for, or stays
marked :
    (front_of (record { skip_bom = true; front_matter = Skip }) (0xFEFF ∷ codes "---\n_a.b-1:\n---\nx") ≡ codes "x")
    × (front_of (record { skip_bom = true; front_matter = Keep }) (0xFEFF ∷ 0xFEFF ∷ codes "---") ≡ 0xFEFF ∷ codes "---")
    × (skip (0xFEFF ∷ codes "---\na:\n---\n") ≡ 0xFEFF ∷ codes "---\na:\n---\n")
unfolding front_words
marked = (refl, refl, refl)
