-- Tasks among tags (GitHub Flavored Markdown 0.29, section 5.3): a paragraph right behind the start of its item may be one.
use Rattle.std.specs.Prelude.{ℕ, Bool, true, false, ◌&&◌, ◌==◌, List, [], ◌∷◌, Option, Some, None, chars}
use denote.Ref.{Bor}
use Rattle.doc_rules.specs.Characters.{Text, is_space_or_tab}
use Rattle.doc_rules.specs.Rules.{Rules}
use Rattle.doc_rules.specs.Blocks.{ListItem, first_leaf}
use Rattle.doc_blocks_starts.specs.Tags.{Tag, OneLeaf, Start}
use Rattle.doc_blocks.specs.declared.tasks.Marked.{Marked}

-- what a marker says, and the text behind it
abbrev pub marked_of : Option Marked → Option (Bool × Text)
marked_of None = None
marked_of (Some marked) = Some (marked.done, chars marked.text.now)

-- a character, and the text behind it
abbrev pub pair_of : Option (ℕ × Bor (List ℕ)) → Option (ℕ × Text)
pair_of None = None
pair_of (Some found) = Some (found.0, chars found.1.now)

-- the character in the brackets at the front of a text, and the text behind them and a space or a tab
unfoldable pub bracketed : Text → Option (ℕ × Text)
bracketed (a ∷ b ∷ c ∷ d ∷ rest) = elim ((a == 91) && (c == 93) && is_space_or_tab d) [ true ↦ Some (b, rest) | false ↦ None ]
bracketed text = None

-- a container of this tag starts an item
abbrev pub starts_item : Tag → Bool
starts_item (Start ListItem) = true
starts_item tag = false

-- a tag behind the start of an item or not
abbrev pub tag_read : (first : Bool) → Tag → Tag
tag_read true (OneLeaf leaf) = OneLeaf (first_leaf leaf)
tag_read first tag = tag

-- tags with the tasks among them
unfoldable pub tags_read : (first : Bool) → List Tag → List Tag
tags_read first [] = []
tags_read first (tag ∷ more) = tag_read first tag ∷ tags_read (starts_item tag) more

-- the same where tasks are read
abbrev pub tasks_among : Rules → List Tag → List Tag
tasks_among rules tags = elim rules.tasks [ true ↦ tags_read false tags | false ↦ tags ]
