-- Examples: the tags of a quote with a paragraph, and of an open list with one item (CommonMark 0.31.2, sections 5.1 and 5.2).
use Rattle.std.proofs.Common.{◌≡◌, [], ◌∷◌, true, refl}
use Rattle.std.specs.Prelude.{None, codes}
use Rattle.doc_rules.specs.Forests.{none, ◌▹◌, node}
use Rattle.doc_rules.specs.Blocks.{Paragraph, ThematicBreak, BlockQuote, ListBlock, ListItem}
use Rattle.doc_blocks_starts.specs.Tags.{OneLeaf, Start, End, tags_of}
use Rattle.doc_blocks_starts.specs.OpenTags.{read, read_on, read_one, open_tags}

-- `> a`, and a thematic break
quoted : tags_of (node none BlockQuote (none ▹ Paragraph (codes "a")) ▹ ThematicBreak)
    ≡ Start BlockQuote ∷ OneLeaf (Paragraph (codes "a")) ∷ End BlockQuote ∷ OneLeaf ThematicBreak ∷ []
unfolding tags_of
quoted = refl

-- `- a`, and the list may go on
listed : read (Start (ListBlock None true) ∷ Start ListItem ∷ OneLeaf (Paragraph (codes "a")) ∷ End ListItem ∷ [])
    ≡ ((ListBlock None true, none) ∷ [], node none ListItem (none ▹ Paragraph (codes "a")))
unfolding read_on read_one
listed = refl

going_on : open_tags ((ListBlock None true, none) ∷ []) (node none ListItem (none ▹ Paragraph (codes "a")))
    ≡ Start (ListBlock None true) ∷ Start ListItem ∷ OneLeaf (Paragraph (codes "a")) ∷ End ListItem ∷ []
unfolding open_tags tags_of
going_on = refl
