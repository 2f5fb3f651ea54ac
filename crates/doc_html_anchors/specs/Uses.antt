-- The anchors that a page has used.
use Rattle.std.specs.Prelude.{◌≡◌, List}
use Rattle.doc_rules.specs.Characters.{Text}
use Rattle.doc_rules.specs.Anchors.{is_used, free_anchor}

-- the anchors that are kept are those that are used, in some order
abbrev pub Uses : List Text → List Text → Type 0
Uses kept used = (name : Text) → is_used used name ≡ is_used kept name

-- the anchor is the one that a heading of this name gets where those that are kept are used
abbrev pub IsAnchor : List Text → Text → Text → Type 0
IsAnchor kept name anchor = (used : List Text) → Uses kept used → anchor ≡ free_anchor used name
