-- Copies of headings.
use Rattle.std.proofs.Common.{◌≡◌, ℕ, List, ap₂}
use Rattle.doc_page_parts.specs.declared.rendered.Heading.{Heading}

abbrev pub heading_of : ℕ → List ℕ → List ℕ → Heading
heading_of level anchor text = record { level = level; anchor = anchor; text = text }

pub copied : (heading : Heading) (anchor text : List ℕ) → anchor ≡ heading.anchor → text ≡ heading.text
    → heading_of heading.level anchor text ≡ heading
copied heading anchor text same_anchor same_text = ap₂ (heading_of heading.level) same_anchor same_text
