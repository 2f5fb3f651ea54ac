-- The texts of a page, one after another.
use Rattle.std.proofs.Common.{◌≡◌, ◌<◌, ◌+◌, ℕ, List, Bool, true, false, length, get_or, take, true≢false, refl, ap, sym, ◌∙◌}
use Rattle.std.specs.Prelude.{◌||◌, bytes_eq}
use Rattle.std.proofs.lemmas.List.Folds.{list_any_at, list_any_more}
use Rattle.doc_page_parts.specs.declared.rendered.Heading.{Heading}
use Rattle.doc_page_parts.proofs.Texts.{bytes_eq_itself, bytes_eq_true}
use Rattle.doc_resolve.specs.declared.link_kind.LinkKind.{LinkKind}
use Rattle.doc_links_pages.specs.Links.{has_anchor}
use Rattle.doc_links_names.specs.Names.{AddsNothing, NameTable, uses}
use Rattle.doc_links_names.specs.PageNumbers.{is_written, writes_text}

-- what a link writes is written by these links
pub writes_one : (links : List LinkKind) (i : ℕ) (link : LinkKind) → i < length links → link ≡ get_or links i link → (t : List ℕ)
    → writes_text t link ≡ true → is_written links t ≡ true
writes_one links i link within is t writes = list_any_at (writes_text t) links i link within (ap (writes_text t) (sym is) ∙ writes)

-- a slot doesn't use what it didn't, where nothing is added
stays_gone : (old new : NameTable) (slot : ℕ) (t : List ℕ) → AddsNothing old new → uses old t slot ≡ false → uses new t slot ≡ false
stays_gone old new slot t fewer gone = by (uses new t slot) refl
  where
    by : (b : Bool) → uses new t slot ≡ b → b ≡ false
    by true e = absurd (true≢false (sym (fewer t slot e) ∙ gone))
    by false e = refl

module _ (headings : List Heading) (i : ℕ) (heading : Heading) (text : List ℕ) (within : i < length headings)
    (is : heading ≡ get_or headings i heading) (shown : text ≡ heading.anchor) where
  -- the anchor of a heading is one of theirs
  pub anchor_there : has_anchor headings text ≡ true
  anchor_there =
      ap (has_anchor headings) shown
      ∙ list_any_at (λ (h : Heading). bytes_eq h.anchor heading.anchor) headings i heading within
      (ap (λ (h : Heading). bytes_eq h.anchor heading.anchor) (sym is) ∙ bytes_eq_itself heading.anchor)

  pub anchor_of_them : (t : List ℕ) → bytes_eq text t ≡ true → has_anchor headings t ≡ true
  anchor_of_them t same = ap (has_anchor headings) (sym (bytes_eq_true text t same)) ∙ anchor_there

  -- the anchor of one more heading is gone
  pub anchor_gone : (old new : NameTable) (slot : ℕ) → AddsNothing old new → uses new text slot ≡ false
      → ((t : List ℕ) → has_anchor (take i headings) t ≡ true → uses old t slot ≡ false)
      → (t : List ℕ) → has_anchor (take (i + 1) headings) t ≡ true → uses new t slot ≡ false
  anchor_gone old new slot fewer gone so_far t has =
      by (has_anchor (take i headings) t) refl
      (sym (list_any_more (λ (h : Heading). bytes_eq h.anchor t) headings i heading within) ∙ has)
    where
      by : (b : Bool) → has_anchor (take i headings) t ≡ b → (b || bytes_eq (get_or headings i heading).anchor t) ≡ true
          → uses new t slot ≡ false
      by true e either = stays_gone old new slot t fewer (so_far t e)
      by false e either =
          ap (λ u. uses new u slot)
          (sym (bytes_eq_true (get_or headings i heading).anchor t either)
          ∙ ap (λ (h : Heading). h.anchor) (sym is) ∙ sym shown)
          ∙ gone
