-- What is known by numbers stays, as long as the names keep it.
use Rattle.std.proofs.Common.{◌≡◌, ℕ, List, [], ◌∷◌, ◌∙◌, inl, inr}
use Rattle.std.specs.Prelude.{◌≢◌, Option, Some, None}
use Rattle.doc_resolve.specs.declared.link_kind.LinkKind.{LinkKind}
use Rattle.doc_resolve.specs.declared.link_kind.LinkKind.TheVariants.{External, Page, Nowhere}
use Rattle.doc_links_pages.specs.declared.page_links.PageLinks.{PageLinks}
use Rattle.doc_links_names.specs.Names.{AreApart, Keeps, KeepsOthers, KeepsUse, NameTable, number_of}
use Rattle.doc_links_names.specs.PageNumbers.{AreLinkNumbers, IsAnchorPart, IsLinkNumber, IsNumberOf, IsNumbered}
use Rattle.doc_links_names.specs.declared.page_numbers.PageNumbers.{PageNumbers}

-- what a slot uses stays
module _ (old new : NameTable) (slot : ℕ) (keeps : (t : List ℕ) → KeepsUse old new t slot) where
  pub number_kept : (text : List ℕ) (n : ℕ) → IsNumberOf old slot text n → IsNumberOf new slot text n
  number_kept text n is = let kept = keeps text is.0 in (kept.0, kept.1 ∙ is.1)

  pub anchor_kept : (anchor : Option (List ℕ)) (part : ℕ) → IsAnchorPart old slot anchor part → IsAnchorPart new slot anchor part
  anchor_kept None part is = is
  anchor_kept (Some anchor) part is = (is.0, is.1, number_kept anchor is.0 is.2)

  link_kept : (link : LinkKind) (pair : ℕ × ℕ) → IsLinkNumber old slot link pair → IsLinkNumber new slot link pair
  link_kept External pair is = is
  link_kept (Page path anchor) pair (inl none) = inl none
  link_kept (Page path anchor) pair (inr is) = inr (is.0, is.1, number_kept path is.0 is.2, anchor_kept anchor pair.1 is.3)
  link_kept Nowhere pair is = is

  pub links_kept : (links : List LinkKind) (pairs : List (ℕ × ℕ)) → AreLinkNumbers old slot links pairs
      → AreLinkNumbers new slot links pairs
  links_kept [] [] are = are
  links_kept [] (pair ∷ pairs) are = absurd are
  links_kept (link ∷ links) [] are = absurd are
  links_kept (link ∷ links) (pair ∷ pairs) are = (link_kept link pair are.0, links_kept links pairs are.1)

  numbered_by : (path : List ℕ) (page : PageLinks) (numbers : PageNumbers) → IsNumbered old slot path page numbers
      → IsNumbered new slot path page numbers
  numbered_by path page numbers is = record {
    own = number_kept path numbers.own is.own;
    links = links_kept page.links numbers.links is.links;
    anchors = λ n has.
        let was = is.anchors n has in
        let kept = number_kept was.0 n (was.2, was.3) in
        (was.0, was.1, kept.0, kept.1);
  }

-- the numbers of a page are its numbers still, where what slots use stays
pub numbered_kept : (old new : NameTable) (slot : ℕ) (path : List ℕ) (page : PageLinks) (numbers : PageNumbers)
    → Keeps old new → IsNumbered old slot path page numbers → IsNumbered new slot path page numbers
numbered_kept old new slot path page numbers keeps is = numbered_by old new slot (λ t. keeps t slot) path page numbers is

-- and where what other slots than another use stays
pub numbered_kept_others : (old new : NameTable) (slot other : ℕ) (path : List ℕ) (page : PageLinks) (numbers : PageNumbers)
    → slot ≢ other → KeepsOthers other old new → IsNumbered old slot path page numbers → IsNumbered new slot path page numbers
numbered_kept_others old new slot other path page numbers apart keeps is =
    numbered_by old new slot (λ t. keeps t slot apart) path page numbers is

-- texts of one number are the same
pub same_text : (names : NameTable) (s t : List ℕ) (n : ℕ) → AreApart names → number_of names s ≡ Some n → number_of names t ≡ Some n
    → s ≡ t
same_text names s t n apart first second = apart s t n first second
