-- The numbers of a page, told one after another.
use Rattle.std.proofs.Common.{◌≡◌, ◌<◌, ◌+◌, ℕ, List, [], ◌∷◌, ◌++◌, Bool, true, false, cond, length, get_or, take, is_some, true≢false, refl, ap, sym, subst, ◌∙◌}
use Rattle.std.specs.Prelude.{Some}
use Rattle.std.specs.FinMap as map
use Rattle.std.specs.Ordering.{nat_cmp}
use Rattle.std.proofs.lemmas.Cmp.{nat_cmp_total}
use Rattle.std.proofs.lemmas.List.{take_more}
use Rattle.doc_index_tables.specs.Maps.{NumberMap}
use Rattle.doc_index_tables.specs.TableSteps.{same_number}
use Rattle.doc_index_tables.proofs.CountSteps.{number_is}
use Rattle.doc_page_parts.specs.declared.rendered.Heading.{Heading}
use Rattle.doc_resolve.specs.declared.link_kind.LinkKind.{LinkKind}
use Rattle.doc_links_pages.specs.declared.page_links.PageLinks.{PageLinks}
use Rattle.doc_links_names.specs.Names.{Keeps, NameTable, number_of, uses}
use Rattle.doc_links_names.specs.PageNumbers.{AreLinkNumbers, IsAnchorNumber, IsLinkNumber, IsNumbered}
use Rattle.doc_links_names.specs.declared.page_numbers.PageNumbers.{PageNumbers}
use Rattle.doc_links_names.proofs.Laws.{links_kept, number_kept}
use Rattle.doc_links_names.proofs.TextSteps.{anchor_there}
use Rattle.doc_links_names.proofs.Uses.{keeps_then}

module _ (names : NameTable) (slot : ℕ) where
  pushed : (links : List LinkKind) (pairs : List (ℕ × ℕ)) (link : LinkKind) (pair : ℕ × ℕ) → AreLinkNumbers names slot links pairs
      → IsLinkNumber names slot link pair → AreLinkNumbers names slot (links ++ link ∷ []) (pairs ++ pair ∷ [])
  pushed [] [] link pair all one = (one, tt)
  pushed [] (x ∷ pairs) link pair all one = absurd all
  pushed (x ∷ links) [] link pair all one = absurd all
  pushed (x ∷ links) (y ∷ pairs) link pair all one = (all.0, pushed links pairs link pair all.1 one)

-- the pair of one more link
pub one_more : (old new : NameTable) (slot : ℕ) (links : List LinkKind) (pairs more : List (ℕ × ℕ)) (i : ℕ) (link : LinkKind)
    (pair : ℕ × ℕ) → i < length links → link ≡ get_or links i link → more ≡ pairs ++ pair ∷ [] → Keeps old new
    → AreLinkNumbers old slot (take i links) pairs → IsLinkNumber new slot link pair → AreLinkNumbers new slot (take (i + 1) links) more
one_more old new slot links pairs more i link pair within is made keeps all one =
    subst (λ ps. AreLinkNumbers new slot (take (i + 1) links) ps) (sym made)
    (subst (λ ls. AreLinkNumbers new slot ls (pairs ++ pair ∷ []))
    (ap (λ l. take i links ++ l ∷ []) is ∙ sym (take_more links i link within))
    (pushed new slot (take i links) pairs link pair
    (links_kept old new slot (λ t. keeps t slot) (take i links) pairs all) one))

-- no numbers of anchors
pub no_anchors : (names : NameTable) (slot : ℕ) (headings : List Heading) (numbers : NumberMap ℕ) → numbers ≡ map.empty → (n : ℕ)
    → map.contains_key numbers n ≡ true → IsAnchorNumber names slot headings n
no_anchors names slot headings numbers none n has =
    absurd (true≢false (sym has ∙ ap (λ m. map.contains_key m n) none ∙ ap is_some (map.get-empty nat_cmp n)))

-- the number of one more anchor
module _ (old new : NameTable) (slot : ℕ) (headings : List Heading) (numbers after : NumberMap ℕ) (i : ℕ) (heading : Heading)
    (text : List ℕ) (number : ℕ) (within : i < length headings) (is : heading ≡ get_or headings i heading) (shown : text ≡ heading.anchor)
    (keeps : Keeps old new) (used : uses new text slot ≡ true) (known : number_of new text ≡ Some number)
    (made : after ≡ map.insert numbers number 0)
    (told : (n : ℕ) → map.contains_key numbers n ≡ true → IsAnchorNumber old slot headings n) where
  pub one_more_anchor : (n : ℕ) → map.contains_key after n ≡ true → IsAnchorNumber new slot headings n
  one_more_anchor n has =
      by (same_number n number) refl
      (sym (ap is_some (map.get-insert nat_cmp_total numbers number 0 n)) ∙ ap (λ m. map.contains_key m n) (sym made) ∙ has)
    where
      by : (b : Bool) → same_number n number ≡ b → is_some (cond b (Some 0) (map.get numbers n)) ≡ true
          → IsAnchorNumber new slot headings n
      by true e has = (text, anchor_there headings i heading text within is shown, used, known ∙ ap Some (sym (number_is n number e)))
      by false e has =
          let was = told n has in
          let kept = number_kept old new slot (λ t. keeps t slot) was.0 n (was.2, was.3) in
          (was.0, was.1, kept.0, kept.1)

-- all numbers of a page, the last of which are told by the names at the end
pub numbered : (first second third : NameTable) (slot : ℕ) (path text : List ℕ) (page : PageLinks) (links : List LinkKind)
    (headings : List Heading) (numbers : PageNumbers) → text ≡ path → uses first text slot ≡ true → number_of first text ≡ Some numbers.own
    → Keeps first second → links ≡ page.links → AreLinkNumbers second slot links numbers.links → Keeps second third
    → headings ≡ page.headings → ((n : ℕ) → map.contains_key numbers.anchors n ≡ true → IsAnchorNumber third slot headings n)
    → IsNumbered third slot path page numbers
numbered first second third slot path text page links headings numbers shown used known keeps of_links told keeps_more of_headings anchors =
    record {
      own = number_kept first third slot (λ t. keeps_then first second third keeps keeps_more t slot) path numbers.own
          (ap (λ t. uses first t slot) (sym shown) ∙ used, ap (number_of first) (sym shown) ∙ known);
      links = links_kept second third slot (λ t. keeps_more t slot) page.links numbers.links
          (subst (λ ls. AreLinkNumbers second slot ls numbers.links) of_links told);
      anchors = λ n has. subst (λ hs. IsAnchorNumber third slot hs n) of_headings (anchors n has);
    }
