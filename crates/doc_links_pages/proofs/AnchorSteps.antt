-- The anchors of headings, as they are gathered.
use Rattle.std.proofs.Common.{◌≡◌, ℕ, ◌+◌, ◌<◌, List, [], ◌∷◌, ◌++◌, Bool, true, false, cond, ◌||◌, get_or, length, take, refl, ap, sym, ◌∙◌}
use Rattle.std.specs.Prelude.{bytes_eq}
use Rattle.std.specs.BTreeSet.{BTreeSet, Updates, contains}
use Rattle.std.specs.Cmp.Lexicographic.{slice_cmp}
use Rattle.std.specs.Ordering.{nat_cmp}
use Rattle.std.proofs.lemmas.List.{take_more}
use Rattle.std.proofs.lemmas.List.Folds.{list_any-append}
use Rattle.std.proofs.lemmas.Map.Text.{is_eq-slice_cmp}
use Rattle.doc_page_parts.specs.declared.rendered.Heading.{Heading}
use Rattle.doc_links_pages.specs.KnownSteps.{HasAnchors}
use Rattle.doc_links_pages.specs.Links.{has_anchor}

-- one anchor more
pub anchor_added : (headings : List Heading) (i : ℕ) (heading : Heading) (key : List ℕ) (old new : BTreeSet (List ℕ)) → i < length headings
    → heading ≡ get_or headings i heading → key ≡ heading.anchor → HasAnchors (take i headings) old
    → Updates (slice_cmp nat_cmp) old new key true → HasAnchors (take (i + 1) headings) new
anchor_added headings i heading key old new lt is named has updates q =
    updates.0 q
    ∙ ap (λ b. cond b true (contains (slice_cmp nat_cmp) old q)) (is_eq-slice_cmp key q ∙ ap (λ k. bytes_eq k q) named)
    ∙ ap (cond (bytes_eq heading.anchor q) true) (has q)
    ∙ by (bytes_eq heading.anchor q) (has_anchor (take i headings) q)
    ∙ sym (ap (λ hs. has_anchor hs q) (take_more headings i heading lt ∙ ap (λ h. take i headings ++ h ∷ []) (sym is))
    ∙ list_any-append (λ h. bytes_eq h.anchor q) (take i headings) (heading ∷ []))
  where
    by : (b x : Bool) → cond b true x ≡ (x || (b || false))
    by true true = refl
    by true false = refl
    by false true = refl
    by false false = refl
