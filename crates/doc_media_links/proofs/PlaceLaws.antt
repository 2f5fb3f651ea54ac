-- Pages none of whose links names a place in a medium that is seen, and where their links lead.
use Rattle.std.proofs.Common.{◌≡◌, ℕ, false, true, List, [], ◌∷◌, ◌++◌, Option, Some, None, refl, ap, sym, ◌∙◌}
use Rattle.std.specs.Prelude.{Bool, codes, drop, is_some, option_map}
use Rattle.std.specs.List.{flat_map}
use Rattle.doc_media.specs.Media.{Beside, goal_beside, medium_in}
use Rattle.doc_media_links.proofs.FillingLaws.{neither, nor}
use Rattle.doc_media_links.specs.Laws.{PagesWithoutPlaces}
use Rattle.doc_media_links.specs.MediaLinks.{any_names, fragment_of, names_place, sees_medium, shown_as_medium}
use Rattle.doc_media_links.specs.MediaLinks.{shown_medium, shown_or_medium}
use Rattle.doc_page_encoding.specs.Encoding.{encoded_path}
use Rattle.doc_page_parts.specs.Pages.{filled, filled_piece, opening_tag}
use Rattle.doc_page_parts.specs.declared.linker.Shown.TheVariants.{Href, Missing}
use Rattle.doc_page_parts.specs.declared.rendered.Piece.{Piece}
use Rattle.doc_page_parts.specs.declared.rendered.Piece.TheVariants.{Html, Link}
use Rattle.doc_resolve.specs.Hrefs.{shown, shown_by, shown_page}
use Rattle.doc_resolve.specs.Links.{anchor_of, base_of, classify, kind_by, kind_on, kinds, kinds_in, page_or_nowhere}
use Rattle.doc_resolve.specs.References.{Uri, reference}
use Rattle.doc_resolve.specs.Resolution.{resolve, resolve_by}
use Rattle.doc_resolve.specs.WrittenPaths.{path_written}
use Rattle.doc_resolve.specs.declared.link_kind.LinkKind.{LinkKind}
use Rattle.doc_resolve.specs.declared.link_kind.LinkKind.TheVariants.{External, Page, Nowhere}

-- ---- where a path leads

abbrev pub goal_by : List ℕ → Option (List ℕ) → Bool → Option (List ℕ)
goal_by path (Some goal) sees = Some goal
goal_by path None true = Some path
goal_by path None false = None

goal_is : (goals : List ℕ → Option (List ℕ)) (media : Beside) (path : List ℕ)
    → goal_by path (goals path) (sees_medium media path) ≡ goal_beside goals media path
goal_is goals media path = by (goals path) (medium_in media path)
  where
    by : {X : Type 0} (goal : Option (List ℕ)) (medium : Option X) → goal_by path goal (is_some medium)
        ≡ elim goal [ Some goal ↦ Some goal | None ↦ option_map (λ _. path) medium ]
    by (Some goal) medium = refl
    by None (Some medium) = refl
    by None None = refl

pub goal_of_page : (goals : List ℕ → Option (List ℕ)) (media : Beside) (path goal : List ℕ) → Some goal ≡ goals path
    → Some goal ≡ goal_beside goals media path
goal_of_page goals media path goal is =
    ap (λ found. goal_by path found (sees_medium media path)) is ∙ goal_is goals media path

pub goal_of_medium : (goals : List ℕ → Option (List ℕ)) (media : Beside) (path : List ℕ) (sees : Bool) → None ≡ goals path
    → sees ≡ sees_medium media path → goal_by path None sees ≡ goal_beside goals media path
goal_of_medium goals media path sees none is =
    ap (goal_by path None) is ∙ ap (λ found. goal_by path found (sees_medium media path)) none ∙ goal_is goals media path

-- ---- how it is shown

no_fragment : (fragment : Option (List ℕ)) → anchor_of fragment ≡ None → fragment_of fragment ≡ []
no_fragment None none = refl
no_fragment (Some []) none = refl
no_fragment (Some (b ∷ text)) none = absurd (cc)

own_anchor : (written : Option (List ℕ)) (path : List ℕ) (anchor found : Option (List ℕ))
    → page_or_nowhere written found ≡ Page path anchor → found ≡ anchor
own_anchor None path anchor found is = absurd (cc)
own_anchor (Some p) path anchor found is = cc

-- what is resolved keeps its fragment
same_fragment : (base r : Uri) (scheme authority : Option (List ℕ)) → (resolve_by base r scheme authority).fragment ≡ r.fragment
same_fragment base r (Some scheme) authority = refl
same_fragment base r None (Some authority) = refl
same_fragment base r None None = refl

-- a link to a path has the anchor that its fragment names
kind_anchor : (base r : Uri) (scheme authority : Option (List ℕ)) (path : List ℕ) (anchor : Option (List ℕ))
    → kind_by base r scheme authority ≡ Page path anchor → anchor_of r.fragment ≡ anchor
unfolding resolve
kind_anchor base r (Some scheme) authority path anchor is = absurd (cc)
kind_anchor base r None (Some authority) path anchor is = absurd (cc)
kind_anchor base r None None path anchor is =
    sym (ap anchor_of (same_fragment base r r.scheme r.authority))
    ∙ own_anchor (path_written (drop 1 (resolve base r).path)) path anchor (anchor_of (resolve base r).fragment) is

-- and where it has no anchor, no fragment is written
unwritten : (page dest path : List ℕ) → classify page dest ≡ Page path None → fragment_of (reference dest).fragment ≡ []
unfolding kind_on
unwritten page dest path is =
    let r = reference dest in no_fragment r.fragment (kind_anchor (base_of page) r r.scheme r.authority path None is)

module _ (goals : List ℕ → Option (List ℕ)) (media : Beside) (page dest : List ℕ) where
  to_medium : {X : Type 0} (path : List ℕ) (medium : Option X) → fragment_of (reference dest).fragment ≡ []
      → shown_medium (is_some medium) path dest ≡ shown_page (option_map (λ _. path) medium) None
  to_medium path None none = refl
  to_medium path (Some medium) none = ap (λ text. Href (codes "/page/" ++ encoded_path path ++ text)) none

  to_path : (path : List ℕ) (anchor : Option (List ℕ)) (goal : Option (List ℕ)) → classify page dest ≡ Page path anchor
      → names_place media (Page path anchor) ≡ false
      → shown_or_medium media page dest (shown_page goal anchor)
      ≡ shown_page (elim goal [ Some goal ↦ Some goal | None ↦ option_map (λ _. path) (medium_in media path) ]) anchor
  to_path path anchor (Some goal) is none = refl
  to_path path None None is none =
      ap (shown_as_medium media dest) is ∙ to_medium path (medium_in media path) (unwritten page dest path is)
  to_path path (Some anchor) None is none =
      ap (shown_as_medium media dest) is ∙ ap (λ sees. shown_medium sees path dest) none
      ∙ unseen (medium_in media path) none
    where
      unseen : {X : Type 0} (medium : Option X) → is_some medium ≡ false
          → Missing ≡ shown_page (option_map (λ _. path) medium) (Some anchor)
      unseen None none = refl
      unseen (Some medium) none = absurd (cc)

  to_kind : (kind : LinkKind) → classify page dest ≡ kind → names_place media kind ≡ false
      → shown_or_medium media page dest (shown_by goals dest kind) ≡ shown_by (goal_beside goals media) dest kind
  to_kind External is none = refl
  to_kind (Page path anchor) is none = to_path path anchor (goals path) is none
  to_kind Nowhere is none = ap (shown_as_medium media dest) is

same_filled : (goals : List ℕ → Option (List ℕ)) (media : Beside) (page : List ℕ) (pieces : List Piece)
    → any_names media (flat_map (kinds_in (base_of page)) pieces) ≡ false
    → flat_map (filled_piece (λ dest. shown_or_medium media page dest (shown goals page dest))) pieces
    ≡ flat_map (filled_piece (shown (goal_beside goals media) page)) pieces
same_filled goals media page [] none = refl
same_filled goals media page (Html text ∷ pieces) none = ap (λ rest. text ++ rest) (same_filled goals media page pieces none)
same_filled goals media page (Link spot ∷ pieces) none =
    let kind = kind_on (base_of page) spot.dest in
    let first = neither (names_place media kind) _ none in
    let rest = nor (names_place media kind) _ none in
    ap (λ how. opening_tag spot.title how
    ++ flat_map (filled_piece (λ dest. shown_or_medium media page dest (shown goals page dest))) pieces)
    (to_kind goals media page spot.dest kind refl first)
    ∙ ap (λ more. opening_tag spot.title (shown (goal_beside goals media) page spot.dest) ++ more)
    (same_filled goals media page pieces rest)

-- without media each path leads where it does among pages
among_pages : (goals : List ℕ → Option (List ℕ)) → goals ≡ goal_beside goals None
among_pages goals i path = sym (sym (by (goals path))) i
  where
    by : (goal : Option (List ℕ)) → goal ≡ elim goal [ Some goal ↦ Some goal | None ↦ None ]
    by (Some goal) = refl
    by None = refl

pub pages_without_places : PagesWithoutPlaces
unfolding filled kinds
pages_without_places goals None page rendered none = ap (λ gs. filled (shown gs page) rendered) (among_pages goals)
pages_without_places goals (Some held) page rendered none = same_filled goals (Some held) page rendered.pieces none
