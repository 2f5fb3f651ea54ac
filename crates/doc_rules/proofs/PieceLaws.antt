-- Pieces are cut, and join to what was written.
use Rattle.std.proofs.Common.{◌≡◌, ℕ, Bool, true, false, map, sym, subst, List, [], ◌∷◌, ◌++◌, refl, ap, ◌∙◌}
use Rattle.std.specs.Prelude.{◌+◌, ◌/◌, ◌%◌, nat_lt, encode_utf8_all, option_map, if◌then◌else◌}
use Rattle.std.specs.Char.{encode_utf8}
use Rattle.doc_rules.specs.Characters.{Text}
use Rattle.doc_rules.specs.Blocks.{Document, document_of}
use Rattle.doc_page_parts.specs.declared.rendered.LinkSpot.{LinkSpot}
use Rattle.doc_page_parts.specs.declared.rendered.Piece.{Piece}
use Rattle.doc_page_parts.specs.declared.rendered.Piece.TheVariants.{Html, Link}
use Rattle.doc_rules.specs.Html.{Character, LinkTag, ImageNote, Output, output_of, Linker, written_text, link_tag}
use Rattle.doc_rules.specs.Pages.{PagePiece, HtmlPiece, LinkPiece, onto_html, pieces_of, document_anchors, document_page, page_of}
use Rattle.doc_rules.specs.Pages.{piece_text, filled, encoded_piece, encoded}
use Rattle.doc_page.specs.Laws as pages
use Rattle.doc_rules.specs.Laws.{IsCut, PiecesAreCut, RenderedIsCut, PiecesJoin}

onto_cut : (c : ℕ) (some : List PagePiece) → IsCut some → IsCut (onto_html c some)
unfolding onto_html
onto_cut c [] h = tt
onto_cut c (LinkPiece target ∷ more) h = h
onto_cut c (HtmlPiece [] ∷ more) h = absurd h
onto_cut c (HtmlPiece (d ∷ text) ∷ []) h = tt
onto_cut c (HtmlPiece (d ∷ text) ∷ LinkPiece target ∷ more) h = h
onto_cut c (HtmlPiece (d ∷ text) ∷ HtmlPiece other ∷ more) h = absurd h

pub pieces_are_cut : PiecesAreCut
unfolding pieces_of
pieces_are_cut [] = tt
pieces_are_cut (Character c ∷ more) = onto_cut c (pieces_of more) (pieces_are_cut more)
pieces_are_cut (LinkTag target ∷ more) = pieces_are_cut more
pieces_are_cut (ImageNote dest ∷ more) = pieces_are_cut more

onto_fills : (linker : Linker) (c : ℕ) (some : List PagePiece) → filled linker (onto_html c some) ≡ c ∷ filled linker some
unfolding onto_html filled piece_text
onto_fills linker c [] = refl
onto_fills linker c (HtmlPiece text ∷ more) = refl
onto_fills linker c (LinkPiece target ∷ more) = refl

pub pieces_join : PiecesJoin
unfolding pieces_of filled piece_text written_text
pieces_join linker [] = refl
pieces_join linker (Character c ∷ more) = onto_fills linker c (pieces_of more) ∙ ap (λ t. c ∷ t) (pieces_join linker more)
pieces_join linker (LinkTag target ∷ more) = ap (λ t. link_tag (linker target.dest) target.title ++ t) (pieces_join linker more)
pieces_join linker (ImageNote dest ∷ more) = pieces_join linker more

-- ---- in UTF-8

-- a character has a byte at least
pub record Starts (bytes : List ℕ) : Type 0 where
  pub first : ℕ
  pub rest : List ℕ
  pub is : bytes ≡ first ∷ rest

four_ways : (a b c : Bool) (w x y z : ℕ) (p q r s : List ℕ)
    → Starts (if a then w ∷ p else (if b then x ∷ q else (if c then y ∷ r else z ∷ s)))
four_ways true b c w x y z p q r s = record { first = w; rest = p; is = refl }
four_ways false true c w x y z p q r s = record { first = x; rest = q; is = refl }
four_ways false false true w x y z p q r s = record { first = y; rest = r; is = refl }
four_ways false false false w x y z p q r s = record { first = z; rest = s; is = refl }

has_a_byte : (c : ℕ) → Starts (encode_utf8 c)
unfolding encode_utf8
has_a_byte c =
    four_ways (nat_lt c 128) (nat_lt c 2048) (nat_lt c 65536) c (192 + c / 64) (224 + c / 4096) (240 + c / 262144) [] ((128 + c % 64) ∷ [])
    ((128 + (c / 64) % 64) ∷ (128 + c % 64) ∷ []) ((128 + (c / 4096) % 64) ∷ (128 + (c / 64) % 64) ∷ (128 + c % 64) ∷ [])

text_has_a_byte : (c : ℕ) (text : Text) → Starts (encode_utf8_all (c ∷ text))
text_has_a_byte c text =
    let s : Starts (encode_utf8 c) = has_a_byte c in
    record { first = s.first; rest = s.rest ++ encode_utf8_all text; is = ap (λ bytes. bytes ++ encode_utf8_all text) s.is }

at_end : (bytes : List ℕ) → Starts bytes → pages.IsCut (Html bytes ∷ [])
at_end bytes s = subst (λ bs. pages.IsCut (Html bs ∷ [])) (sym s.is) tt

before_link : (bytes : List ℕ) (spot : LinkSpot) (more : List Piece) → Starts bytes → pages.IsCut more
    → pages.IsCut (Html bytes ∷ Link spot ∷ more)
before_link bytes spot more s h = subst (λ bs. pages.IsCut (Html bs ∷ Link spot ∷ more)) (sym s.is) h

cut_in_bytes : (some : List PagePiece) → IsCut some → pages.IsCut (map encoded_piece some)
unfolding encoded_piece
cut_in_bytes [] h = tt
cut_in_bytes (LinkPiece target ∷ more) h = cut_in_bytes more h
cut_in_bytes (HtmlPiece [] ∷ more) h = absurd h
cut_in_bytes (HtmlPiece (c ∷ text) ∷ []) h = at_end (encode_utf8_all (c ∷ text)) (text_has_a_byte c text)
cut_in_bytes (HtmlPiece (c ∷ text) ∷ LinkPiece target ∷ more) h =
    before_link (encode_utf8_all (c ∷ text))
    (record { dest = encode_utf8_all target.dest; title = option_map encode_utf8_all target.title }) (map encoded_piece more)
    (text_has_a_byte c text) (cut_in_bytes more h)
cut_in_bytes (HtmlPiece (c ∷ text) ∷ HtmlPiece other ∷ more) h = absurd h

pub rendered_is_cut : RenderedIsCut
unfolding encoded page_of document_page
rendered_is_cut rules text =
    let document : Document = document_of rules text in
    let output : Output = output_of rules (document_anchors rules document) document in
    cut_in_bytes (pieces_of output) (pieces_are_cut output)
