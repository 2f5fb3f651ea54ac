-- Pieces behind what is written.
use Rattle.std.proofs.Common.{◌≡◌, ℕ, ◌<◌, List, [], ◌∷◌, ◌++◌, map, length, refl, ap, sym, ◌∙◌, append_assoc, append-nil, arith}
use Rattle.std.specs.Prelude.{encode_utf8_all}
use Rattle.std.proofs.lemmas.List.{map-append}
use Rattle.std.proofs.lemmas.Str.{length-le-encodes}
use Rattle.doc_page.specs.Plain.{html_pieces}
use Rattle.doc_page_parts.specs.declared.rendered.Piece.{Piece}
use Rattle.doc_page_parts.specs.declared.rendered.Piece.TheVariants.{Html}
use Rattle.doc_rules.specs.Characters.{Text}
use Rattle.doc_rules.specs.Destinations.{Target}
use Rattle.doc_rules.specs.Html.{LinkTag, ImageNote, Output, characters}
use Rattle.doc_rules.specs.Pages.{PagePiece, HtmlPiece, LinkPiece, onto_html, pieces_of, encoded_piece}
use Rattle.doc_html.specs.WrittenPageSteps.{IsSplit}
use Rattle.doc_html.proofs.WriterSteps.{characters_append}

-- a text as a piece, where it isn't empty
pub html_piece : Text → List PagePiece
html_piece [] = []
html_piece (c ∷ text) = HtmlPiece (c ∷ text) ∷ []

-- ---- a text behind pieces

onto_link : (c : ℕ) (rest : Text) (t : Target) (more : List PagePiece)
    → onto_html c (html_piece rest ++ LinkPiece t ∷ more) ≡ html_piece (c ∷ rest) ++ LinkPiece t ∷ more
unfolding onto_html html_piece
onto_link c [] t more = refl
onto_link c (d ∷ rest) t more = refl

before_link : (text : Text) (t : Target) (more : Output)
    → pieces_of (characters text ++ LinkTag t ∷ more) ≡ html_piece text ++ LinkPiece t ∷ pieces_of more
unfolding characters pieces_of html_piece
before_link [] t more = refl
before_link (c ∷ rest) t more = ap (onto_html c) (before_link rest t more) ∙ onto_link c rest t (pieces_of more)

onto_end : (c : ℕ) (rest : Text) → onto_html c (html_piece rest) ≡ html_piece (c ∷ rest)
unfolding onto_html html_piece
onto_end c [] = refl
onto_end c (d ∷ rest) = refl

at_end : (text : Text) → pieces_of (characters text) ≡ html_piece text
unfolding characters pieces_of html_piece
at_end [] = refl
at_end (c ∷ rest) = ap (onto_html c) (at_end rest) ∙ onto_end c rest

-- a note is in no piece
beside_note : (text dest : Text) (more : Output)
    → pieces_of (characters text ++ ImageNote dest ∷ more) ≡ pieces_of (characters text ++ more)
unfolding characters pieces_of
beside_note [] dest more = refl
beside_note (c ∷ rest) dest more = ap (onto_html c) (beside_note rest dest more)

-- ---- more is written

pub split_begins : IsSplit [] [] []
unfolding characters
split_begins more = refl

pub split_text : (output : Output) (cut : List PagePiece) (behind x : Text) → IsSplit output cut behind
    → IsSplit (output ++ characters x) cut (behind ++ x)
split_text output cut behind x h more =
    ap pieces_of (append_assoc output (characters x) more)
    ∙ (h (characters x ++ more)
    ∙ ap (λ o. cut ++ pieces_of o) (sym (append_assoc (characters behind) (characters x) more)
    ∙ ap (λ o. o ++ more) (sym (characters_append behind x))))

link_behind : (cut html : List PagePiece) (link : PagePiece) (more : List PagePiece)
    → cut ++ (html ++ link ∷ more) ≡ (cut ++ (html ++ link ∷ [])) ++ more
link_behind cut html link more = simp append_assoc

pub split_link : (output : Output) (cut : List PagePiece) (behind : Text) (t : Target) → IsSplit output cut behind →
    IsSplit (output ++ LinkTag t ∷ []) (cut ++ (html_piece behind ++ LinkPiece t ∷ [])) []
unfolding characters
split_link output cut behind t h more =
    ap pieces_of (append_assoc output (LinkTag t ∷ []) more)
    ∙ (h (LinkTag t ∷ more) ∙ (ap (λ o. cut ++ o) (before_link behind t more)
    ∙ link_behind cut (html_piece behind) (LinkPiece t) (pieces_of more)))

pub split_note : (output : Output) (cut : List PagePiece) (behind dest : Text) → IsSplit output cut behind
    → IsSplit (output ++ ImageNote dest ∷ []) cut behind
split_note output cut behind dest h more =
    ap pieces_of (append_assoc output (ImageNote dest ∷ []) more)
    ∙ (h (ImageNote dest ∷ more) ∙ ap (λ o. cut ++ o) (beside_note behind dest more))

pub split_ends : (output : Output) (cut : List PagePiece) (behind : Text) → IsSplit output cut behind
    → pieces_of output ≡ cut ++ html_piece behind
split_ends output cut behind h =
    ap pieces_of (sym (append-nil output)) ∙ (h [] ∙ ap (λ o. cut ++ o) (ap pieces_of (append-nil (characters behind)) ∙ at_end behind))

-- ---- in UTF-8

some_bytes : (bytes : List ℕ) → 0 < length bytes → Html bytes ∷ [] ≡ html_pieces bytes
some_bytes [] h = absurd (omega arith)
some_bytes (b ∷ bytes) h = refl

some_text : (c : ℕ) (text : Text) → 0 < length (encode_utf8_all (c ∷ text))
some_text c text = let h : _ = length-le-encodes (c ∷ text) in omega (arith, h)

encoded_html : (text : Text) → map encoded_piece (html_piece text) ≡ html_pieces (encode_utf8_all text)
unfolding html_piece encoded_piece
encoded_html [] = refl
encoded_html (c ∷ text) = some_bytes (encode_utf8_all (c ∷ text)) (some_text c text)

pub encoded_end : (pieces all : List Piece) (html : List ℕ) (cut : List PagePiece) (behind : Text) → pieces ≡ map encoded_piece cut
    → html ≡ encode_utf8_all behind →
    all ≡ pieces ++ html_pieces html → all ≡ map encoded_piece (cut ++ html_piece behind)
encoded_end pieces all html cut behind e f g =
    g ∙ (ap (λ p. p ++ html_pieces html) e
    ∙ (ap (λ h. map encoded_piece cut ++ html_pieces h) f
    ∙ (ap (λ p. map encoded_piece cut ++ p) (sym (encoded_html behind)) ∙ sym (map-append encoded_piece cut (html_piece behind)))))

pub encoded_link : (pieces cut_off new : List Piece) (html : List ℕ) (cut : List PagePiece) (behind : Text) (link : Piece) (t : Target)
    → pieces ≡ map encoded_piece cut → html ≡ encode_utf8_all behind →
    cut_off ≡ pieces ++ html_pieces html → new ≡ cut_off ++ link ∷ [] → link ≡ encoded_piece (LinkPiece t) →
    new ≡ map encoded_piece (cut ++ (html_piece behind ++ LinkPiece t ∷ []))
encoded_link pieces cut_off new html cut behind link t e f g n l =
    n ∙ (ap (λ p. p ++ link ∷ []) (encoded_end pieces cut_off html cut behind e f g)
    ∙ (ap (λ p. map encoded_piece (cut ++ html_piece behind) ++ p ∷ []) l
    ∙ (sym (map-append encoded_piece (cut ++ html_piece behind) (LinkPiece t ∷ []))
    ∙ ap (map encoded_piece) (append_assoc cut (html_piece behind) (LinkPiece t ∷ [])))))
