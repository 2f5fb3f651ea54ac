-- What a writer of pages holds behind what is written.
use Rattle.std.proofs.Common.{◌≡◌, ℕ, Bool, true, false, List, [], ◌∷◌, ◌++◌, map, refl, ap, sym, ◌∙◌, subst}
use Rattle.std.specs.Prelude.{encode_utf8_all, Option, Some, option_map, codes}
use Rattle.std.specs.Char.{encode_utf8}
use Rattle.std.specs.Str.{chars, IsUtf8}
use Rattle.std.proofs.lemmas.List.{map-append}
use Rattle.std.proofs.lemmas.Str.{encodes-append, encodes-chars, chars_from_encodes}
use Rattle.doc_page_parts.specs.Escaping.{escaped}
use Rattle.doc_page.specs.Plain.{html_pieces}
use Rattle.doc_page_parts.specs.declared.linker.Shown.{Shown}
use Rattle.doc_page_parts.specs.declared.rendered.Heading.{Heading}
use Rattle.doc_page_parts.specs.declared.rendered.Piece.{Piece}
use Rattle.doc_page_parts.specs.declared.rendered.Piece.TheVariants.{Link}
use Rattle.doc_page_parts.specs.declared.rendered.Rendered.{Rendered}
use Rattle.doc_rules.specs.Anchors.{anchor_name, free_anchor}
use Rattle.doc_rules.specs.Characters.{Text}
use Rattle.doc_rules.specs.Destinations.{Target}
use Rattle.doc_rules.specs.Escaping.{html_escape}
use Rattle.doc_rules.specs.Html.{LinkTag, ImageNote, characters, is_fresh}
use Rattle.doc_rules.specs.Pages.{LinkPiece, pieces_of, encoded_piece, encoded_heading, encoded}
use Rattle.doc_rules.proofs.EscapingLaws.{escaping_is_by_bytes}
use Rattle.doc_html_anchors.specs.Uses.{Uses}
use Rattle.doc_html.specs.ProgressSteps.{Progress, begun, told, on_new_line, text_met, anchored, heading_met, heading_met_at}
use Rattle.doc_html.specs.WrittenSteps.{fresh_behind}
use Rattle.doc_html.specs.WrittenPageSteps.{HoldsPage, images_by, page_told}
use Rattle.doc_html.proofs.ImageSteps.{no_images, text_notes, tag_notes, images_stay}
use Rattle.doc_html.proofs.PieceSteps.{html_piece, split_begins, split_text, split_link, split_note, split_ends, encoded_end, encoded_link}
use Rattle.doc_html.proofs.WrittenSteps.{fresh_text, fresh_append, tag_last, note_last}

-- ---- texts

pub holds_text : (pieces : List Piece) (old new add : List ℕ) (fresh after : Bool) (anchors : List Text) (headings : List Heading)
    (texts : List (List ℕ)) (tells : Bool) (images : List (List ℕ)) (p : Progress) (x : Text) →
    HoldsPage pieces old fresh anchors headings texts tells images p → new ≡ old ++ add → add ≡ encode_utf8_all x
    → after ≡ is_fresh (p.output ++ characters x) →
    HoldsPage pieces new after anchors headings texts tells images (told (characters x) p)
holds_text pieces old new add fresh after anchors headings texts tells images p x h e f g = record {
  cut = h.cut;
  behind = h.behind ++ x;
  used = h.used;
  splits = split_text p.output h.cut h.behind x h.splits;
  pieces_are = h.pieces_are;
  html_is = e ∙ (ap (λ t. t ++ add) h.html_is ∙ (ap (λ t. encode_utf8_all h.behind ++ t) f ∙ sym (encodes-append h.behind x)));
  begins = g;
  named = h.named;
  uses = h.uses;
  headings_are = h.headings_are;
  texts_are = h.texts_are;
  telling = h.telling;
  images_are = images_stay tells images p.output (characters x) h.images_are (text_notes x);
}

pub bytes_are : (bytes : List ℕ) → IsUtf8 bytes → bytes ≡ encode_utf8_all (chars bytes)
bytes_are bytes u = sym (encodes-chars bytes u)

pub escapes_are : (bytes : List ℕ) → IsUtf8 bytes → escaped bytes ≡ encode_utf8_all (html_escape (chars bytes))
escapes_are bytes u = ap escaped (sym (encodes-chars bytes u)) ∙ sym (escaping_is_by_bytes (chars bytes))

-- ---- a new line

pub holds_line : (pieces : List Piece) (html : List ℕ) (fresh : Bool) (anchors : List Text) (headings : List Heading)
    (texts : List (List ℕ)) (tells : Bool) (images : List (List ℕ)) (p : Progress) →
    HoldsPage pieces html fresh anchors headings texts tells images p → fresh ≡ true
    → HoldsPage pieces html fresh anchors headings texts tells images (on_new_line p)
unfolding on_new_line
holds_line pieces html fresh anchors headings texts tells images p h e = at (is_fresh p.output) (sym h.begins ∙ e)
  where
    at : (b : Bool) → b ≡ true → HoldsPage pieces html fresh anchors headings texts tells images
        (elim b as (λ _. Progress) [ true ↦ p | false ↦ told (characters (codes "\n")) p ])
    at true f = h
    at false f = cc

pub holds_new_line : (pieces : List Piece) (old new : List ℕ) (fresh after : Bool) (anchors : List Text) (headings : List Heading)
    (texts : List (List ℕ)) (tells : Bool) (images : List (List ℕ)) (p : Progress) →
    HoldsPage pieces old fresh anchors headings texts tells images p → fresh ≡ false → new ≡ old ++ codes "\n" → after ≡ true →
    HoldsPage pieces new after anchors headings texts tells images (on_new_line p)
unfolding on_new_line fresh_behind encode_utf8
holds_new_line pieces old new fresh after anchors headings texts tells images p h e n t = at (is_fresh p.output) (sym h.begins ∙ e)
  where
    more : HoldsPage pieces new after anchors headings texts tells images (told (characters (codes "\n")) p)
    more = holds_text pieces old new (codes "\n") fresh after anchors headings texts tells images p (codes "\n") h n refl (t
        ∙ fresh_text p.output (codes "\n"))

    at : (b : Bool) → b ≡ false → HoldsPage pieces new after anchors headings texts tells images
        (elim b as (λ _. Progress) [ true ↦ p | false ↦ told (characters (codes "\n")) p ])
    at true f = cc
    at false f = more

-- ---- links

pub holds_link : (pieces cut_off new : List Piece) (old html : List ℕ) (fresh after : Bool) (anchors : List Text) (headings : List Heading)
    (texts : List (List ℕ)) (tells : Bool) (images : List (List ℕ)) (p : Progress) (link : Piece) (t : Target) →
    HoldsPage pieces old fresh anchors headings texts tells images p → cut_off ≡ pieces ++ html_pieces old → html ≡ []
    → new ≡ cut_off ++ link ∷ [] → link ≡ encoded_piece (LinkPiece t) → after ≡ false →
    HoldsPage new html after anchors headings texts tells images (told (LinkTag t ∷ []) p)
holds_link pieces cut_off new old html fresh after anchors headings texts tells images p link t h c e n l f = record {
  cut = h.cut ++ (html_piece h.behind ++ LinkPiece t ∷ []);
  behind = [];
  used = h.used;
  splits = split_link p.output h.cut h.behind t h.splits;
  pieces_are = encoded_link pieces cut_off new old h.cut h.behind link t h.pieces_are h.html_is c n l;
  html_is = e;
  begins = f ∙ tag_last p.output t;
  named = h.named;
  uses = h.uses;
  headings_are = h.headings_are;
  texts_are = h.texts_are;
  telling = h.telling;
  images_are = images_stay tells images p.output (LinkTag t ∷ []) h.images_are (tag_notes t);
}

-- ---- images

pub holds_image : (pieces : List Piece) (html : List ℕ) (fresh after : Bool) (anchors : List Text) (headings : List Heading)
    (texts : List (List ℕ)) (tells : Bool) (images more : List (List ℕ)) (p : Progress) (dest : Text) →
    HoldsPage pieces html fresh anchors headings texts tells images p → after ≡ false
    → more ≡ map encode_utf8_all (images_by tells (p.output ++ ImageNote dest ∷ [])) →
    HoldsPage pieces html after anchors headings texts tells more (told (ImageNote dest ∷ []) p)
holds_image pieces html fresh after anchors headings texts tells images more p dest h f m = record {
  cut = h.cut;
  behind = h.behind;
  used = h.used;
  splits = split_note p.output h.cut h.behind dest h.splits;
  pieces_are = h.pieces_are;
  html_is = h.html_is;
  begins = f ∙ note_last p.output dest;
  named = h.named;
  uses = h.uses;
  headings_are = h.headings_are;
  texts_are = h.texts_are;
  telling = h.telling;
  images_are = m;
}

pub same_bytes : (got text : List ℕ) → got ≡ text → IsUtf8 got → encode_utf8_all (chars text) ≡ text
same_bytes got text e u = ap (λ t. encode_utf8_all (chars t)) (sym e) ∙ (encodes-chars got u ∙ e)

pub spot_is : (target : Target) (dest : List ℕ) (title : Option (List ℕ)) → dest ≡ encode_utf8_all target.dest
    → title ≡ option_map encode_utf8_all target.title →
    Link (record { dest = dest; title = title }) ≡ encoded_piece (LinkPiece target)
unfolding encoded_piece
spot_is target dest title e f =
    ap (λ d. Link (record { dest = d; title = title })) e ∙ ap (λ t. Link (record { dest = encode_utf8_all target.dest; title = t })) f

-- ---- blocks' texts and headings

pub holds_met : (pieces : List Piece) (html : List ℕ) (fresh : Bool) (anchors : List Text) (headings : List Heading)
    (texts more : List (List ℕ)) (tells : Bool) (images : List (List ℕ)) (p : Progress) (x : Text) (text : List ℕ) →
    HoldsPage pieces html fresh anchors headings texts tells images p → text ≡ encode_utf8_all x → more ≡ texts ++ text ∷ []
    → HoldsPage pieces html fresh anchors headings more tells images (text_met x p)
unfolding text_met
holds_met pieces html fresh anchors headings texts more tells images p x text h e f = record {
  cut = h.cut;
  behind = h.behind;
  used = h.used;
  splits = h.splits;
  pieces_are = h.pieces_are;
  html_is = h.html_is;
  begins = h.begins;
  named = h.named;
  uses = h.uses;
  headings_are = h.headings_are;
  texts_are = f ∙ (ap (λ t. t ++ text ∷ []) h.texts_are ∙ (ap (λ t. map encode_utf8_all p.texts ++ t ∷ []) e
      ∙ sym (map-append encode_utf8_all p.texts (x ∷ []))));
  telling = h.telling;
  images_are = h.images_are;
}

-- the next anchor of a heading whose text is this one
abbrev pub IsNext : List Text → List Text → List ℕ → List ℕ → Type 0
IsNext old new text anchor = (used : List Text) → Uses old used → (chars anchor ≡ free_anchor used (anchor_name (chars text)))
    × Uses new (free_anchor used (anchor_name (chars text)) ∷ used)

module _ (pieces : List Piece) (html : List ℕ) (fresh : Bool) (anchors : List Text) (headings : List Heading) (texts : List (List ℕ))
    (tells : Bool) (images : List (List ℕ)) (p : Progress)
    (h : HoldsPage pieces html fresh anchors headings texts tells images p) (level : ℕ) (x : Text) where
  abbrev name : Text
  name = free_anchor h.used (anchor_name x)

  abbrev id : Text
  id = codes " id=\"" ++ html_escape name ++ codes "\""

  id_bytes : (anchor : List ℕ) → IsUtf8 anchor → chars anchor ≡ name → codes " id=\"" ++ escaped anchor ++ codes "\"" ≡ encode_utf8_all id
  unfolding encode_utf8
  id_bytes anchor u e =
      ap (λ t. codes " id=\"" ++ t ++ codes "\"") (escapes_are anchor u ∙ ap (λ t. encode_utf8_all (html_escape t)) e)
      ∙ sym (encodes-append (codes " id=\"" ++ html_escape name) (codes "\"")
      ∙ ap (λ t. t ++ codes "\"") (encodes-append (codes " id=\"") (html_escape name)))

  id_ends : false ≡ is_fresh (p.output ++ characters id)
  unfolding fresh_behind
  id_ends = sym (fresh_append (is_fresh p.output) (codes " id=\"" ++ html_escape name) (codes "\"")) ∙ fresh_text p.output id

  pub holds_heading : (new : List ℕ) (after : Bool) (more_anchors : List Text) (more_headings : List Heading) (more_texts : List (List ℕ))
      (text copy got anchor written kept : List ℕ) →
      text ≡ encode_utf8_all x → copy ≡ text → got ≡ text → IsUtf8 got → IsNext anchors more_anchors got anchor → written ≡ anchor
      → IsUtf8 written → kept ≡ anchor →
      new ≡ html ++ (codes " id=\"" ++ escaped written ++ codes "\"") → after ≡ false
      → more_headings ≡ headings ++ record { level = level; anchor = kept; text = copy } ∷ [] → more_texts ≡ texts ++ text ∷ [] →
      HoldsPage pieces new after more_anchors more_headings more_texts tells images (heading_met level x p)
  unfolding heading_met_at anchored encoded_heading
  holds_heading new after more_anchors more_headings more_texts text copy got anchor written kept e c g u next w v k n f hs ts =
      let same : x ≡ chars got = chars_from_encodes x got u (sym (g ∙ e)) in
      let is : chars anchor ≡ name = (next h.used h.uses).0 ∙ ap (λ t. free_anchor h.used (anchor_name t)) (sym same) in
      let written_is : chars written ≡ name = ap chars w ∙ is in
      let anchor_bytes : anchor ≡ encode_utf8_all name = sym w ∙ (bytes_are written v ∙ ap encode_utf8_all written_is) in
      subst (λ used. HoldsPage pieces new after more_anchors more_headings more_texts tells images (heading_met_at used level x p))
      (sym h.named)
      (record {
        cut = h.cut;
        behind = h.behind ++ id;
        used = name ∷ h.used;
        splits = split_text p.output h.cut h.behind id h.splits;
        pieces_are = h.pieces_are;
        html_is = n ∙ (ap (λ t. html ++ t) (id_bytes written v written_is)
            ∙ (ap (λ t. t ++ encode_utf8_all id) h.html_is ∙ sym (encodes-append h.behind id)));
        begins = f ∙ id_ends;
        named = refl;
        uses = subst (λ t. Uses more_anchors (free_anchor h.used (anchor_name t) ∷ h.used)) (sym same) (next h.used h.uses).1;
        headings_are = hs ∙ (ap (λ t. t ++ record { level = level; anchor = kept; text = copy } ∷ []) h.headings_are
            ∙ (ap (λ a. map encoded_heading p.headings ++ record { level = level; anchor = a; text = copy } ∷ []) (k ∙ anchor_bytes)
            ∙ (ap (λ t. map encoded_heading p.headings ++ record { level = level; anchor = encode_utf8_all name; text = t } ∷ []) (c ∙ e)
            ∙ sym (map-append encoded_heading p.headings (record { level = level; anchor = name; text = x } ∷ [])))));
        texts_are = ts ∙ (ap (λ t. t ++ text ∷ []) h.texts_are
            ∙ (ap (λ t. map encode_utf8_all p.texts ++ t ∷ []) e ∙ sym (map-append encode_utf8_all p.texts (x ∷ []))));
        telling = h.telling;
        images_are = images_stay tells images p.output (characters id) h.images_are (text_notes id);
      })

-- ---- the first and the last

pub holds_nothing : (pieces : List Piece) (html : List ℕ) (anchors : List Text) (headings : List Heading) (texts : List (List ℕ))
    (tells : Bool) (images : List (List ℕ)) (shown : List ℕ → Shown) → pieces ≡ [] → html ≡ [] → Uses anchors [] → headings ≡ []
    → texts ≡ [] → images ≡ [] →
    HoldsPage pieces html true anchors headings texts tells images (begun shown tells (Some []))
unfolding is_fresh
holds_nothing pieces html anchors headings texts tells images shown e f g k l i = record {
  cut = [];
  behind = [];
  used = [];
  splits = split_begins;
  pieces_are = e;
  html_is = f;
  begins = refl;
  named = refl;
  uses = g;
  headings_are = k;
  texts_are = l;
  telling = refl;
  images_are = i ∙ no_images tells;
}

abbrev made : List Piece → List Heading → List (List ℕ) → List (List ℕ) → Rendered
made pieces headings texts images = record { pieces = pieces; headings = headings; texts = texts; images = images }

pub page_made : (pieces all : List Piece) (html : List ℕ) (fresh : Bool) (anchors : List Text) (headings : List Heading)
    (texts : List (List ℕ)) (tells : Bool) (images : List (List ℕ)) (p : Progress) (some_pieces : List Piece)
    (some_headings : List Heading) (some_texts some_images : List (List ℕ)) →
    HoldsPage pieces html fresh anchors headings texts tells images p → all ≡ pieces ++ html_pieces html → some_pieces ≡ all
    → some_headings ≡ headings → some_texts ≡ texts → some_images ≡ images →
    record { pieces = some_pieces; headings = some_headings; texts = some_texts; images = some_images } ≡ page_told p
unfolding encoded
page_made pieces all html fresh anchors headings texts tells images p some_pieces some_headings some_texts some_images h e f g k i =
    let pieces_all : some_pieces ≡ map encoded_piece (pieces_of p.output)
    = f ∙ (encoded_end pieces all html h.cut h.behind h.pieces_are h.html_is e
    ∙ ap (map encoded_piece) (sym (split_ends p.output h.cut h.behind h.splits))) in
    ap (λ ps. made ps some_headings some_texts some_images) pieces_all
    ∙ (ap (λ hs. made (map encoded_piece (pieces_of p.output)) hs some_texts some_images) (g ∙ h.headings_are)
    ∙ (ap (λ ts. made (map encoded_piece (pieces_of p.output)) (map encoded_heading p.headings) ts some_images) (k ∙ h.texts_are)
    ∙ ap (made (map encoded_piece (pieces_of p.output)) (map encoded_heading p.headings) (map encode_utf8_all p.texts))
    (i ∙ (h.images_are ∙ ap (λ b. map encode_utf8_all (images_by b p.output)) h.telling))))
