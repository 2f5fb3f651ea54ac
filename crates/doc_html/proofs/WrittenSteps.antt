-- What a buffer of HTML holds behind what is written.
use Rattle.std.proofs.Common.{◌≡◌, ℕ, inl, inr, Bool, true, false, List, [], ◌∷◌, ◌++◌, map, refl, ap, sym, ◌∙◌, subst, append_assoc}
use Rattle.std.proofs.Common.{append-nil}
use Rattle.std.specs.Prelude.{◌==◌, flat_map, encode_utf8_all, Option, Some, None, option_map, codes}
use Rattle.std.specs.Char.{encode_utf8}
use Rattle.std.specs.Str.{chars, IsUtf8}
use Rattle.std.proofs.lemmas.Bool.{ne_eqb, cases_eq}
use Rattle.std.proofs.lemmas.List.Concat.{flat_map-append}
use Rattle.std.proofs.lemmas.Str.{encodes-chars}
use Rattle.doc_page_parts.specs.declared.linker.Shown.{Shown}
use Rattle.doc_page_parts.specs.Escaping.{escaped}
use Rattle.doc_page_parts.specs.Pages.{opening_tag}
use Rattle.doc_rules.specs.Characters.{Text}
use Rattle.doc_rules.specs.Destinations.{Target}
use Rattle.doc_rules.specs.Escaping.{escaped_char, html_escape}
use Rattle.doc_rules.specs.Html.{Written, Character, LinkTag, ImageNote, Output, characters, is_fresh}
use Rattle.doc_rules.proofs.EscapingLaws.{escaping_is_by_bytes}
use Rattle.doc_html.specs.HtmlBytes.{written_bytes}
use Rattle.doc_html.specs.ProgressSteps.{Progress, begun, told, on_new_line, text_met, heading_met, heading_met_at}
use Rattle.doc_html.specs.WrittenSteps.{HoldsHtml, fresh_behind, read_again}

-- ---- a new line

last_at : (xs : Output) (x : Written) → is_fresh (xs ++ x ∷ []) ≡ is_fresh (x ∷ [])
unfolding is_fresh
last_at [] x = refl
last_at (Character c ∷ []) x = refl
last_at (LinkTag t ∷ []) x = refl
last_at (ImageNote d ∷ []) x = refl
last_at (Character c ∷ y ∷ more) x = last_at (y ∷ more) x
last_at (LinkTag t ∷ y ∷ more) x = last_at (y ∷ more) x
last_at (ImageNote d ∷ y ∷ more) x = last_at (y ∷ more) x

character_last : (xs : Output) (c : ℕ) → is_fresh (xs ++ Character c ∷ []) ≡ (c == 10)
unfolding is_fresh
character_last xs c = last_at xs (Character c)

pub tag_last : (xs : Output) (t : Target) → false ≡ is_fresh (xs ++ LinkTag t ∷ [])
unfolding is_fresh
tag_last xs t = sym (last_at xs (LinkTag t))

pub note_last : (xs : Output) (dest : Text) → false ≡ is_fresh (xs ++ ImageNote dest ∷ [])
unfolding is_fresh
note_last xs dest = sym (last_at xs (ImageNote dest))

pub fresh_text : (xs : Output) (text : Text) → fresh_behind (is_fresh xs) text ≡ is_fresh (xs ++ characters text)
unfolding characters fresh_behind
fresh_text xs [] = ap is_fresh (sym (append-nil xs))
fresh_text xs (c ∷ rest) =
    ap (λ b. fresh_behind b rest) (sym (character_last xs c))
    ∙ (fresh_text (xs ++ Character c ∷ []) rest ∙ ap is_fresh (append_assoc xs (Character c ∷ []) (map Character rest)))

pub text_begins : (fresh old : Bool) (xs : Output) (text : Text) → fresh ≡ fresh_behind old text → old ≡ is_fresh xs
    → fresh ≡ is_fresh (xs ++ characters text)
text_begins fresh old xs text e f = e ∙ (ap (λ b. fresh_behind b text) f ∙ fresh_text xs text)

pub fresh_append : (b : Bool) (x y : Text) → fresh_behind b (x ++ y) ≡ fresh_behind (fresh_behind b x) y
unfolding fresh_behind
fresh_append b [] y = refl
fresh_append b (c ∷ x) y = fresh_append (c == 10) x y

abbrev Alike : Bool → ℕ → Type 0
Alike b c = fresh_behind b (escaped_char c) ≡ (c == 10)

abbrev escaped_at : ℕ → Bool → Bool → Bool → Bool → Text
escaped_at c a b d e =
    elim a [
      | true ↦ codes "&amp;"
      | false ↦ elim b [
        | true ↦ codes "&lt;"
        | false ↦ elim d
            [ true ↦ codes "&gt;" | false ↦ elim e [ true ↦ codes "&quot;" | false ↦ c ∷ [] ] ]
      ]
    ]

alike_38 : (b : Bool) → Alike b 38
unfolding escaped_char fresh_behind
alike_38 b = refl

alike_60 : (b : Bool) → Alike b 60
unfolding escaped_char fresh_behind
alike_60 b = refl

alike_62 : (b : Bool) → Alike b 62
unfolding escaped_char fresh_behind
alike_62 b = refl

alike_34 : (b : Bool) → Alike b 34
unfolding escaped_char fresh_behind
alike_34 b = refl

alike_other : (b : Bool) (c : ℕ) → (c ≡ 38 → ⊥) → (c ≡ 60 → ⊥) → (c ≡ 62 → ⊥) → (c ≡ 34 → ⊥) → Alike b c
unfolding escaped_char fresh_behind
alike_other b c n1 n2 n3 n4 =
    let itself : escaped_char c ≡ c ∷ [] =
    ap (λ t. escaped_at c t (c == 60) (c == 62) (c == 34)) (ne_eqb c 38 n1)
    ∙ (ap (λ t. escaped_at c false t (c == 62) (c == 34)) (ne_eqb c 60 n2)
    ∙ (ap (λ t. escaped_at c false false t (c == 34)) (ne_eqb c 62 n3) ∙ ap (λ t. escaped_at c false false false t) (ne_eqb c 34 n4))) in
    ap (fresh_behind b) itself

alike : (b : Bool) (c : ℕ) → Alike b c
alike b c =
    elim (cases_eq c 38) [
      | inl e ↦ subst (Alike b) (sym e) (alike_38 b)
      | inr n1 ↦ elim (cases_eq c 60) [
        | inl e ↦ subst (Alike b) (sym e) (alike_60 b)
        | inr n2 ↦ elim (cases_eq c 62) [
          | inl e ↦ subst (Alike b) (sym e) (alike_62 b)
          | inr n3 ↦ elim (cases_eq c 34) [ inl e ↦ subst (Alike b) (sym e) (alike_34 b) | inr n4 ↦ alike_other b c n1 n2 n3 n4 ]
        ]
      ]
    ]

fresh_escape : (b : Bool) (text : Text) → fresh_behind b text ≡ fresh_behind b (html_escape text)
unfolding fresh_behind html_escape
fresh_escape b [] = refl
fresh_escape b (c ∷ rest) =
    fresh_escape (c == 10) rest
    ∙ (ap (λ f. fresh_behind f (html_escape rest)) (sym (alike b c)) ∙ sym (fresh_append b (escaped_char c) (html_escape rest)))

pub escape_begins : (fresh old : Bool) (xs : Output) (text : Text) → fresh ≡ fresh_behind old text → old ≡ is_fresh xs
    → fresh ≡ is_fresh (xs ++ characters (html_escape text))
escape_begins fresh old xs text e f = text_begins fresh old xs (html_escape text) (e ∙ fresh_escape old text) f

pub fresh_end : (b : Bool) (text front : Text) (c : ℕ) → text ≡ front ++ c ∷ [] → (c == 10) ≡ fresh_behind b text
unfolding fresh_behind
fresh_end b text front c e = sym (ap (fresh_behind b) e ∙ fresh_append b front (c ∷ []))

pub fresh_none : (b : Bool) (text : Text) → text ≡ [] → b ≡ fresh_behind b text
unfolding fresh_behind
fresh_none b text e = sym (ap (fresh_behind b) e)

-- ---- what is spelled

spells : (shown : List ℕ → Shown) (text : Text) → encode_utf8_all text ≡ flat_map (written_bytes shown) (characters text)
unfolding characters written_bytes
spells shown [] = refl
spells shown (c ∷ rest) = ap (λ t. encode_utf8 c ++ t) (spells shown rest)

pub spells_text : (shown : List ℕ → Shown) (bytes : List ℕ) → IsUtf8 bytes
    → bytes ≡ flat_map (written_bytes shown) (characters (chars bytes))
spells_text shown bytes u = sym (encodes-chars bytes u) ∙ spells shown (chars bytes)

pub spells_escape : (shown : List ℕ → Shown) (bytes : List ℕ) → IsUtf8 bytes
    → escaped bytes ≡ flat_map (written_bytes shown) (characters (html_escape (chars bytes)))
spells_escape shown bytes u =
    ap escaped (sym (encodes-chars bytes u)) ∙ (sym (escaping_is_by_bytes (chars bytes)) ∙ spells shown (html_escape (chars bytes)))

pub link_spells : (title : Option (List ℕ)) (got : List ℕ) (target : Target) (shown : List ℕ → Shown) → chars got ≡ target.dest
    → option_map chars title ≡ target.title → IsUtf8 got →
    opening_tag (read_again title) (shown got) ≡ flat_map (written_bytes shown) (LinkTag target ∷ [])
unfolding written_bytes
link_spells title got target shown e f u =
    ap (λ d. opening_tag (read_again title) (shown d)) (sym (encodes-chars got u) ∙ ap encode_utf8_all e)
    ∙ (ap (λ t. opening_tag (option_map encode_utf8_all t) (shown (encode_utf8_all target.dest))) f
    ∙ sym (append-nil (opening_tag (option_map encode_utf8_all target.title) (shown (encode_utf8_all target.dest)))))

pub no_title : (title : Option (List ℕ)) → title ≡ None → read_again title ≡ title
no_title title e = ap read_again e ∙ sym e

pub some_title : (title : Option (List ℕ)) (text got : List ℕ) → title ≡ Some text → got ≡ text → IsUtf8 got → read_again title ≡ title
some_title title text got e f u =
    ap read_again e ∙ ap Some (ap (λ t. encode_utf8_all (chars t)) (sym f) ∙ (encodes-chars got u ∙ f)) ∙ sym e

-- ---- what is held

pub holds_more : (shown : List ℕ → Shown) (old new add : List ℕ) (fresh after : Bool) (p : Progress) (x : Output)
    → HoldsHtml shown old fresh p → new ≡ old ++ add →
    after ≡ is_fresh (p.output ++ x) → add ≡ flat_map (written_bytes shown) x → HoldsHtml shown new after (told x p)
holds_more shown old new add fresh after p x h e f g = record {
  shows = h.shows;
  unnamed = h.unnamed;
  begins = f;
  spelled = e ∙ (ap (λ t. t ++ add) h.spelled
      ∙ (ap (λ t. flat_map (written_bytes shown) p.output ++ t) g ∙ sym (flat_map-append (written_bytes shown) p.output x)));
}

-- of an image nothing is shown
pub holds_image : (shown : List ℕ → Shown) (bytes : List ℕ) (fresh : Bool) (p : Progress) (dest : Text) → HoldsHtml shown bytes fresh p
    → HoldsHtml shown bytes false (told (ImageNote dest ∷ []) p)
unfolding written_bytes
holds_image shown bytes fresh p dest h =
    holds_more shown bytes bytes [] fresh false p (ImageNote dest ∷ []) h (sym (append-nil bytes)) (note_last p.output dest) refl

pub holds_line : (shown : List ℕ → Shown) (bytes : List ℕ) (fresh : Bool) (p : Progress) → HoldsHtml shown bytes fresh p → fresh ≡ true
    → HoldsHtml shown bytes fresh (on_new_line p)
unfolding on_new_line
holds_line shown bytes fresh p h e = at (is_fresh p.output) (sym h.begins ∙ e)
  where
    at : (b : Bool) → b ≡ true
        → HoldsHtml shown bytes fresh (elim b as (λ _. Progress) [ true ↦ p | false ↦ told (characters (codes "\n")) p ])
    at true f = h
    at false f = cc

pub holds_new_line : (shown : List ℕ → Shown) (old new : List ℕ) (fresh after : Bool) (p : Progress) → HoldsHtml shown old fresh p
    → fresh ≡ false → new ≡ old ++ codes "\n" → after ≡ true →
    HoldsHtml shown new after (on_new_line p)
unfolding on_new_line fresh_behind encode_utf8
holds_new_line shown old new fresh after p h e n t = at (is_fresh p.output) (sym h.begins ∙ e)
  where
    more : HoldsHtml shown new after (told (characters (codes "\n")) p)
    more = holds_more shown old new (codes "\n") fresh after p (characters (codes "\n")) h n (t ∙ fresh_text p.output (codes "\n"))
        (spells shown (codes "\n"))

    at : (b : Bool) → b ≡ false
        → HoldsHtml shown new after (elim b as (λ _. Progress) [ true ↦ p | false ↦ told (characters (codes "\n")) p ])
    at true f = cc
    at false f = more

pub holds_text : (shown : List ℕ → Shown) (bytes : List ℕ) (fresh : Bool) (p : Progress) (text : Text) → HoldsHtml shown bytes fresh p
    → HoldsHtml shown bytes fresh (text_met text p)
unfolding text_met
holds_text shown bytes fresh p text h = record { shows = h.shows; unnamed = h.unnamed; begins = h.begins; spelled = h.spelled }

pub holds_heading : (shown : List ℕ → Shown) (bytes : List ℕ) (fresh : Bool) (p : Progress) (level : ℕ) (text : Text)
    → HoldsHtml shown bytes fresh p →
    HoldsHtml shown bytes fresh (heading_met level text p)
unfolding heading_met_at
holds_heading shown bytes fresh p level text h =
    subst (λ u. HoldsHtml shown bytes fresh (heading_met_at u level text p)) (sym h.unnamed) (holds_text shown bytes fresh p text h)

pub holds_nothing : (shown : List ℕ → Shown) (bytes : List ℕ) → bytes ≡ [] → HoldsHtml shown bytes true (begun shown false None)
unfolding is_fresh
holds_nothing shown bytes e = record { shows = refl; unnamed = refl; begins = refl; spelled = e }
