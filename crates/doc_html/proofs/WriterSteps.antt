-- Writers that go on: what they hold one step after another.
use Rattle.std.proofs.Common.{◌≡◌, ℕ, zero, suc, ◌<◌, Bool, true, false, List, [], ◌∷◌, ◌++◌, refl, ap, sym, ◌∙◌, subst, append_assoc}
use Rattle.std.proofs.Common.{append-nil, arith}
use Rattle.std.specs.Prelude.{◌==◌, encode_utf8_all, nat_lt, codes, Option, Some, None, option_map, if◌then◌else◌, slice_index}
use Rattle.std.specs.Str.{chars}
use Rattle.std.proofs.lemmas.Str.{chars-IsAscii, encodes-IsAscii}
use Rattle.std.proofs.lemmas.List.{map-append}
use Rattle.std.proofs.lemmas.List.Concat.{flat_map-append}
use Rattle.std.proofs.lemmas.Bool.{ltb-true, and_parts}
use Rattle.doc_page_parts.specs.Escaping.{escaped}
use Rattle.doc_page_parts.specs.Pages.{title_attribute}
use Rattle.doc_rules.specs.Characters.{Text}
use Rattle.doc_rules.specs.Escaping.{escaped_char, html_escape}
use Rattle.doc_rules.specs.Html.{Output, Character, characters}
use Rattle.doc_html.specs.ProgressSteps.{Progress, told, Writes}
use Rattle.doc_html.specs.InlineSteps.{is_ascii}

-- ---- one step after another

pub nothing : {W : Type 0} (holds : W → Progress → Type 0) (a : W) → Writes holds a a []
nothing holds a p h = subst (λ o. holds a (record p { output = o })) (sym (append-nil p.output)) h

pub both : {W : Type 0} (holds : W → Progress → Type 0) (a b c : W) (x y : Output) → Writes holds a b x → Writes holds b c y
    → Writes holds a c (x ++ y)
both holds a b c x y f g p h = subst (λ o. holds c (record p { output = o })) (append_assoc p.output x y) (g (told x p) (f p h))

pub same : {W : Type 0} (holds : W → Progress → Type 0) (a b : W) (x y : Output) → x ≡ y → Writes holds a b x → Writes holds a b y
same holds a b x y e f = subst (Writes holds a b) e f

-- ---- texts

pub characters_append : (x y : Text) → characters (x ++ y) ≡ characters x ++ characters y
unfolding characters
characters_append x y = map-append Character x y

pub texts : {W : Type 0} (holds : W → Progress → Type 0) (a b c : W) (x y : Text) →
    Writes holds a b (characters x) → Writes holds b c (characters y) → Writes holds a c (characters (x ++ y))
texts holds a b c x y f g = same holds a c (characters x ++ characters y) (characters (x ++ y)) (sym (characters_append x y))
    (both holds a b c (characters x) (characters y) f g)

pub escapes : {W : Type 0} (holds : W → Progress → Type 0) (a b c : W) (x y : Text) →
    Writes holds a b (characters (html_escape x)) → Writes holds b c (characters (html_escape y))
    → Writes holds a c (characters (html_escape (x ++ y)))
unfolding html_escape
escapes holds a b c x y f g =
    same holds a c (characters (html_escape x ++ html_escape y)) (characters (html_escape (x ++ y)))
    (ap characters (sym (flat_map-append escaped_char x y)))
    (texts holds a b c (html_escape x) (html_escape y) f g)

pub no_escapes : {W : Type 0} (holds : W → Progress → Type 0) (a : W) → Writes holds a a (characters (html_escape []))
unfolding html_escape characters
no_escapes holds a = nothing holds a

-- ---- texts in ASCII

each_ascii : (text : List ℕ) → is_ascii text ≡ true → (i : ℕ) → slice_index text i < 128
each_ascii [] h i = omega arith
each_ascii (b ∷ text) h zero = ltb-true b 128 (and_parts (nat_lt b 128) (is_ascii text) h).0
each_ascii (b ∷ text) h (suc i) = each_ascii text (and_parts (nat_lt b 128) (is_ascii text) h).1 i

pub ascii_chars : (text : List ℕ) → is_ascii text ≡ true → chars text ≡ text
ascii_chars text h = chars-IsAscii text (each_ascii text h)

pub ascii_bytes : (text : List ℕ) → is_ascii text ≡ true → encode_utf8_all text ≡ text
ascii_bytes text h = encodes-IsAscii text (each_ascii text h)

-- ---- titles

same_choice : (c : ℕ) (a b d e : Bool) →
    (if a then codes "&amp;" else (if b then codes "&lt;" else (if d then codes "&gt;" else (if e then codes "&quot;" else c ∷ []))))
    ≡ elim a [
      | true ↦ codes "&amp;"
      | false ↦ elim b [
        | true ↦ codes "&lt;"
        | false ↦ elim d
            [ true ↦ codes "&gt;" | false ↦ elim e [ true ↦ codes "&quot;" | false ↦ c ∷ [] ] ]
      ]
    ]
same_choice c true b d e = refl
same_choice c false true d e = refl
same_choice c false false true e = refl
same_choice c false false false true = refl
same_choice c false false false false = refl

pub same_escapes : (text : Text) → html_escape text ≡ escaped text
unfolding escaped html_escape escaped_char
same_escapes [] = refl
same_escapes (c ∷ rest) =
    ap (λ front. front ++ html_escape rest) (sym (same_choice c (c == 38) (c == 60) (c == 62) (c == 34)))
    ∙ ap (λ more. (if c == 38 then codes "&amp;" else (if c == 60 then codes "&lt;" else
    (if c == 62 then codes "&gt;" else (if c == 34 then codes "&quot;" else c ∷ [])))) ++ more) (same_escapes rest)

pub no_title : {W : Type 0} (holds : W → Progress → Type 0) (a : W) (title : Option (List ℕ)) → title ≡ None
    → Writes holds a a (characters (title_attribute (option_map chars title)))
unfolding characters
no_title holds a title e = subst (λ t. Writes holds a a (characters (title_attribute (option_map chars t)))) (sym e) (nothing holds a)

pub some_title : {W : Type 0} (holds : W → Progress → Type 0) (a b c d : W) (title : Option (List ℕ)) (text : List ℕ) → title ≡ Some text →
    Writes holds a b (characters (codes " title=\"")) → Writes holds b c (characters (html_escape (chars text)))
    → Writes holds c d (characters (codes "\"")) →
    Writes holds a d (characters (title_attribute (option_map chars title)))
some_title holds a b c d title text e f g h =
    let all : Writes holds a d (characters (codes " title=\"" ++ html_escape (chars text) ++ codes "\""))
    = texts holds a c d (codes " title=\"" ++ html_escape (chars text)) (codes "\"")
    (texts holds a b c (codes " title=\"") (html_escape (chars text)) f g) h in
    subst (λ t. Writes holds a d (characters (title_attribute (option_map chars t)))) (sym e)
    (subst (λ t. Writes holds a d (characters (codes " title=\"" ++ t ++ codes "\""))) (same_escapes (chars text)) all)
