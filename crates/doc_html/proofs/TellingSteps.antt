-- Blocks as they are written, step by step.
use Rattle.std.proofs.Common.{◌≡◌, ◌==◌, ℕ, ◌<◌, Bool, true, false, List, [], ◌∷◌, ◌++◌, length, ap, sym, subst, append_assoc}
use Rattle.std.specs.Prelude.{codes, decimal, ◌^◌}
use Rattle.std.specs.Str.{chars}
use Rattle.std.proofs.lemmas.List.{nil_from_length}
use Rattle.std.proofs.lemmas.Str.{chars-IsAscii}
use Rattle.std.proofs.lemmas.Fmt.{IsAscii-decimal}
use Rattle.doc_page_parts.proofs.Numbers.{zero_test_true}
use Rattle.doc_rules.specs.Characters.{Text}
use Rattle.doc_rules.specs.Escaping.{html_escape}
use Rattle.doc_rules.specs.Inlines.{Inline}
use Rattle.doc_rules.specs.PlainTexts.{plain_text}
use Rattle.doc_rules.specs.Html.{Output, characters, inlines_html, language_class}
use Rattle.doc_html.specs.ProgressSteps.{Progress, told, on_new_line, text_met, heading_met, Goes, Writes}
use Rattle.doc_html.specs.TellingSteps.{paragraph_told, heading_told, code_told}
use Rattle.doc_html.proofs.WriterSteps.{nothing, both, same, texts}

pub three : {W : Type 0} (holds : W → Progress → Type 0) (a b c d : W) (x y z : Output) → Writes holds a b x → Writes holds b c y
    → Writes holds c d z → Writes holds a d (x ++ y ++ z)
three holds a b c d x y z f g h = both holds a c d (x ++ y) z (both holds a b c x y f g) h

pub nothing_said : {W : Type 0} (holds : W → Progress → Type 0) (a : W) → Writes holds a a (characters [])
unfolding characters
nothing_said holds a = nothing holds a

pub empty_said : {W : Type 0} (holds : W → Progress → Type 0) (a : W) (front : Text) (test : Bool) → test ≡ (length front == 0)
    → test ≡ true → Writes holds a a (characters front)
empty_said holds a front test e f =
    subst (λ (t : Text). Writes holds a a (characters t)) (sym (nil_from_length front (zero_test_true test (length front) e f)))
    (nothing_said holds a)

-- ---- paragraphs

pub tight_paragraph : {W : Type 0} (holds : W → Progress → Type 0) (a b c d : W) (tight : Bool) (front : Text) (made read : List Inline)
    → tight ≡ true → made ≡ read →
    Goes holds a b (text_met (plain_text made)) → Writes holds b c (characters front) → Writes holds c d (inlines_html 0 made) →
    Goes holds a d (λ p. paragraph_told tight (characters front ++ inlines_html 0 read) (text_met (plain_text read) p))
unfolding paragraph_told
tight_paragraph holds a b c d tight front made read e f m w1 w2 =
    subst (λ t. Goes holds a d (λ p. paragraph_told t (characters front ++ inlines_html 0 read) (text_met (plain_text read) p))) (sym e)
    (subst (λ i. Goes holds a d (λ p. paragraph_told true (characters front ++ inlines_html 0 i) (text_met (plain_text i) p))) f
    (λ p h. both holds b c d (characters front) (inlines_html 0 made) w1 w2 (text_met (plain_text made) p) (m p h)))

pub loose_paragraph : {W : Type 0} (holds : W → Progress → Type 0) (a b c d e f g : W) (tight : Bool) (front : Text)
    (made read : List Inline) → tight ≡ false → made ≡ read →
    Goes holds a b (text_met (plain_text made)) → Goes holds b c on_new_line → Writes holds c d (characters (codes "<p>"))
    → Writes holds d e (characters front) → Writes holds e f (inlines_html 0 made) →
    Writes holds f g (characters (codes "</p>\n")) →
    Goes holds a g (λ p. paragraph_told tight (characters front ++ inlines_html 0 read) (text_met (plain_text read) p))
unfolding paragraph_told
loose_paragraph holds a b c d e f g tight front made read t i m n w1 w2 w3 w4 =
    subst (λ t. Goes holds a g (λ p. paragraph_told t (characters front ++ inlines_html 0 read) (text_met (plain_text read) p))) (sym t)
    (subst (λ i. Goes holds a g (λ p. paragraph_told false (characters front ++ inlines_html 0 i) (text_met (plain_text i) p))) i
    (λ p h. three holds c d f g (characters (codes "<p>")) (characters front ++ inlines_html 0 made) (characters (codes "</p>\n")) w1
    (both holds d e f (characters front) (inlines_html 0 made) w2 w3) w4
    (on_new_line (text_met (plain_text made) p)) (n (text_met (plain_text made) p) (m p h))))

-- ---- headings

pub heading_goes : {W : Type 0} (holds : W → Progress → Type 0) (a b c d e f g h i j : W) (level : ℕ) (made read : List Inline)
    → made ≡ read →
    Goes holds a b on_new_line → Writes holds b c (characters (codes "<h")) → Writes holds c d (characters (decimal level))
    → Goes holds d e (heading_met level (plain_text made)) →
    Writes holds e f (characters (codes ">")) → Writes holds f g (inlines_html 0 made) → Writes holds g h (characters (codes "</h")) →
    Writes holds h i (characters (decimal level)) → Writes holds i j (characters (codes ">\n")) →
    Goes holds a j (heading_told level (inlines_html 0 read) (plain_text read))
unfolding heading_told
heading_goes holds a b c d e f g h i j level made read same_inlines n w1 w2 m w3 w4 w5 w6 w7 =
    let front : Writes holds b d (characters (codes "<h" ++ decimal level)) = texts holds b c d (codes "<h") (decimal level) w1 w2 in
    let end : Writes holds g j (characters (codes "</h" ++ decimal level ++ codes ">\n"))
    = texts holds g i j (codes "</h" ++ decimal level) (codes ">\n") (texts holds g h i (codes "</h") (decimal level) w5 w6) w7 in
    let back : Writes holds e j (characters (codes ">") ++ inlines_html 0 made ++ characters (codes "</h" ++ decimal level ++ codes ">\n"))
    = three holds e f g j (characters (codes ">")) (inlines_html 0 made) (characters (codes "</h" ++ decimal level ++ codes ">\n")) w3 w4
    end in
    subst (λ s. Goes holds a j (heading_told level (inlines_html 0 s) (plain_text s))) same_inlines
    (λ p k. back (heading_met level (plain_text made) (told (characters (codes "<h" ++ decimal level)) (on_new_line p)))
    (m (told (characters (codes "<h" ++ decimal level)) (on_new_line p)) (front (on_new_line p) (n p k))))

pub decimal_chars : (n : ℕ) → n < 2 ^ 64 → chars (decimal n) ≡ decimal n
decimal_chars n h = chars-IsAscii (decimal n) (IsAscii-decimal n h)

-- ---- code

code_assoc : (a b c d e : Text) → a ++ (b ++ ((c ++ d) ++ e)) ≡ (((a ++ b) ++ c) ++ d) ++ e
code_assoc a b c d e = simp append_assoc

pub code_goes : {W : Type 0} (holds : W → Progress → Type 0) (a b c d e f : W) (class text : Text) → Goes holds a b (text_met text)
    → Goes holds b c on_new_line →
    Writes holds c d (characters (codes "<pre><code")) → Writes holds d e (characters class) →
    Writes holds e f (characters (codes ">" ++ html_escape text ++ codes "</code></pre>\n")) → Goes holds a f (code_told class text)
unfolding code_told
code_goes holds a b c d e f class text m n w1 w2 w3 =
    let rest : Text = codes ">" ++ html_escape text ++ codes "</code></pre>\n" in
    let all : Writes holds c f (characters (codes "<pre><code" ++ (class ++ rest)))
    = texts holds c d f (codes "<pre><code") (class ++ rest) w1 (texts holds d e f class rest w2 w3) in
    let told_all : Writes holds c f (characters (codes "<pre><code" ++ class ++ codes ">" ++ html_escape text ++ codes "</code></pre>\n"))
    = same holds c f _ _ (ap characters (code_assoc (codes "<pre><code") class (codes ">") (html_escape text) (codes "</code></pre>\n")))
    all in
    λ p h. told_all (on_new_line (text_met text p)) (n (text_met text p) (m p h))

pub no_class : {W : Type 0} (holds : W → Progress → Type 0) (a : W) (word : Text) → word ≡ []
    → Writes holds a a (characters (language_class word))
unfolding language_class characters
no_class holds a word e = subst (λ t. Writes holds a a (characters (language_class t))) (sym e) (nothing holds a)

pub some_class : {W : Type 0} (holds : W → Progress → Type 0) (a b c d : W) (word rest : Text) (first : ℕ) → word ≡ first ∷ rest →
    Writes holds a b (characters (codes " class=\"language-")) → Writes holds b c (characters (html_escape word))
    → Writes holds c d (characters (codes "\"")) →
    Writes holds a d (characters (language_class word))
unfolding language_class
some_class holds a b c d word rest first e f g h =
    let word_is : Writes holds b c (characters (html_escape (first ∷ rest))) = subst (λ t. Writes holds b c (characters (html_escape t))) e
    g in
    subst (λ t. Writes holds a d (characters (language_class t))) (sym e)
    (texts holds a c d (codes " class=\"language-" ++ html_escape (first ∷ rest)) (codes "\"")
    (texts holds a b c (codes " class=\"language-") (html_escape (first ∷ rest)) f word_is) h)
