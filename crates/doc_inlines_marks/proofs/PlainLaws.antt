-- Texts without escapes and references.
use Rattle.std.proofs.Common.{◌≡◌, ◌∙◌, ℕ, Bool, true, false, not, ◌==◌, [], ◌∷◌, ◌++◌, append-nil, refl, ap, sym, arith, Option, None}
use Rattle.std.proofs.Common.{List, length, chars}
use Rattle.std.specs.List.{list_all}
use Rattle.std.proofs.lemmas.Bool.{and_parts, not-true}
use Rattle.std.proofs.lemmas.Bool.Decides.{nat_tests}
use Rattle.doc_page_parts.proofs.Bools.{or_first, or_second}
use Rattle.doc_rules.specs.Characters.{Text}
use Rattle.doc_rules.specs.Rules.{Rules}
use Rattle.doc_rules.specs.Escapes.{Meaning, escape_or_reference, backslash_escape, character_reference, unescape, unescape_behind}
use Rattle.doc_lines.specs.RestSteps.{IsCutBefore, IsAsciiClass}
use Rattle.doc_lines.proofs.Ends.{empty_chars}
use Rattle.doc_lines.proofs.UnescapeSteps.{unescape_itself}
use Rattle.doc_inlines_marks.specs.EscapeSteps.{begins_escape}

pub escapes_are_ascii : IsAsciiClass begins_escape
escapes_are_ascii c e = grind (arith, nat_tests)

at_ampersand : Rules → Text → Bool → Option Meaning
at_ampersand rules rest b = elim b [ true ↦ character_reference rules rest | false ↦ None ]

at_backslash : Rules → ℕ → Text → Bool → Option Meaning
at_backslash rules c rest b = elim b [ true ↦ backslash_escape rest | false ↦ at_ampersand rules rest (c == 38) ]

no_escape : (rules : Rules) (c : ℕ) (rest : Text) → begins_escape c ≡ false → escape_or_reference rules c rest ≡ None
unfolding escape_or_reference at_backslash at_ampersand
no_escape rules c rest h = ap (at_backslash rules c rest) (or_first (c == 92) (c == 38) h)
    ∙ ap (at_ampersand rules rest) (or_second (c == 92) (c == 38) h)

plain_reads : (rules : Rules) (text : Text) → list_all (λ c. not (begins_escape c)) text ≡ true → unescape rules text ≡ text
unfolding unescape unescape_behind
plain_reads rules [] e = refl
plain_reads rules (c ∷ rest) e =
    let parts = and_parts (not (begins_escape c)) (list_all (λ d. not (begins_escape d)) rest) e in
    unescape_itself rules c rest (sym (no_escape rules c rest (not-true (begins_escape c) parts.0)))
    ∙ ap (λ (xs : Text). c ∷ xs) (plain_reads rules rest parts.1)

-- a text that has none reads as it stands
pub plain_whole : (rules : Rules) (text rest : Text) → IsCutBefore begins_escape text rest → rest ≡ [] → unescape rules text ≡ text
plain_whole rules text rest h e =
    let same : text ≡ h.front = h.split ∙ (ap (λ (xs : Text). h.front ++ xs) e ∙ append-nil h.front) in
    ap (unescape rules) same ∙ (plain_reads rules h.front h.outside ∙ sym same)

-- ---- no bytes, no characters

pub no_bytes : (text : List ℕ) (b : Bool) → b ≡ (length text == 0) → b ≡ true → length text ≡ 0
no_bytes text b e h = grind (arith, nat_tests)

pub nothing_before : (text more : List ℕ) → length text ≡ 0 → chars more ≡ chars text ++ chars more
nothing_before text more e = ap (λ t. t ++ chars more) (sym (empty_chars text e))
