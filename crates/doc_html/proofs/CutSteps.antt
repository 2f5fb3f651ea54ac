-- Texts that are cut at what HTML writes otherwise.
use Rattle.std.proofs.Common.{◌≡◌, ℕ, zero, suc, ◌<◌, inl, inr, Bool, true, false, not, List, [], ◌∷◌, ◌++◌, length, get_or, refl, ap, sym}
use Rattle.std.proofs.Common.{◌∙◌, subst, arith}
use Rattle.std.specs.Prelude.{◌==◌, ◌||◌, encode_utf8_all, codes}
use Rattle.std.specs.List.{list_all}
use Rattle.std.specs.Str.{chars, IsUtf8}
use Rattle.std.proofs.lemmas.Bool.{ne_eqb, cases_lt, and_parts}
use Rattle.std.proofs.lemmas.Str.{encodes-chars}
use Rattle.doc_rules.specs.Characters.{one_of}
use Rattle.doc_rules.specs.Characters as rules
use Rattle.doc_rules.specs.Escaping.{escaped_char, html_escape}
use Rattle.doc_inlines_marks.specs.Slices.{is_cut, IsCut, AreCut}
use Rattle.doc_inlines_marks.specs.declared.mark_ref.MarkRef.{MarkRef}
use Rattle.doc_html.proofs.PlainLinkSteps.{no_mark, one_byte}

pub cut_mark : (marks : List MarkRef) (i : ℕ) (mark : MarkRef) → AreCut marks → i < length marks → mark ≡ get_or marks i mark → IsCut mark
cut_mark [] i mark h l e = absurd (omega arith)
cut_mark (first ∷ more) zero mark h l e = subst IsCut (sym e) h.0
cut_mark (first ∷ more) (suc i) mark h l e = cut_mark more i mark h.1 (omega arith) e

-- ---- what stays

abbrev escaped_at : ℕ → Bool → Bool → Bool → Bool → rules.Text
escaped_at c a b d e =
    elim a [
      | true ↦ codes "&amp;"
      | false ↦ elim b [
        | true ↦ codes "&lt;"
        | false ↦ elim d
            [ true ↦ codes "&gt;" | false ↦ elim e [ true ↦ codes "&quot;" | false ↦ c ∷ [] ] ]
      ]
    ]

stays_at : (c : ℕ) (a b d e : Bool) → not (a || (b || (d || (e || false)))) ≡ true → escaped_at c a b d e ≡ c ∷ []
stays_at c true b d e h = cc
stays_at c false true d e h = cc
stays_at c false false true e h = cc
stays_at c false false false true h = cc
stays_at c false false false false h = refl

stays : (c : ℕ) → not (one_of (codes "&<>\"") c) ≡ true → escaped_char c ≡ c ∷ []
unfolding escaped_char
stays c h = stays_at c (c == 38) (c == 60) (c == 62) (c == 34) h

all_stay : (text : rules.Text) → list_all (λ c. not (one_of (codes "&<>\"") c)) text ≡ true → html_escape text ≡ text
unfolding html_escape
all_stay [] h = refl
all_stay (c ∷ rest) h =
    let both : _ = and_parts (not (one_of (codes "&<>\"") c)) (list_all (λ d. not (one_of (codes "&<>\"") d)) rest) h in
    ap (λ front. front ++ html_escape rest) (stays c both.0) ∙ ap (λ more. c ∷ more) (all_stay rest both.1)

-- ---- a text that is longer than a byte

longer : (text : rules.Text) → (length (encode_utf8_all text) ≡ 1 → ⊥) → is_cut text ≡ true → html_escape text ≡ text
unfolding html_escape is_cut
longer [] n h = refl
longer (c ∷ []) n h =
    elim (cases_lt c 128) [
      | inl l ↦ absurd (n (ap (λ bytes. length (bytes ++ [])) (one_byte c l)))
      | inr g ↦ ap (λ front. front ++ []) (stays c (ap not (no_mark (codes "&<>\"") c refl g)))
    ]
longer (c ∷ d ∷ rest) n h =
    let some : length (c ∷ d ∷ rest) == 1 ≡ false = ne_eqb (length (c ∷ d ∷ rest)) 1 (λ e. omega arith) in
    all_stay (c ∷ d ∷ rest) (sym (ap (λ b. b || list_all (λ x. not (one_of (codes "&<>\"") x)) (c ∷ d ∷ rest)) some) ∙ h)

pub cut_text : (bytes : List ℕ) → IsUtf8 bytes → is_cut (chars bytes) ≡ true → (length bytes ≡ 1 → ⊥)
    → chars bytes ≡ html_escape (chars bytes)
cut_text bytes u h n = sym (longer (chars bytes) (λ e. n (ap length (sym (encodes-chars bytes u)) ∙ e)) h)
