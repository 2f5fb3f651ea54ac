-- The characters of a text that grows at its end.
use Rattle.std.proofs.Common.{◌≡◌, ℕ, List, [], ◌∷◌, ◌++◌, ap, ◌∙◌, chars, append_assoc}
use Rattle.std.specs.Char.{encode_utf8, IsScalar}
use Rattle.std.specs.Str.{IsUtf8}
use Rattle.std.proofs.lemmas.Str.{chars-nil}
use Rattle.doc_page_parts.proofs.Texts.{chars_append_encode}

pub chars_pushed_both : (old start mid new : List ℕ) (c d : ℕ) → IsUtf8 start → IsUtf8 mid → IsScalar c → IsScalar d →
    start ≡ old → mid ≡ start ++ encode_utf8 c → new ≡ mid ++ encode_utf8 d → chars new ≡ chars old ++ (c ∷ d ∷ [])
chars_pushed_both old start mid new c d u v s t e f g =
    let one : chars mid ≡ chars old ++ (c ∷ []) = ap chars f ∙ (chars_append_encode start c u s
    ∙ ap (λ bytes. chars bytes ++ (c ∷ [])) e) in
    ap chars g ∙ (chars_append_encode mid d v t ∙ (ap (λ more. more ++ (d ∷ [])) one ∙ append_assoc (chars old) (c ∷ []) (d ∷ [])))

pub nothing_before : (bytes more : List ℕ) → bytes ≡ [] → chars bytes ++ more ≡ more
nothing_before bytes more e = ap (λ b. chars b ++ more) e ∙ ap (λ b. b ++ more) chars-nil
