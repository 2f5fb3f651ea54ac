-- The name of a heading of which nothing is left, and of one of which something is.
use Rattle.std.proofs.Common.{rules, ◌≡◌, ℕ, ◌==◌, Bool, true, false, List, [], ◌∷◌, length, chars, ap, sym, refl, ◌∙◌, arith}
use Rattle.std.specs.Prelude.{codes}
use Rattle.std.specs.Str.{IsUtf8, encode_utf8_all}
use Rattle.std.proofs.lemmas.Bool.Decides.{nat_tests}
use Rattle.std.proofs.lemmas.Str.{encodes-chars, chars-IsAscii}
use Rattle.doc_lines.proofs.Ends.{empty_chars}
use Rattle.doc_rules.specs.Characters.{Text}
use Rattle.doc_rules.specs.Anchors.{or_section}
use Rattle.doc_page_parts.proofs.Numbers.{zero_test_true}

-- an empty name is 'section'
pub section : (bytes : List ℕ) (test : Bool) → test ≡ (length bytes == 0) → test ≡ true → codes "section" ≡ or_section (chars bytes)
unfolding or_section
section bytes test e h = sym (ap or_section (empty_chars bytes (zero_test_true test (length bytes) e h)))

-- a name with a character stays
pub stays : (bytes : List ℕ) (test : Bool) → IsUtf8 bytes → test ≡ (length bytes == 0) → test ≡ false
    → chars bytes ≡ or_section (chars bytes)
unfolding or_section
stays bytes test u e h = at (chars bytes) (encodes-chars bytes u)
  where
    at : (cs : Text) → encode_utf8_all cs ≡ bytes → cs ≡ or_section cs
    at [] f =
        let none : length bytes ≡ 0 = sym (ap length f) in
        let some : (length bytes == 0) ≡ false = sym e ∙ h in
        absurd (grind (arith, nat_tests))
    at (c ∷ cs) f = refl

-- the bytes of 'section' are its characters
pub written : (bytes : List ℕ) → bytes ≡ codes "section" → chars bytes ≡ codes "section"
written bytes e = ap chars e ∙ chars-IsAscii (codes "section") (search rules)
