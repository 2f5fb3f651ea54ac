-- The ends of a text in UTF-8: its last character, and whether it has one.
use Rattle.std.proofs.Common.{◌≡◌, ℕ, ◌<◌, true, ◌==◌, nat_lt, List, [], ◌∷◌, ◌++◌, length, chars, refl, ap, sym, ◌∙◌, arith, encode_utf8}
use Rattle.std.specs.Str.{IsUtf8, encode_utf8_all}
use Rattle.std.proofs.lemmas.Bool.{ne_eqb, lt-ltb}
use Rattle.std.proofs.lemmas.List.{append-nil}
use Rattle.std.proofs.lemmas.Str.{chars-nil, encodes-chars, encodes-append, encodes_same}
use Rattle.doc_rules.specs.Characters.{Text, last_or}
use Rattle.doc_rules.specs.Parsers.{is_nothing}

-- ---- the last character

pub chars_before_last : (text front : List ℕ) (c : ℕ) → IsUtf8 text → IsUtf8 front → text ≡ front ++ encode_utf8 c
    → chars text ≡ chars front ++ (c ∷ [])
chars_before_last text front c u v e =
    let whole : encode_utf8_all (chars front ++ (c ∷ [])) ≡ front ++ encode_utf8 c =
    encodes-append (chars front) (c ∷ []) ∙ (ap (λ xs. xs ++ encode_utf8_all (c ∷ [])) (encodes-chars front v)
    ∙ ap (λ xs. front ++ xs) (append-nil (encode_utf8 c))) in
    encodes_same (chars text) (chars front ++ (c ∷ [])) (encodes-chars text u ∙ (e ∙ sym whole))

pub last_or_end : (d : ℕ) (front : Text) (c : ℕ) → last_or d (front ++ (c ∷ [])) ≡ c
unfolding last_or
last_or_end d [] c = refl
last_or_end d (e ∷ front) c = last_or_end e front c

-- ---- whether there is one

pub empty_chars : (text : List ℕ) → length text ≡ 0 → chars text ≡ []
empty_chars [] e = chars-nil
empty_chars (b ∷ more) e = absurd (omega arith)

pub has_chars : (text : List ℕ) → IsUtf8 text → 0 < length text → nat_lt 0 (length (chars text)) ≡ true
has_chars text u h = at (chars text) (encodes-chars text u)
  where
    at : (cs : Text) → encode_utf8_all cs ≡ text → nat_lt 0 (length cs) ≡ true
    at [] e = let none : length text ≡ 0 = sym (ap length e) in absurd (omega arith)
    at (c ∷ rest) e = lt-ltb 0 (length (c ∷ rest)) (omega arith)

pub empty_is_nothing : (text : List ℕ) → IsUtf8 text → (length text == 0) ≡ is_nothing (chars text)
empty_is_nothing [] u = sym (ap is_nothing chars-nil)
empty_is_nothing (b ∷ more) u = at (chars (b ∷ more)) (encodes-chars (b ∷ more) u)
  where
    at : (cs : Text) → encode_utf8_all cs ≡ b ∷ more → (length (b ∷ more) == 0) ≡ is_nothing cs
    at [] e = absurd cc
    at (c ∷ rest) e = ne_eqb (length (b ∷ more)) 0 (λ k. omega arith)
