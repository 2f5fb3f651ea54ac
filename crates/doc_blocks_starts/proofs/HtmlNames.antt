-- Names of HTML elements in any case, and what stands before a rest (CommonMark 0.31.2, section 4.6).
use Rattle.std.proofs.Common.{◌≡◌, ℕ, Bool, true, false, ◌==◌, List, [], ◌∷◌, map, length, chars, refl, ap, sym, ◌∙◌, Option, Some, None}
use Rattle.std.specs.Prelude.{◌&&◌, bytes_eq}
use Rattle.std.specs.Char.{to_ascii_lowercase}
use Rattle.std.specs.Str.{IsUtf8}
use Rattle.std.proofs.lemmas.Bool.{eqb-true, eqb-false}
use Rattle.doc_rules.specs.Characters.{Text}
use Rattle.doc_lines.proofs.Ends.{empty_is_nothing}
use Rattle.doc_rules.specs.Parsers.{Parser, word_in_any_case, is_nothing, begins_before}

-- ---- a name in any case

-- a word stands there, and nothing behind it
is_whole : Option Text → Bool
is_whole found = elim found [ None ↦ false | Some rest ↦ is_nothing rest ]

same_either_way : (a b : ℕ) → (a == b) ≡ (b == a)
same_either_way a b = at (a == b) (b == a) refl refl
  where
    at : (x y : Bool) → (a == b) ≡ x → (b == a) ≡ y → x ≡ y
    at true true e f = refl
    at true false e f = absurd (eqb-false b a f (sym (eqb-true a b e)))
    at false true e f = absurd (eqb-false a b e (sym (eqb-true b a f)))
    at false false e f = refl

whole_word : (w text : Text) → is_whole (word_in_any_case w text) ≡ bytes_eq (map to_ascii_lowercase text) w
unfolding word_in_any_case is_whole
whole_word [] [] = refl
whole_word [] (d ∷ text) = refl
whole_word (c ∷ w) [] = refl
whole_word (c ∷ w) (d ∷ text) = at (whole_word w text) (c == to_ascii_lowercase d)
    ∙ ap (λ b. b && bytes_eq (map to_ascii_lowercase text) w) (same_either_way c (to_ascii_lowercase d))
  where
    at : is_whole (word_in_any_case w text) ≡ bytes_eq (map to_ascii_lowercase text) w → (b : Bool) →
        is_whole (elim b [ true ↦ word_in_any_case w text | false ↦ None ]) ≡ (b && bytes_eq (map to_ascii_lowercase text) w)
    at more true = more
    at more false = refl

pub word_is_name : (w text : Text) (rest : List ℕ) → IsUtf8 rest → Some (chars rest) ≡ word_in_any_case w text
    → (length rest == 0) ≡ bytes_eq (map to_ascii_lowercase text) w
unfolding is_whole
word_is_name w text rest u e = empty_is_nothing rest u ∙ ap is_whole e ∙ whole_word w text

pub no_word_is_no_name : (w text : Text) → None ≡ word_in_any_case w text → false ≡ bytes_eq (map to_ascii_lowercase text) w
unfolding is_whole
no_word_is_no_name w text e = ap is_whole e ∙ whole_word w text

-- ---- what stands before a rest

before_this : (Text → Bool) → Option Text → Bool
before_this test found = elim found [ None ↦ false | Some rest ↦ test rest ]

pub begins_before_is : (test : Text → Bool) (read : Parser) (text rest : Text) → Some rest ≡ read text
    → test rest ≡ begins_before test read text
unfolding before_this
begins_before_is test read text rest e = ap (before_this test) e
