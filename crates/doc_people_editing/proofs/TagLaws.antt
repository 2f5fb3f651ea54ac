-- Texts that begin no tags, and texts in which no tag of a name begins.
use Rattle.std.proofs.Common.{◌≡◌, ℕ, ◌==◌, lit<, List, [], ◌∷◌, ◌++◌, true, false, ◌&&◌, ◌||◌, map, codes, refl, ap, sym}
use Rattle.std.proofs.Common.{◌∙◌, arith, inl, inr}
use Rattle.std.specs.Char.{eq_ignore_ascii_case}
use Rattle.std.specs.List.{join_with_byte, list_any}
use Rattle.std.proofs.lemmas.Bool.{and_from, and_parts, cond_both, false_from_ne_true, or_from, or_parts, true≢false}
use Rattle.std.proofs.lemmas.Bool.Decides.{nat_tests}
use Rattle.std.proofs.lemmas.List.{append_assoc}
use Rattle.percent_encoding.specs.Percent.{percent_encode_byte}
use Rattle.percent_encoding.proofs.PercentLemmas.{All-percent_encode_byte, IsEscapeByte}
use Rattle.doc_page_parts.specs.Escaping.{escaped, escaped_byte}
use Rattle.doc_page_parts.specs.Paths.{segments}
use Rattle.doc_page_encoding.specs.Encoding.{encoded, encoded_byte, encoded_path, is_unreserved}
use Rattle.doc_people.specs.Inert.{begins_in_any_case}
use Rattle.doc_people.specs.Laws.{holds_in_any_case}
use Rattle.doc_people_editing.specs.Laws.{EscapedTextsBeginNoTags, is_less}

-- ---- no `<`

-- the text has none
abbrev pub Tagless : List ℕ → Type 0
Tagless text = list_any is_less text ≡ false

tagless_both : (a b : List ℕ) → Tagless a → Tagless b → Tagless (a ++ b)
tagless_both [] b one other = other
tagless_both (x ∷ a) b one other =
    let parts = or_parts (is_less x) (list_any is_less a) one in
    or_from (is_less x) (list_any is_less (a ++ b)) parts.0 (tagless_both a b parts.1 other)

tagless_byte : (b : ℕ) → (b == 60) ≡ false → Tagless (b ∷ [])
tagless_byte b other = ap (λ v. v || false) other

escaped_here : (b : ℕ) → Tagless (escaped_byte b)
escaped_here b =
    cond_both (b == 38) (codes "&amp;") _ Tagless (λ _. refl)
    (λ _. cond_both (b == 60) (codes "&lt;") _ Tagless (λ _. refl)
    (λ other. cond_both (b == 62) (codes "&gt;") _ Tagless (λ _. refl)
    (λ _. cond_both (b == 34) (codes "&quot;") (b ∷ []) Tagless (λ _. refl) (λ _. tagless_byte b other))))

pub escaped_texts_begin_no_tags : EscapedTextsBeginNoTags
unfolding escaped
escaped_texts_begin_no_tags [] = refl
escaped_texts_begin_no_tags (b ∷ rest) =
    tagless_both (escaped_byte b) (escaped rest) (escaped_here b) (escaped_texts_begin_no_tags rest)

hex_isnt : (b : ℕ) → IsEscapeByte b → (b == 60) ≡ false
hex_isnt b (inl e) = grind (arith, nat_tests)
hex_isnt b (inr (inl e)) = grind (arith, nat_tests)
hex_isnt b (inr (inr e)) = grind (arith, nat_tests)

percent_tagless : (b : ℕ) → Tagless (percent_encode_byte b)
unfolding percent_encode_byte
percent_tagless b =
    let hex = All-percent_encode_byte b in
    or_from _ _ (hex_isnt _ (hex 1 0 (lit< tt))) (tagless_byte _ (hex_isnt _ (hex 2 0 (lit< tt))))

kept_isnt : (b : ℕ) → is_unreserved b ≡ true → (b == 60) ≡ false
kept_isnt b kept =
    false_from_ne_true (b == 60) (λ same.
    let is : b ≡ 60 = grind (arith, nat_tests) in
    true≢false (sym kept ∙ ap is_unreserved is))

encoded_here : (b : ℕ) → Tagless (encoded_byte is_unreserved b)
encoded_here b =
    cond_both (is_unreserved b) (b ∷ []) (percent_encode_byte b) Tagless (λ kept. tagless_byte b (kept_isnt b kept))
    (λ _. percent_tagless b)

encoded_tagless : (text : List ℕ) → Tagless (encoded text)
unfolding encoded
encoded_tagless [] = refl
encoded_tagless (b ∷ rest) = tagless_both (encoded_byte is_unreserved b) (encoded rest) (encoded_here b) (encoded_tagless rest)

joined_tagless : (parts : List (List ℕ)) → Tagless (join_with_byte 47 (map encoded parts))
joined_tagless [] = refl
joined_tagless (part ∷ []) = encoded_tagless part
joined_tagless (part ∷ next ∷ parts) =
    tagless_both (encoded part) (47 ∷ join_with_byte 47 (map encoded (next ∷ parts))) (encoded_tagless part) (joined_tagless (next ∷ parts))

pub path_tagless : (path : List ℕ) → Tagless (encoded_path path)
unfolding encoded_path
path_tagless path = joined_tagless (segments path)

-- ---- no tag of a name

isnt_angle : (b : ℕ) → (b == 60) ≡ false → eq_ignore_ascii_case b 60 ≡ false
isnt_angle b other =
    false_from_ne_true (eq_ignore_ascii_case b 60) (λ same.
    let is : b ≡ 60 = grind (arith, nat_tests) in
    true≢false (sym (ap (λ n. n == 60) is) ∙ other))

module _ (name : List ℕ) where
  -- in front of any text it makes no difference to whether a tag of the name begins
  abbrev pub Passes : List ℕ → Type 0
  Passes text = (rest : List ℕ) → holds_in_any_case (60 ∷ name) (text ++ rest) ≡ holds_in_any_case (60 ∷ name) rest

  pub passes : (hole : List ℕ) → Tagless hole → Passes hole
  passes [] none rest = refl
  passes (b ∷ hole) none rest =
      let parts = or_parts (is_less b) (list_any is_less hole) none in
      ap (λ v. (v && begins_in_any_case name (hole ++ rest)) || holds_in_any_case (60 ∷ name) (hole ++ rest)) (isnt_angle b parts.0)
      ∙ passes hole parts.1 rest

  pub two_pass : (a b : List ℕ) → Passes a → Passes b → Passes (a ++ b)
  two_pass a b one other rest = ap (holds_in_any_case (60 ∷ name)) (append_assoc a b rest) ∙ one (b ++ rest) ∙ other rest

  pub three_pass : (a b c : List ℕ) → Passes a → Passes b → Passes c → Passes (a ++ b ++ c)
  three_pass a b c first second third = two_pass (a ++ b) c (two_pass a b first second) third

  pub five_pass : (a b c d e : List ℕ) → Passes a → Passes b → Passes c → Passes d → Passes e → Passes (a ++ b ++ c ++ d ++ e)
  five_pass a b c d e first second third fourth fifth =
      three_pass (a ++ b ++ c) d e (three_pass a b c first second third) fourth fifth

  -- a name has no `<`, so a tag that begins in a text is in the text, where another tag stands behind it
  stays : (word text rest : List ℕ) → list_any (eq_ignore_ascii_case 60) word ≡ false
      → begins_in_any_case word (text ++ 60 ∷ rest) ≡ true → begins_in_any_case word text ≡ true
  stays [] text rest plain begins = refl
  stays (w ∷ word) [] rest plain begins =
      let other = (or_parts (eq_ignore_ascii_case 60 w) (list_any (eq_ignore_ascii_case 60) word) plain).0 in
      let same = (and_parts (eq_ignore_ascii_case 60 w) (begins_in_any_case word rest) begins).0 in
      absurd (true≢false (sym same ∙ other))
  stays (w ∷ word) (b ∷ text) rest plain begins =
      let parts = or_parts (eq_ignore_ascii_case 60 w) (list_any (eq_ignore_ascii_case 60) word) plain in
      let both = and_parts (eq_ignore_ascii_case b w) (begins_in_any_case word (text ++ 60 ∷ rest)) begins in
      and_from (eq_ignore_ascii_case b w) (begins_in_any_case word text) both.0 (stays word text rest parts.1 both.1)

  pub none_in_both : (text rest : List ℕ) → list_any (eq_ignore_ascii_case 60) name ≡ false
      → holds_in_any_case (60 ∷ name) text ≡ false → holds_in_any_case (60 ∷ name) (60 ∷ rest) ≡ false
      → holds_in_any_case (60 ∷ name) (text ++ 60 ∷ rest) ≡ false
  none_in_both [] rest plain none other = other
  none_in_both (b ∷ text) rest plain none other =
      let parts = or_parts (begins_in_any_case (60 ∷ name) (b ∷ text)) (holds_in_any_case (60 ∷ name) text) none in
      or_from (begins_in_any_case (60 ∷ name) (b ∷ text ++ 60 ∷ rest)) (holds_in_any_case (60 ∷ name) (text ++ 60 ∷ rest))
      (false_from_ne_true (begins_in_any_case (60 ∷ name) (b ∷ text ++ 60 ∷ rest)) (λ begins.
      let both = and_parts (eq_ignore_ascii_case b 60) (begins_in_any_case name (text ++ 60 ∷ rest)) begins in
      true≢false
      (sym (and_from (eq_ignore_ascii_case b 60) (begins_in_any_case name text) both.0 (stays name text rest plain both.1)) ∙ parts.0)))
      (none_in_both text rest plain parts.1 other)
