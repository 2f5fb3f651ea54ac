-- Words of ASCII.
use Rattle.std.proofs.Common.{◌≡◌, ℕ, List, IsAscii, chars, encode_utf8_all, true, refl, ap, sym, ◌∙◌}
use Rattle.std.specs.Prelude.{map as mapped}
use Rattle.std.specs.Char.{is_ascii, is_ascii_alphanumeric, to_ascii_lowercase}
use Rattle.std.proofs.lemmas.Bool.{agree_below_at, ltb-true}
use Rattle.std.proofs.lemmas.Str.{chars-IsAscii}
use Rattle.std.proofs.lemmas.Str.Ascii.{IsAscii-map, encodes-IsAscii, lowercase_ascii}
use Rattle.caseless.proofs.CaselessLemmas.{All-chars, default_case_fold-ascii}
use Rattle.ucd_category.proofs.Computing.{ucd_category}
use Rattle.doc_words_search.specs.Words.{folded, is_word_char}

-- of ASCII the letters and digits stand in words
pub ascii_word_char : (c : ℕ) → is_ascii c ≡ true → is_ascii_alphanumeric c ≡ is_word_char c
unfolding ucd_category
ascii_word_char c ascii = agree_below_at is_ascii_alphanumeric is_word_char 128 c refl (ltb-true c 128 ascii)

-- text of ASCII is folded by its small letters
pub ascii_folded : (text : List ℕ) → IsAscii text → mapped to_ascii_lowercase text ≡ folded (chars text)
ascii_folded text ascii =
    sym (encodes-IsAscii (mapped to_ascii_lowercase text) (IsAscii-map to_ascii_lowercase text lowercase_ascii ascii))
    ∙ ap (λ cs. encode_utf8_all (mapped to_ascii_lowercase cs)) (sym (chars-IsAscii text ascii))
    ∙ ap encode_utf8_all (sym (default_case_fold-ascii (chars text) (All-chars text ascii)))
