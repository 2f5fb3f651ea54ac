-- Words in order: one more of a text, and counts of a list.
use Rattle.std.proofs.Common.{◌≡◌, ℕ, ◌+◌, ◌<◌, List, [], ◌∷◌, ◌++◌, Bool, true, false, refl, ap, sym, ◌∙◌, ◌==◌, append-nil, arith}
use Rattle.std.proofs.Common.{chars, encode_utf8_all, get_or, length, take}
use Rattle.std.specs.FinMap as map
use Rattle.std.specs.Str.{IsUtf8}
use Rattle.std.proofs.lemmas.Bool.Decides.{nat_tests}
use Rattle.std.proofs.lemmas.List.{take_more}
use Rattle.std.proofs.lemmas.Str.{encodes-chars}
use Rattle.doc_index_tables.specs.Maps.{TextMap}
use Rattle.doc_words_search.specs.Words.{folded}
use Rattle.doc_words_search.specs.WordSteps.{counted, one_more, word_if}
use Rattle.doc_words_search.proofs.CountSteps.{counted_append}
use Rattle.doc_words_search.proofs.RunSteps.{no_chars}

pub no_word : (words : List (List ℕ)) (bytes : List ℕ) (test : Bool) → test ≡ (length bytes == 0) → test ≡ true
    → words ≡ words ++ word_if (chars bytes)
no_word words bytes test e h = sym (ap (λ r. words ++ word_if r) (no_chars bytes test e h) ∙ append-nil words)

pub one_word : (words : List (List ℕ)) (bytes word : List ℕ) (test : Bool) → IsUtf8 bytes → test ≡ (length bytes == 0) → test ≡ false
    → word ≡ folded (chars bytes) → words ++ word ∷ [] ≡ words ++ word_if (chars bytes)
one_word words bytes word test u e h is = ap (λ w. words ++ w ∷ []) is ∙ at (chars bytes) (encodes-chars bytes u)
  where
    at : (cs : List ℕ) → encode_utf8_all cs ≡ bytes → words ++ folded cs ∷ [] ≡ words ++ word_if cs
    at [] f =
        let none : length bytes ≡ 0 = sym (ap length f) in
        let some : (length bytes == 0) ≡ false = sym e ∙ h in
        absurd (grind (arith, nat_tests))
    at (c ∷ cs) f = refl

pub word_more : (counts new : TextMap ℕ) (words : List (List ℕ)) (i : ℕ) (word : List ℕ) → i < length words → word ≡ get_or words i word
    → counts ≡ counted map.empty (take i words) → new ≡ one_more counts word → new ≡ counted map.empty (take (i + 1) words)
word_more counts new words i word low is so_far more =
    let next : take (i + 1) words ≡ take i words ++ word ∷ [] = take_more words i word low ∙ ap (λ t. take i words ++ t ∷ []) (sym is) in
    more ∙ ap (λ m. one_more m word) so_far
    ∙ sym (ap (counted map.empty) next ∙ counted_append map.empty (take i words) (word ∷ []))
