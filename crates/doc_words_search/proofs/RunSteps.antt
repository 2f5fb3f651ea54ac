-- The words of a text, character by character.
use Rattle.std.proofs.Common.{◌≡◌, ℕ, List, [], ◌∷◌, ◌++◌, ◌<◌, Bool, true, false, cond, not, if◌then◌else◌, refl, ap, sym, ◌∙◌}
use Rattle.std.proofs.Common.{◌==◌, append-nil, append_assoc, arith, chars, encode_utf8_all, length}
use Rattle.std.proofs.lemmas.Bool.Decides.{nat_tests}
use Rattle.std.specs.Prelude.{map as mapped}
use Rattle.std.specs.List.{filter, onto_first, slice_split}
use Rattle.std.specs.Str.{IsUtf8}
use Rattle.std.proofs.lemmas.Str.{encodes-chars, chars-nil}
use Rattle.std.proofs.lemmas.List.{nil_from_length}
use Rattle.doc_index_tables.specs.Maps.{TextMap}
use Rattle.doc_page_parts.specs.Pages.{is_empty}
use Rattle.doc_page_parts.proofs.Numbers.{zero_test_true}
use Rattle.doc_words_search.specs.Words.{folded, is_word_char, words_of}
use Rattle.doc_words_search.specs.WordSteps.{counted, one_more, word_if, words_after}
use Rattle.doc_words_search.proofs.CountSteps.{counted_append}

abbrev pieces : List ℕ → List (List ℕ)
pieces cs = slice_split (λ c. not (is_word_char c)) cs

abbrev whole : List ℕ → List (List ℕ)
whole [] = []
whole (c ∷ run) = (c ∷ run) ∷ []

-- a run before the first of the pieces
abbrev onto : List ℕ → List (List ℕ) → List (List ℕ)
onto run [] = whole run
onto run (piece ∷ more) = (run ++ piece) ∷ more

abbrev words_in : List (List ℕ) → List (List ℕ)
words_in parts = mapped folded (filter (λ run. not (is_empty run)) parts)

onto_pushed : (run : List ℕ) (c : ℕ) (parts : List (List ℕ)) → onto (run ++ c ∷ []) parts ≡ onto run (onto_first c parts)
onto_pushed [] c [] = refl
onto_pushed (r ∷ run) c [] = refl
onto_pushed run c (part ∷ parts) = ap (λ r. r ∷ parts) (append_assoc run (c ∷ []) part)

onto_none : (parts : List (List ℕ)) → onto [] parts ≡ parts
onto_none [] = refl
onto_none (part ∷ parts) = refl

first_run : (run : List ℕ) (parts : List (List ℕ)) → words_in (run ∷ parts) ≡ word_if run ++ words_in parts
first_run [] parts = refl
first_run (c ∷ run) parts = refl

after : (run cs : List ℕ) → words_after run cs ≡ words_in (onto run (pieces cs))
after run [] =
    sym (ap (λ r. words_in (r ∷ [])) (append-nil run) ∙ first_run run [] ∙ append-nil (word_if run))
after run (c ∷ cs) = by (is_word_char c) (after (run ++ c ∷ []) cs) (after [] cs)
  where
    by : (b : Bool) → words_after (run ++ c ∷ []) cs ≡ words_in (onto (run ++ c ∷ []) (pieces cs))
        → words_after [] cs ≡ words_in (onto [] (pieces cs))
        → (if b then words_after (run ++ c ∷ []) cs else word_if run ++ words_after [] cs)
        ≡ words_in (onto run (cond (not b) ([] ∷ pieces cs) (onto_first c (pieces cs))))
    by true on off = on ∙ ap words_in (onto_pushed run c (pieces cs))
    by false on off =
        ap (λ ws. word_if run ++ ws) (off ∙ ap words_in (onto_none (pieces cs)))
        ∙ sym (first_run run (pieces cs)) ∙ ap (λ r. words_in (r ∷ pieces cs)) (sym (append-nil run))

pub from_start : (text : List ℕ) → words_after [] (chars text) ≡ words_of text
from_start text = after [] (chars text) ∙ ap words_in (onto_none (pieces (chars text)))

-- a run without bytes has no characters, and no word
pub no_chars : (bytes : List ℕ) (test : Bool) → test ≡ (length bytes == 0) → test ≡ true → chars bytes ≡ []
no_chars bytes test e h = ap chars (nil_from_length bytes (zero_test_true test (length bytes) e h)) ∙ chars-nil

pub no_run : (counts : TextMap ℕ) (bytes : List ℕ) (test : Bool) → test ≡ (length bytes == 0) → test ≡ true
    → counts ≡ counted counts (word_if (chars bytes))
no_run counts bytes test e h = ap (λ r. counted counts (word_if r)) (sym (no_chars bytes test e h))

-- another has a word
pub one_run : (counts : TextMap ℕ) (bytes : List ℕ) (test : Bool) → IsUtf8 bytes → test ≡ (length bytes == 0) → test ≡ false
    → one_more counts (folded (chars bytes)) ≡ counted counts (word_if (chars bytes))
one_run counts bytes test u e h = at (chars bytes) (encodes-chars bytes u)
  where
    at : (cs : List ℕ) → encode_utf8_all cs ≡ bytes → one_more counts (folded cs) ≡ counted counts (word_if cs)
    at [] f =
        let none : length bytes ≡ 0 = sym (ap length f) in
        let some : (length bytes == 0) ≡ false = sym e ∙ h in
        absurd (grind (arith, nat_tests))
    at (c ∷ cs) f = refl

pub some_bytes : (bytes : List ℕ) (test : Bool) → test ≡ (length bytes == 0) → test ≡ false → 0 < length bytes
some_bytes bytes test e h = let some : (length bytes == 0) ≡ false = sym e ∙ h in grind (arith, nat_tests)

-- a character that ends a run, and the words behind it
pub gap_counted : (old new : TextMap ℕ) (run text rest behind : List ℕ) (c : ℕ) → words_after run (chars rest) ≡ words_of text
    → chars rest ≡ c ∷ chars behind → is_word_char c ≡ false → new ≡ counted old (word_if run)
    → counted new (words_of behind) ≡ counted old (words_of text)
gap_counted old new run text rest behind c all front gap is =
    ap (λ m. counted m (words_of behind)) is ∙ sym (counted_append old (word_if run) (words_of behind))
    ∙ ap (λ ws. counted old (word_if run ++ ws)) (sym (from_start behind))
    ∙ ap (counted old) (sym (ap (words_after run) front
    ∙ ap (λ t. if t then words_after (run ++ c ∷ []) (chars behind) else word_if run ++ words_after [] (chars behind)) gap) ∙ all)

-- the end of the text ends one too
pub end_counted : (old new : TextMap ℕ) (run text rest : List ℕ) → words_after run (chars rest) ≡ words_of text → chars rest ≡ []
    → new ≡ counted old (word_if run) → counted new (words_of []) ≡ counted old (words_of text)
end_counted old new run text rest all none is =
    ap (counted new) (sym (from_start []) ∙ ap (words_after []) chars-nil) ∙ is
    ∙ ap (counted old) (sym (ap (words_after run) none) ∙ all)
