-- The definitions on examples.
use Rattle.std.proofs.Common.{◌≡◌, ℕ, List, [], ◌∷◌, length, codes, refl, ap, sym, ◌∙◌, arith}
use Rattle.std.specs.Prelude.{Ok, Err, map as mapped}
use Rattle.std.specs.Char.{encode_utf8}
use Rattle.std.specs.Cmp.Lexicographic.{slice_cmp}
use Rattle.std.specs.FinMap as map
use Rattle.std.specs.Ordering.{nat_cmp}
use Rattle.std.specs.Str.{chars}
use Rattle.std.proofs.lemmas.Cmp.{nat_list_cmp_total}
use Rattle.caseless.specs.Caseless.{default_case_fold}
use Rattle.ucd_case.proofs.Computing.{ucd_case}
use Rattle.ucd_category.proofs.Computing.{ucd_category}
use Rattle.doc_words_search.specs.Words.{checked, count, page_words, query_of, words_of}
use Rattle.doc_words_search.specs.declared.query.QueryError.TheVariants.{NoWords, TooManyWords}

-- ---- words

several : words_of (codes "Kiwi, kiwi-42!") ≡ codes "kiwi" ∷ codes "kiwi" ∷ codes "42" ∷ []
unfolding ucd_category ucd_case default_case_fold chars encode_utf8
several = refl

-- `straße` is the word that `STRASSE` is
sharp_s : words_of (115 ∷ 116 ∷ 114 ∷ 97 ∷ 0xC3 ∷ 0x9F ∷ 101 ∷ []) ≡ codes "strasse" ∷ []
unfolding ucd_category ucd_case default_case_fold chars encode_utf8
sharp_s = refl

capitals : words_of (codes "STRASSE") ≡ codes "strasse" ∷ []
unfolding ucd_category ucd_case default_case_fold chars encode_utf8
capitals = refl

-- U+FFFD is no word
replacement : words_of (0xEF ∷ 0xBF ∷ 0xBD ∷ []) ≡ []
unfolding ucd_category ucd_case default_case_fold chars encode_utf8
replacement = refl

-- a word ends with its text
two_texts : page_words (record { pieces = []; headings = []; texts = codes "ki" ∷ codes "wi" ∷ []; images = [] }) ≡ codes "ki" ∷ codes "wi" ∷ []
unfolding ucd_category ucd_case default_case_fold chars encode_utf8
two_texts = refl

-- ---- queries

abbrev puts : List (List ℕ × ℕ) → List (List ℕ × ℕ)
puts [] = []
puts (e ∷ es) = map.put (slice_cmp nat_cmp) e.0 e.1 (puts es)

nothing : (es : List (List ℕ × ℕ)) → length es ≡ 0 → es ≡ []
nothing [] e = refl
nothing (x ∷ es) e = absurd (omega arith)

entries_are : (es : List (List ℕ × ℕ)) → map.entries (map.from_entries {R = slice_cmp nat_cmp} es) ≡ puts es
entries_are [] = nothing (map.entries (map.empty {X = ℕ} {R = slice_cmp nat_cmp}))
    (sym (map.len-entries (map.empty {X = ℕ} {R = slice_cmp nat_cmp})) ∙ map.len-empty (slice_cmp nat_cmp) ℕ)
entries_are (e ∷ es) =
    map.entries-insert nat_list_cmp_total (map.from_entries {R = slice_cmp nat_cmp} es) e.0 e.1
    ∙ ap (map.put (slice_cmp nat_cmp) e.0 e.1) (entries_are es)

abbrev each_once : List (List ℕ) → List (List ℕ)
each_once words = mapped (λ e. e.0) (puts (mapped (λ w. (w, count words w)) words))

queried : (text : List ℕ) → query_of text ≡ checked (each_once (words_of text))
queried text = ap (λ es. checked (mapped (λ e. e.0) es)) (entries_are (mapped (λ w. (w, count (words_of text) w)) (words_of text)))

repeated : checked (each_once (words_of (codes "plum Kiwi PLUM"))) ≡ Ok (codes "kiwi" ∷ codes "plum" ∷ [])
unfolding ucd_category ucd_case default_case_fold chars encode_utf8
repeated = refl

repeated_query : query_of (codes "plum Kiwi PLUM") ≡ Ok (codes "kiwi" ∷ codes "plum" ∷ [])
repeated_query = queried (codes "plum Kiwi PLUM") ∙ repeated

no_words : checked (each_once (words_of (codes "?! -"))) ≡ Err NoWords
unfolding ucd_category ucd_case default_case_fold chars encode_utf8
no_words = refl

no_words_query : query_of (codes "?! -") ≡ Err NoWords
no_words_query = queried (codes "?! -") ∙ no_words

-- 16 different words are fine, and one of them may stand twice
sixteen : checked (each_once (words_of (codes "p o n m l k j i h g f e d c b a A")))
    ≡ Ok (codes "a" ∷ codes "b" ∷ codes "c" ∷ codes "d" ∷ codes "e" ∷ codes "f" ∷ codes "g" ∷ codes "h" ∷ codes "i" ∷ codes "j"
    ∷ codes "k" ∷ codes "l" ∷ codes "m" ∷ codes "n" ∷ codes "o" ∷ codes "p" ∷ [])
unfolding ucd_category ucd_case default_case_fold chars encode_utf8
sixteen = refl

seventeen : checked (each_once (words_of (codes "a b c d e f g h i j k l m n o p q"))) ≡ Err TooManyWords
unfolding ucd_category ucd_case default_case_fold chars encode_utf8
seventeen = refl

seventeen_query : query_of (codes "a b c d e f g h i j k l m n o p q") ≡ Err TooManyWords
seventeen_query = queried (codes "a b c d e f g h i j k l m n o p q") ∙ seventeen
