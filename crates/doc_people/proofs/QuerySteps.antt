-- The different words of texts, written out, and the terms of queries.
use Rattle.std.proofs.Common.{◌≡◌, ℕ, List, [], ◌∷◌, length, refl, ap, sym, ◌∙◌, arith}
use Rattle.std.specs.Prelude.{map as mapped}
use Rattle.std.specs.Cmp.Lexicographic.{slice_cmp}
use Rattle.std.specs.FinMap as map
use Rattle.std.specs.Ordering.{nat_cmp}
use Rattle.std.proofs.lemmas.Cmp.{nat_list_cmp_total}
use Rattle.doc_words_search.specs.Words.{checked, count, different, query_of, words_of}
use Rattle.doc_people.specs.declared.term.Term.{Term}
use Rattle.doc_people.specs.declared.term.Term.TheVariants as terms

abbrev pub puts : List (List ℕ × ℕ) → List (List ℕ × ℕ)
puts [] = []
puts (e ∷ es) = map.put (slice_cmp nat_cmp) e.0 e.1 (puts es)

nothing : (es : List (List ℕ × ℕ)) → length es ≡ 0 → es ≡ []
nothing [] e = refl
nothing (x ∷ es) e = absurd (omega arith)

pub entries_are : (es : List (List ℕ × ℕ)) → map.entries (map.from_entries {R = slice_cmp nat_cmp} es) ≡ puts es
entries_are [] = nothing (map.entries (map.empty {X = ℕ} {R = slice_cmp nat_cmp}))
    (sym (map.len-entries (map.empty {X = ℕ} {R = slice_cmp nat_cmp})) ∙ map.len-empty (slice_cmp nat_cmp) ℕ)
entries_are (e ∷ es) =
    map.entries-insert nat_list_cmp_total (map.from_entries {R = slice_cmp nat_cmp} es) e.0 e.1
    ∙ ap (map.put (slice_cmp nat_cmp) e.0 e.1) (entries_are es)

-- the different ones of words, computed
abbrev pub each_once : List (List ℕ) → List (List ℕ)
each_once words = mapped (λ e. e.0) (puts (mapped (λ w. (w, count words w)) words))

pub different_are : (words : List (List ℕ)) → different words ≡ each_once words
different_are words = ap (mapped (λ e. e.0)) (entries_are (mapped (λ w. (w, count words w)) words))

pub queried : (text : List ℕ) → query_of text ≡ checked (each_once (words_of text))
queried text = ap checked (different_are (words_of text))

-- the terms of words and the one behind them, where that one stands for all that begin with it
abbrev pub exact : List (List ℕ) → List Term
exact words = mapped terms.Exact words

pub exact_are : (words : List (List ℕ)) → mapped terms.Exact (different words) ≡ exact (each_once words)
exact_are words = ap exact (different_are words)
