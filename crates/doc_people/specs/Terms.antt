-- The terms that people search for. All of this is this project's choice.
use Rattle.std.specs.Prelude.{ℕ, List, [], ◌∷◌, ◌++◌, length, map as mapped, Bool, ◌==◌, nat_lt, bytes_eq, if◌then◌else◌}
use Rattle.std.specs.List.{list_any, starts_with}
use Rattle.doc_words_search.specs.Words.{different, words_of}
use Rattle.doc_people.specs.Limits.{prefix_least}
use Rattle.doc_people.specs.declared.term.Term.{Term}
use Rattle.doc_people.specs.declared.term.Term.TheVariants.{Exact, Prefix}

-- a term meets a word that it stands for
abbrev pub meets : Term → List ℕ → Bool
meets (Exact text) word = bytes_eq text word
meets (Prefix text) word = starts_with ◌==◌ word text

-- a term meets one of the words of a text
abbrev pub meets_in : List ℕ → Term → Bool
meets_in text term = list_any (meets term) (words_of text)

-- each of the words once
abbrev pub exact_terms : List (List ℕ) → List Term
exact_terms words = mapped Exact (different words)

-- of words and the one behind them: that one, where it is long enough, stands for all that begin with it, as it may not be written out yet
abbrev pub terms_with : List (List ℕ) → List ℕ → List Term
terms_with words last =
    if nat_lt (length last) prefix_least then exact_terms (words ++ last ∷ []) else exact_terms words ++ Prefix last ∷ []

-- the terms of the words of a query, as they stand there: of those behind others
abbrev pub terms_behind : List (List ℕ) → List (List ℕ) → List Term
terms_behind before [] = []
terms_behind before (word ∷ []) = terms_with before word
terms_behind before (word ∷ other ∷ rest) = terms_behind (before ++ word ∷ []) (other ∷ rest)

-- the terms of a query
abbrev pub terms_of : List ℕ → List Term
terms_of query = terms_behind [] (words_of query)
