-- Which texts of a page its snippet is sought in.
use Rattle.std.specs.Prelude.{ℕ, ◌+◌, List, [], ◌∷◌, Bool, not, ◌&&◌, bytes_eq, filter}
use Rattle.doc_page_parts.specs.Pages.{is_empty}
use Rattle.doc_people.specs.Limits.{read_limit}
use Rattle.doc_people.specs.Snippets.{best_text, met_in, within}
use Rattle.doc_people.specs.declared.term.Term.{Term}

-- a text that isn't empty, of a page with another title
abbrev pub is_read : List ℕ → List ℕ → Bool
is_read title text = not (is_empty text) && not (bytes_eq text title)

-- those of a page's texts that are read
abbrev pub read_of : List ℕ → List (List ℕ) → List (List ℕ)
read_of title texts = filter (is_read title) (within read_limit texts)

-- how many terms a text meets at least that is better than each of these: none where there is none, and else one more than the best
abbrev pub least_of : List Term → List (List ℕ) → ℕ
least_of terms [] = 0
least_of terms (text ∷ rest) = met_in terms (best_text terms (text ∷ rest)) + 1
