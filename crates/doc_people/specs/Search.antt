-- The page for people that searches. All of this is this project's choice.
use Rattle.std.specs.Prelude.{ℕ, List, [], ◌∷◌, ◌++◌, length, take, ◌==◌, Bool, nat_lt, codes, decimal, Option, Some, None, Result, Ok, Err}
use Rattle.std.specs.Prelude.{if◌then◌else◌}
use Rattle.std.specs.List.{flat_map, list_all}
use Rattle.doc_page_parts.specs.Escaping.{escaped}
use Rattle.doc_page_parts.specs.declared.rendered.Rendered.{Rendered}
use Rattle.doc_store_readers.specs.Sites.{View}
use Rattle.doc_words_search.specs.Words.{query_of}
use Rattle.doc_words_search.specs.declared.hit.Hit.{Hit}
use Rattle.doc_words_search.specs.declared.query.QueryError.{QueryError}
use Rattle.doc_words_search.specs.declared.query.QueryError.TheVariants.{Memory, NoWords, TooManyWords}
use Rattle.doc_people.specs.Hits.{hits}
use Rattle.doc_people.specs.Limits.{hit_limit}
use Rattle.doc_people.specs.Lines.{item}
use Rattle.doc_people.specs.Lists.{page_and_path}
use Rattle.doc_people.specs.Shell.{shell}
use Rattle.doc_people.specs.Snippets.{snippet}
use Rattle.doc_people.specs.Terms.{terms_of}
use Rattle.doc_people.specs.declared.term.Term.{Term}
use Rattle.doc_people.specs.Views.{Renders, rendered_at, rendered_pages}
use Rattle.doc_people.specs.declared.settings.Browse.{Browse}
use Rattle.doc_people.specs.declared.settings.Offers.{Offers}

-- ---- what is found

-- a query of nothing, or of spaces alone
abbrev pub asks_nothing : List ℕ → Bool
asks_nothing query = list_all (λ b. b == 32) query

-- the snippet of the page at a path, where there is one
abbrev pub snippet_by : List Term → List ℕ → Option Rendered → List ℕ
snippet_by terms path None = []
snippet_by terms path (Some page) = snippet terms (path, page)

-- a page that is found
abbrev pub hit_line : Renders → View → List Term → Hit → List ℕ
hit_line render view terms hit =
    item (page_and_path render view hit.path ++ codes "\n<p>" ++ snippet_by terms hit.path (rendered_at render view hit.path) ++ codes "</p>")

-- how many pages are found
abbrev pub pages_found : ℕ → List ℕ
pages_found n = decimal n ++ (if n == 1 then codes " page" else codes " pages") ++ codes " found."

-- where there are more than are shown
abbrev pub best_of_them : ℕ → List ℕ
best_of_them n = if nat_lt hit_limit n then codes " The best 50 are these." else []

-- the pages that are found, the best ones first, or that there is none
abbrev pub hits_part : Renders → View → List Term → List Hit → List ℕ
hits_part render view terms [] = codes "<p class=\"found\">No page that you may read has all of these words.</p>\n"
hits_part render view terms (hit ∷ rest) =
    codes "<p class=\"found\">" ++ pages_found (length (hit ∷ rest)) ++ best_of_them (length (hit ∷ rest))
    ++ codes "</p>\n<ol class=\"hits\">\n" ++ flat_map (hit_line render view terms) (take hit_limit (hit ∷ rest)) ++ codes "</ol>\n"

-- why a query finds nothing; no query is refused for memory
abbrev pub refusal : QueryError → List ℕ
refusal NoWords = codes "<p>A query is words: letters and numbers. This one has none.</p>\n"
refusal TooManyWords = codes "<p>A query has 16 different words at most. This one has more.</p>\n"
refusal Memory = []

-- what the terms of a query find, or why the query finds nothing
abbrev pub found_by : Renders → View → List Term → Result (List (List ℕ)) QueryError → List ℕ
found_by render view terms (Ok words) = hits_part render view terms (hits (rendered_pages render view) terms)
found_by render view terms (Err error) = refusal error

-- below the form
abbrev pub found : Renders → View → List ℕ → List ℕ
found render view query = if asks_nothing query then [] else found_by render view (terms_of query) (query_of query)

-- ---- the page

-- the form, with the query in it
abbrev pub ask : List ℕ → List ℕ
ask query =
    codes "<form class=\"ask\" role=\"search\" action=\"/search\" aria-label=\"Search all pages\">\n"
    ++ codes "<input type=\"search\" name=\"q\" value=\"" ++ escaped query ++ codes "\" aria-label=\"Words\">\n"
    ++ codes "<button>Search</button>\n</form>\n"

-- the main part
abbrev pub search_main : Renders → View → List ℕ → List ℕ
search_main render view query = codes "<h1>Search</h1>\n" ++ ask query ++ found render view query

-- what a query finds
unfoldable pub search_body : Renders → Browse → Offers → View → List ℕ → List ℕ
search_body render settings offers view query =
    shell render settings offers view (codes "Search") None (search_main render view query) []

-- the code of the reply to a query, by its words
abbrev pub code_by : Result (List (List ℕ)) QueryError → ℕ
code_by (Ok words) = 200
code_by (Err error) = 400

-- the code of the reply: 400 where the query has no words or too many
abbrev pub search_code : List ℕ → ℕ
search_code query = if asks_nothing query then 200 else code_by (query_of query)
