-- Examples: searches.
use Rattle.std.proofs.Common.{◌≡◌, ℕ, List, [], ◌∷◌, ◌++◌, codes, refl, ap, ◌∙◌}
use Rattle.std.specs.Prelude.{None, Result, Ok, Err, if◌then◌else◌}
use Rattle.doc_store_readers.specs.Sites.{View}
use Rattle.doc_words_search.specs.Words.{query_of}
use Rattle.doc_words_search.specs.declared.query.QueryError.{QueryError}
use Rattle.doc_words_search.specs.declared.query.QueryError.TheVariants.{NoWords}
use Rattle.doc_people.specs.Search.{ask, asks_nothing, best_of_them, code_by, found_by, pages_found, search_body, search_code}
use Rattle.doc_people.specs.Shell.{shell}
use Rattle.doc_people.specs.Terms.{terms_of}
use Rattle.doc_people.specs.declared.term.Term.{Term}
use Rattle.doc_people.specs.declared.term.Term.TheVariants.{Exact, Prefix}
use Rattle.doc_people.proofs.Bodies.{bar, front}
use Rattle.doc_people.proofs.Computing.{search_words}
use Rattle.doc_people.proofs.QuerySteps.{exact_are, queried}
use Rattle.doc_people.proofs.Sites.{defaults, no_offers, demo, for_ann, for_ann_later}

-- the page of a query by its terms and its words
abbrev page_with : View → List ℕ → List Term → Result (List (List ℕ)) QueryError → List ℕ
page_with view query terms words =
    shell demo defaults no_offers view (codes "Search") None
    (codes "<h1>Search</h1>\n" ++ ask query ++ (if asks_nothing query then [] else found_by demo view terms words)) []

searched : (view : View) (query : List ℕ) (terms : List Term) (words : Result (List (List ℕ)) QueryError)
    → terms_of query ≡ terms → query_of query ≡ words → search_body demo defaults no_offers view query ≡ page_with view query terms words
unfolding search_body
searched view query terms words terms_are words_are =
    ap (λ t. page_with view query t (query_of query)) terms_are ∙ ap (page_with view query terms) words_are

-- a search for the front of a word
front_of_a_word :
    search_body demo defaults no_offers for_ann (codes "hel")
    ≡
    front (codes "Search") ++ bar ++ codes "<main id=\".main\">\n<h1>Search</h1>\n"
    ++ codes "<form class=\"ask\" role=\"search\" action=\"/search\" aria-label=\"Search all pages\">\n"
    ++ codes "<input type=\"search\" name=\"q\" value=\"hel\" aria-label=\"Words\">\n<button>Search</button>\n</form>\n"
    ++ codes "<p class=\"found\">1 page found.</p>\n<ol class=\"hits\">\n"
    ++ codes "<li><a href=\"/page/a.md\">a.md</a> <span class=\"path\">a.md</span>\n<p><mark>Hello</mark></p></li>\n</ol>\n"
    ++ codes "</main>\n<nav class=\"tree\" id=\".pages\" aria-label=\"Pages\">\n"
    ++ codes "<p class=\"top\"><a href=\"/contents\">Home</a></p>\n<ul>\n<li><a href=\"/page/a.md\">a.md</a></li>\n"
    ++ codes "<li><a href=\"/page/b.md\">b.md</a></li>\n</ul>\n</nav>\n</div>\n</body>\n</html>\n"
unfolding search_words
front_of_a_word =
    searched for_ann (codes "hel") (Prefix (codes "hel") ∷ []) (Ok (codes "hel" ∷ []))
    (ap (λ t. t ++ Prefix (codes "hel") ∷ []) (exact_are [])) (queried (codes "hel"))

-- a search without words
no_words :
    search_body demo defaults no_offers for_ann (codes "!")
    ≡
    front (codes "Search") ++ bar ++ codes "<main id=\".main\">\n<h1>Search</h1>\n"
    ++ codes "<form class=\"ask\" role=\"search\" action=\"/search\" aria-label=\"Search all pages\">\n"
    ++ codes "<input type=\"search\" name=\"q\" value=\"!\" aria-label=\"Words\">\n<button>Search</button>\n</form>\n"
    ++ codes "<p>A query is words: letters and numbers. This one has none.</p>\n</main>\n"
    ++ codes "<nav class=\"tree\" id=\".pages\" aria-label=\"Pages\">\n<p class=\"top\"><a href=\"/contents\">Home</a></p>\n"
    ++ codes "<ul>\n<li><a href=\"/page/a.md\">a.md</a></li>\n<li><a href=\"/page/b.md\">b.md</a></li>\n</ul>\n</nav>\n"
    ++ codes "</div>\n</body>\n</html>\n"
unfolding search_words
no_words =
    searched for_ann (codes "!") ([]) (Err NoWords)
    refl (queried (codes "!"))

-- a search, with a snippet
with_a_snippet :
    search_body demo defaults no_offers for_ann_later (codes "on kiw")
    ≡
    front (codes "Search") ++ bar ++ codes "<main id=\".main\">\n<h1>Search</h1>\n"
    ++ codes "<form class=\"ask\" role=\"search\" action=\"/search\" aria-label=\"Search all pages\">\n"
    ++ codes "<input type=\"search\" name=\"q\" value=\"on kiw\" aria-label=\"Words\">\n<button>Search</button>\n</form>\n"
    ++ codes "<p class=\"found\">1 page found.</p>\n<ol class=\"hits\">\n"
    ++ codes "<li><a href=\"/page/g/guide.md\">The guide</a> <span class=\"path\">g/guide.md</span>\n"
    ++ codes "<p><mark>On</mark> <mark>kiwis</mark> &amp; plums.</p></li>\n</ol>\n</main>\n"
    ++ codes "<nav class=\"tree\" id=\".pages\" aria-label=\"Pages\">\n<p class=\"top\"><a href=\"/contents\">Home</a></p>\n"
    ++ codes "<ul>\n<li><a href=\"/page/a.md\">a.md</a></li>\n<li><a href=\"/page/b.md\">b.md</a></li>\n"
    ++ codes "<li class=\"dir\"><a href=\"/contents/g/\">g</a></li>\n</ul>\n</nav>\n</div>\n</body>\n</html>\n"
unfolding search_words
with_a_snippet =
    searched for_ann_later (codes "on kiw") (Exact (codes "on") ∷ Prefix (codes "kiw") ∷ []) (Ok (codes "kiw" ∷ codes "on" ∷ []))
    (ap (λ t. t ++ Prefix (codes "kiw") ∷ []) (exact_are (codes "on" ∷ []))) (queried (codes "on kiw"))

-- a search that finds nothing
nothing_found :
    search_body demo defaults no_offers for_ann_later (codes "pear")
    ≡
    front (codes "Search") ++ bar ++ codes "<main id=\".main\">\n<h1>Search</h1>\n"
    ++ codes "<form class=\"ask\" role=\"search\" action=\"/search\" aria-label=\"Search all pages\">\n"
    ++ codes "<input type=\"search\" name=\"q\" value=\"pear\" aria-label=\"Words\">\n<button>Search</button>\n</form>\n"
    ++ codes "<p class=\"found\">No page that you may read has all of these words.</p>\n</main>\n"
    ++ codes "<nav class=\"tree\" id=\".pages\" aria-label=\"Pages\">\n<p class=\"top\"><a href=\"/contents\">Home</a></p>\n"
    ++ codes "<ul>\n<li><a href=\"/page/a.md\">a.md</a></li>\n<li><a href=\"/page/b.md\">b.md</a></li>\n"
    ++ codes "<li class=\"dir\"><a href=\"/contents/g/\">g</a></li>\n</ul>\n</nav>\n</div>\n</body>\n</html>\n"
unfolding search_words
nothing_found =
    searched for_ann_later (codes "pear") (Prefix (codes "pear") ∷ []) (Ok (codes "pear" ∷ []))
    (ap (λ t. t ++ Prefix (codes "pear") ∷ []) (exact_are [])) (queried (codes "pear"))

-- the codes of their replies
code_with : (query : List ℕ) (words : Result (List (List ℕ)) QueryError) → query_of query ≡ words
    → search_code query ≡ (if asks_nothing query then 200 else code_by words)
code_with query words words_are = ap (λ w. if asks_nothing query then 200 else code_by w) words_are

code_of_words : search_code (codes "hel") ≡ 200
unfolding search_words
code_of_words = code_with (codes "hel") (Ok (codes "hel" ∷ [])) (queried (codes "hel"))

code_of_no_words : search_code (codes "!") ≡ 400
unfolding search_words
code_of_no_words = code_with (codes "!") (Err NoWords) (queried (codes "!"))

code_of_nothing : search_code (codes "  ") ≡ 200
code_of_nothing = refl

-- how many pages are found, and that there are more
told :
    (pages_found 1 ≡ codes "1 page found.")
    × (pages_found 12 ≡ codes "12 pages found.")
    × (best_of_them 50 ≡ [])
    × (best_of_them 51 ≡ codes " The best 50 are these.")
unfolding search_words
told = (refl, refl, refl, refl)
