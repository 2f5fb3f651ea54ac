-- What queries ask for.
use Rattle.std.specs.Prelude.{ℕ, List, [], Result, Ok, Err, if◌then◌else◌}
use Rattle.doc_store_readers.specs.Sites.{View}
use Rattle.doc_words_search.specs.Words.{query_of}
use Rattle.doc_words_search.specs.declared.query.QueryError.{QueryError}
use Rattle.doc_people.specs.Hits.{hits}
use Rattle.doc_people.specs.Search.{asks_nothing, hits_part, refusal}
use Rattle.doc_people.specs.Terms.{terms_of}
use Rattle.doc_people.specs.Views.{Renders, rendered_pages}
use Rattle.doc_people.specs.declared.term.Term.{Term}
use Rattle.doc_people_search.specs.declared.asking.Asked.{Asked}
use Rattle.doc_people_search.specs.declared.asking.Asked.TheVariants.{For, Nothing, Refused}

-- its terms, or why it finds nothing
abbrev pub asked_by : List Term → Result (List (List ℕ)) QueryError → Asked
asked_by terms (Ok words) = For terms
asked_by terms (Err error) = Refused error

-- what a query asks for
abbrev pub asked : List ℕ → Asked
asked query = if asks_nothing query then Nothing else asked_by (terms_of query) (query_of query)

-- what is shown of that
abbrev pub found_of : Renders → View → Asked → List ℕ
found_of render view Nothing = []
found_of render view (For terms) = hits_part render view terms (hits (rendered_pages render view) terms)
found_of render view (Refused error) = refusal error

-- the code of the reply to it
abbrev pub code_of : Asked → ℕ
code_of Nothing = 200
code_of (For terms) = 200
code_of (Refused error) = 400
