-- What is found is what a query asks for.
use Rattle.std.proofs.Common.{◌≡◌, ℕ, List, [], ◌++◌, Bool, true, false, Result, Ok, Err, if◌then◌else◌, refl, ap, append_assoc, sym, ◌∙◌, codes}
use Rattle.std.specs.Prelude.{None}
use Rattle.doc_store_readers.specs.Sites.{View}
use Rattle.doc_words_search.specs.Words.{query_of}
use Rattle.doc_words_search.specs.declared.query.QueryError.{QueryError}
use Rattle.doc_people.specs.Search.{ask, asks_nothing, code_by, found, found_by, search_body, search_code}
use Rattle.doc_people.specs.Shell.{shell}
use Rattle.doc_people.specs.Terms.{terms_of}
use Rattle.doc_people.specs.Views.{Renders}
use Rattle.doc_people.specs.declared.settings.Browse.{Browse}
use Rattle.doc_people.specs.declared.settings.Offers.{Offers}
use Rattle.doc_people.specs.declared.term.Term.{Term}
use Rattle.doc_people_search.specs.Asking.{asked, asked_by, code_of, found_of}
use Rattle.doc_people_search.specs.declared.asking.Asked.{Asked}
use Rattle.doc_people_search.specs.declared.asking.Asked.TheVariants.{For, Nothing, Refused}

found_at : (render : Renders) (view : View) (nothing : Bool) (terms : List Term) (words : Result (List (List ℕ)) QueryError)
    → found_of render view (if nothing then Nothing else asked_by terms words)
    ≡ (if nothing then [] else found_by render view terms words)
found_at render view true terms words = refl
found_at render view false terms (Ok words) = refl
found_at render view false terms (Err error) = refl

pub found_is : (render : Renders) (view : View) (query : List ℕ) → found_of render view (asked query) ≡ found render view query
found_is render view query = found_at render view (asks_nothing query) (terms_of query) (query_of query)

code_at : (nothing : Bool) (terms : List Term) (words : Result (List (List ℕ)) QueryError)
    → code_of (if nothing then Nothing else asked_by terms words) ≡ (if nothing then 200 else code_by words)
code_at true terms words = refl
code_at false terms (Ok words) = refl
code_at false terms (Err error) = refl

pub code_is : (query : List ℕ) → code_of (asked query) ≡ search_code query
code_is query = code_at (asks_nothing query) (terms_of query) (query_of query)

pub body_is : (render : Renders) (settings : Browse) (offers : Offers) (view : View) (query main : List ℕ) (what : Asked)
    → what ≡ asked query → main ≡ codes "<h1>Search</h1>\n" ++ ask query ++ found_of render view what
    → shell render settings offers view (codes "Search") None main [] ≡ search_body render settings offers view query
unfolding search_body
body_is render settings offers view query main what is m =
    ap (λ p. shell render settings offers view (codes "Search") None p [])
    (m ∙ ap (λ w. codes "<h1>Search</h1>\n" ++ ask query ++ found_of render view w) is
    ∙ ap (λ f. codes "<h1>Search</h1>\n" ++ ask query ++ f) (found_is render view query))

pub code_of_query : (query : List ℕ) (what : Asked) (code : ℕ) → what ≡ asked query → code ≡ code_of what → code ≡ search_code query
code_of_query query what code is c = c ∙ ap code_of is ∙ code_is query

-- what a query asks for, by what was found of it
pub asks_for_nothing : (query : List ℕ) (test : Bool) → test ≡ asks_nothing query → test ≡ true → Nothing ≡ asked query
asks_for_nothing query test t on = ap (λ b. if b then Nothing else asked_by (terms_of query) (query_of query)) (sym on ∙ t)

pub asks_for : (query : List ℕ) (test : Bool) (words : List (List ℕ)) (terms : List Term) → test ≡ asks_nothing query → test ≡ false
    → query_of query ≡ Ok words → terms ≡ terms_of query → For terms ≡ asked query
asks_for query test words terms t off w is =
    ap For is ∙ ap (asked_by (terms_of query)) (sym w)
    ∙ ap (λ b. if b then Nothing else asked_by (terms_of query) (query_of query)) (sym off ∙ t)

pub asks_too_much : (query : List ℕ) (test : Bool) (error : QueryError) → test ≡ asks_nothing query → test ≡ false
    → query_of query ≡ Err error → Refused error ≡ asked query
asks_too_much query test error t off e =
    ap (asked_by (terms_of query)) (sym e)
    ∙ ap (λ b. if b then Nothing else asked_by (terms_of query) (query_of query)) (sym off ∙ t)

-- ---- the form

pub ask_written : (form before query behind button old o1 o2 o3 o4 o5 : List ℕ) → o1 ≡ old ++ form → o2 ≡ o1 ++ before → o3 ≡ o2 ++ query
    → o4 ≡ o3 ++ behind → o5 ≡ o4 ++ button → o5 ≡ old ++ (form ++ before ++ query ++ behind ++ button)
ask_written form before query behind button old o1 o2 o3 o4 o5 e1 e2 e3 e4 e5 =
    let all : o5 ≡ old ++ form ++ before ++ query ++ behind ++ button =
    e5 ∙ ap (λ o. o ++ button) (e4 ∙ ap (λ o. o ++ behind) (e3 ∙ ap (λ o. o ++ query) (e2 ∙ ap (λ o. o ++ before) e1))) in
    all ∙ simp append_assoc
