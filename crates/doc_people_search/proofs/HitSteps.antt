-- What is written of the pages that are found.
use Rattle.std.proofs.Common.{◌≡◌, ℕ, ◌+◌, ◌<◌, ◌≤◌, ◌++◌, List, [], ◌∷◌, refl, ap, sym, ◌∙◌, append_assoc, arith, get_or, length, take}
use Rattle.std.specs.Prelude.{Option, Some, None, option_and_then, option_map, chars, if◌then◌else◌, codes}
use Rattle.std.specs.List.{flat_map}
use Rattle.std.proofs.lemmas.Bool.{le-ltb, lt-ltb}
use Rattle.std.proofs.lemmas.List.{flat_map_more, take_more}
use Rattle.doc_page_parts.specs.declared.rendered.Rendered.{Rendered}
use Rattle.doc_store_readers.specs.Sites.{View}
use Rattle.doc_words_search.specs.declared.hit.Hit.{Hit}
use Rattle.doc_people.specs.Folders.{first_text, title_by}
use Rattle.doc_people.specs.Search.{best_of_them, hits_part, snippet_by}
use Rattle.doc_people.specs.Snippets.{best_text, snippet_of}
use Rattle.doc_people.specs.Views.{Renders}
use Rattle.doc_people.specs.declared.term.Term.{Term}
use Rattle.doc_people_search.specs.Finding.{found_list, none_found}
use Rattle.doc_people_search.specs.Reading.{read_of}

-- ---- which are shown

pub none_is : (render : Renders) (view : View) (terms : List Term) (hits : List Hit) (count : ℕ) → count ≡ length hits → count ≡ 0
    → none_found ≡ hits_part render view terms hits
none_is render view terms [] count is none = refl
none_is render view terms (hit ∷ hits) count is none = absurd (omega arith)

pub some_are : (render : Renders) (view : View) (terms : List Term) (hits best : List Hit) (count : ℕ) → count ≡ length hits → 0 < count
    → best ≡ take 50 hits → found_list render view terms count best ≡ hits_part render view terms hits
some_are render view terms [] best count is some b = absurd (omega arith)
some_are render view terms (hit ∷ hits) best count is some b =
    ap (λ n. found_list render view terms n best) is ∙ ap (found_list render view terms (length (hit ∷ hits))) b

pub no_more : (count : ℕ) → count ≤ 50 → [] ≡ best_of_them count
no_more count few = sym (ap (λ b. if b then codes " The best 50 are these." else []) (le-ltb 50 count few))

pub more : (count : ℕ) → 50 < count → codes " The best 50 are these." ≡ best_of_them count
more count many = sym (ap (λ b. if b then codes " The best 50 are these." else []) (lt-ltb 50 count many))

-- ---- what is written of them

pub one_written : {X : Type 0} (write : X → List ℕ) (old so_far new : List ℕ) (xs : List X) (i : ℕ) (x : X) → i < length xs
    → x ≡ get_or xs i x → so_far ≡ old ++ flat_map write (take i xs) → new ≡ so_far ++ write x
    → new ≡ old ++ flat_map write (take (i + 1) xs)
one_written write old so_far new xs i x low is so more =
    more ∙ ap (λ o. o ++ write x) so ∙ flat_map_more write old (take i xs) x
    ∙ ap (λ ys. old ++ flat_map write ys) (sym (take_more xs i x low ∙ ap (λ y. take i xs ++ y ∷ []) (sym is)))

pub line_written : (front page middle piece close end old o1 o2 o3 o4 o5 o6 : List ℕ) → o1 ≡ old ++ front → o2 ≡ o1 ++ page
    → o3 ≡ o2 ++ middle
    → o4 ≡ o3 ++ piece → o5 ≡ o4 ++ close → o6 ≡ o5 ++ end
    → o6 ≡ old ++ (front ++ (page ++ middle ++ piece ++ close) ++ end)
line_written front page middle piece close end old o1 o2 o3 o4 o5 o6 e1 e2 e3 e4 e5 e6 =
    let all : o6 ≡ old ++ front ++ page ++ middle ++ piece ++ close ++ end =
    e6 ∙ ap (λ o. o ++ end) (e5 ∙ ap (λ o. o ++ close) (e4 ∙ ap (λ o. o ++ piece) (e3 ∙ ap (λ o. o ++ middle)
    (e2 ∙ ap (λ o. o ++ page) e1)))) in
    all ∙ simp append_assoc

pub list_written : (front count best middle lines end old o1 o2 o3 o4 o5 o6 : List ℕ) → o1 ≡ old ++ front → o2 ≡ o1 ++ count
    → o3 ≡ o2 ++ best
    → o4 ≡ o3 ++ middle → o5 ≡ o4 ++ lines → o6 ≡ o5 ++ end
    → o6 ≡ old ++ (front ++ count ++ best ++ middle ++ lines ++ end)
list_written front count best middle lines end old o1 o2 o3 o4 o5 o6 e1 e2 e3 e4 e5 e6 =
    let all : o6 ≡ old ++ front ++ count ++ best ++ middle ++ lines ++ end =
    e6 ∙ ap (λ o. o ++ end) (e5 ∙ ap (λ o. o ++ lines) (e4 ∙ ap (λ o. o ++ middle) (e3 ∙ ap (λ o. o ++ best)
    (e2 ∙ ap (λ o. o ++ count) e1)))) in
    all ∙ simp append_assoc

-- ---- the snippet of a page that is seen

pub no_texts : (terms : List Term) (path : List ℕ) (page : Option Rendered) (texts : Option (List (List ℕ)))
    → texts ≡ option_map (λ page. page.texts) page → texts ≡ None → [] ≡ snippet_by terms path page
no_texts terms path None texts is none = refl
no_texts terms path (Some page) texts is none = absurd (cc)

pub seen : (terms : List Term) (path title : List ℕ) (page : Option Rendered) (texts : List (List ℕ))
    → Some texts ≡ option_map (λ page. page.texts) page
    → title ≡ title_by path (option_and_then (λ page. first_text page.headings) page)
    → snippet_of terms (chars (best_text terms (read_of title texts))) ≡ snippet_by terms path page
seen terms path title None texts t is = absurd (cc)
seen terms path title (Some page) texts t is =
    let same : texts ≡ page.texts = cc in
    ap (λ t. snippet_of terms (chars (best_text terms (read_of t texts)))) is
    ∙ ap (λ ts. snippet_of terms (chars (best_text terms (read_of (title_by path (first_text page.headings)) ts)))) same
