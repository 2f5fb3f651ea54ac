-- Lists as a whole, from what is asked of a view.
use Rattle.std.proofs.Common.{◌≡◌, ℕ, List, [], ◌++◌, codes, take, ap, ◌∙◌}
use Rattle.std.specs.Prelude.{Some, None, Result, Ok, Err, IfOk, option_map, slice_get}
use Rattle.doc_page_parts.specs.Escaping.{escaped}
use Rattle.doc_links_pages.specs.declared.answers.Broken.{Broken}
use Rattle.doc_store_readers.specs.Sites.{View}
use Rattle.doc_people.specs.BrokenLinks.{broken_body, broken_from, broken_main, by_source}
use Rattle.doc_people.specs.Folders.{contents_href, folder_of, label, page_href}
use Rattle.doc_people.specs.Lines.{link}
use Rattle.doc_people.specs.Lists.{backlink_line, backlinks_body, backlinks_main, contents_body, contents_from, contents_line}
use Rattle.doc_people.specs.Lists.{contents_main}
use Rattle.doc_people.specs.Lists.{contents_title, list_or_note, note_from, pager, sources_from}
use Rattle.doc_people.specs.Pages.{backlinks_href}
use Rattle.doc_people.specs.Shell.{shell}
use Rattle.doc_media.specs.Media.{Beside}
use Rattle.doc_people.specs.Sources.{broken_links}
use Rattle.doc_people.specs.Views.{Renders}
use Rattle.doc_people.specs.declared.settings.Browse.{Browse}
use Rattle.doc_people.specs.declared.settings.Offers.{Offers}
use Rattle.doc_people_lists.proofs.PartSteps.{next_of_more, shown_of_more}

-- what is answered is what is told, also where that is another text
pub as_made : {E : Type 0} (r : Result (List ℕ) E) (told text : List ℕ) → told ≡ text → IfOk r (λ t. t ≡ told) → IfOk r (λ t. t ≡ text)
as_made (Ok x) told text same answered = answered ∙ same
as_made (Err e) told text same answered = tt

-- the main part of the contents of a folder, with this title
abbrev pub contents_with : Renders → View → List ℕ → List ℕ → List ℕ → List (List ℕ) → List ℕ
contents_with render view folder from title keys =
    codes "<h1>" ++ escaped title ++ codes "</h1>\n"
    ++ list_or_note (contents_line render view) (note_from from (codes "There is no page that you may read.")) (take 200 keys)
    ++ pager (contents_href folder) from (slice_get keys 200)

module _ (render : Renders) (view : View) where
  -- the contents of a folder
  contents_shown : (folder from : List ℕ) (keys : List (List ℕ))
      → contents_main render view folder from (take 201 keys) ≡ contents_main render view folder from keys
  contents_shown folder from keys =
      ap (λ shown. codes "<h1>" ++ escaped (contents_title render view folder) ++ codes "</h1>\n"
      ++ list_or_note (contents_line render view) (note_from from (codes "There is no page that you may read.")) shown
      ++ pager (contents_href folder) from (slice_get (take 201 keys) 200)) (shown_of_more 200 keys)
      ∙ ap (λ next. codes "<h1>" ++ escaped (contents_title render view folder) ++ codes "</h1>\n"
      ++ list_or_note (contents_line render view) (note_from from (codes "There is no page that you may read.")) (take 200 keys)
      ++ pager (contents_href folder) from next) (next_of_more 200 keys)

  -- the pages that link to one
  backlinks_shown : (path from : List ℕ) (sources : List (List ℕ × ℕ))
      → backlinks_main render view path from (take 201 sources) ≡ backlinks_main render view path from sources
  backlinks_shown path from sources =
      ap (λ shown. codes "<h1>Pages that link to " ++ link (page_href path) (label render view path) ++ codes "</h1>\n"
      ++ list_or_note (backlink_line render view) (note_from from (codes "No other page links here.")) shown
      ++ pager (backlinks_href path) from (option_map (λ (source : List ℕ × ℕ). source.0) (slice_get (take 201 sources) 200)))
      (shown_of_more 200 sources)
      ∙ ap (λ next. codes "<h1>Pages that link to " ++ link (page_href path) (label render view path) ++ codes "</h1>\n"
      ++ list_or_note (backlink_line render view) (note_from from (codes "No other page links here.")) (take 200 sources)
      ++ pager (backlinks_href path) from (option_map (λ (source : List ℕ × ℕ). source.0) next)) (next_of_more 200 sources)

  module _ (settings : Browse) (offers : Offers) where
    pub contents_made : (folder from title written main : List ℕ) (keys : List (List ℕ)) → title ≡ contents_title render view folder
        → written ≡ contents_title render view folder → keys ≡ take 201 (contents_from view folder from)
        → main ≡ contents_with render view folder from written keys
        → shell render settings offers view title (Some folder) main [] ≡ contents_body render settings offers view folder from
    unfolding contents_body
    contents_made folder from title written main keys title_is written_is keys_are main_is =
        ap (λ t. shell render settings offers view title (Some folder) t [])
        (main_is
        ∙ ap (λ t. contents_with render view folder from t keys) written_is
        ∙ ap (contents_main render view folder from) keys_are ∙ contents_shown folder from (contents_from view folder from))
        ∙ ap (λ t. shell render settings offers view t (Some folder)
        (contents_main render view folder from (contents_from view folder from)) [])
        title_is

    pub backlinks_made : (path from title folder main : List ℕ) (sources : List (List ℕ × ℕ))
        → title ≡ codes "Pages that link to " ++ label render view path → folder ≡ folder_of path
        → sources ≡ take 201 (sources_from render view path from)
        → main ≡ backlinks_main render view path from sources
        → shell render settings offers view title (Some folder) main [] ≡ backlinks_body render settings offers view path from
    unfolding backlinks_body
    backlinks_made path from title folder main sources title_is folder_is sources_are main_is =
        ap (λ t. shell render settings offers view t (Some folder) main []) title_is
        ∙ ap (λ f. shell render settings offers view (codes "Pages that link to " ++ label render view path) (Some f) main []) folder_is
        ∙ ap (λ t. shell render settings offers view (codes "Pages that link to " ++ label render view path) (Some (folder_of path)) t [])
        (main_is ∙ ap (backlinks_main render view path from) sources_are ∙ backlinks_shown path from (sources_from render view path from))

    pub broken_made : (media : Beside) (from main : List ℕ) (links : List Broken)
        → links ≡ broken_from from (broken_links render view media)
        → main ≡ broken_main render offers view media from (by_source links)
        → shell render settings offers view (codes "Broken links") None main [] ≡ broken_body render settings offers view media from
    unfolding broken_body
    broken_made media from main links links_are main_is =
        ap (λ t. shell render settings offers view (codes "Broken links") None t [])
        (main_is ∙ ap (λ ls. broken_main render offers view media from (by_source ls)) links_are)
