-- Laws of what is held of a store's pages: asked by what a reader sees, it answers what the definitions say of the reader's view.
use Rattle.std.specs.Prelude.{◌≡◌, ℕ, List, length, true, bytes_eq, Option, Some, option_map}
use Rattle.std.specs.Cmp.Lexicographic.{slice_cmp}
use Rattle.std.specs.FinMap as map
use Rattle.std.specs.List.{list_any}
use Rattle.std.specs.List.Sorted.{IsStrictlySortedBy}
use Rattle.std.specs.Map.{keys_of}
use Rattle.std.specs.Ordering.{nat_cmp}
use Rattle.doc_index_tables.specs.Maps.{PairMap, TextMap}
use Rattle.doc_links_pages.specs.Links.{backlinks, broken_with, contents, leads_to}
use Rattle.doc_links_pages.specs.PageLinks.{IsOnce, pages_of as pages_with_links}
use Rattle.doc_links_pages.specs.declared.answers.Broken.{Broken}
use Rattle.doc_links_pages.specs.declared.page_links.PageLinks.{PageLinks}
use Rattle.doc_page_parts.specs.Sights.{seen}
use Rattle.doc_resolve.specs.declared.link_kind.LinkKind.TheVariants.{Page as page_link}
use Rattle.doc_store_readers.specs.declared.reader.Reader.{Reader}
use Rattle.doc_store.specs.Names.{AreNames, names_of}
use Rattle.doc_store_readers.specs.Pages.{Page}
use Rattle.doc_store_readers.specs.Sites.{Site, IsSite, View, goal_in, page_at, view_of, visible_to}
use Rattle.doc_store.specs.Store.{StoreState, IsStore}
use Rattle.doc_words_search.specs.Searches.{search, pages_of as pages_with_words}
use Rattle.doc_words_search.specs.Words.{word_counts}
use Rattle.doc_shelf_pages.specs.Held.{HasOneStamp, by_path, held_links, held_of, held_words, rendered_under}
use Rattle.doc_media.specs.Media.{Beside}
use Rattle.doc_media_links.specs.MediaLinks.{broken_beside}
use Rattle.doc_shelf_pages.specs.Images.{images_behind}
use Rattle.doc_shelf_pages.specs.Views.{Renders, backlinks_body, backlinks_in, broken_in, contents_body, contents_in, hits_in}
use Rattle.doc_shelf_pages.specs.Views.{links_in, rendered_pages, report_body, search_body}

-- what a reader sees of the site of a store
abbrev pub seen_in : StoreState → Reader → View
seen_in store reader = view_of store.site (Some reader)

-- of what an index holds, what a reader sees of it: each page with its links
abbrev pub links_seen : StoreState → Reader → PairMap PageLinks → List (List ℕ × PageLinks)
links_seen store reader index = seen (goal_in (seen_in store reader)) (pages_with_links index)

-- and with its words
abbrev pub words_seen : StoreState → Reader → PairMap (TextMap ℕ) → List (List ℕ × TextMap ℕ)
words_seen store reader index = seen (goal_in (seen_in store reader)) (pages_with_words index)

-- the links of these that are broken where a reader sees these media, and behind those of each page its images that show nothing
abbrev pub broken_seen : Renders → StoreState → Reader → PairMap PageLinks → Beside → List Broken
broken_seen render store reader index media =
    broken_beside media
    (broken_with (images_behind render store media) (goal_in (seen_in store reader)) (links_seen store reader index))

-- ---- what is held

-- Under a path and a stamp stands what the renderer makes of the text of the page at that path, where the page has that stamp, and
-- else nothing; in an index of links what this links to and its headings, in one of words the counts of its words.
pub record HoldsPages (render : Renders) (store : StoreState) : Type 0 where
  pub pages : (path : List ℕ) (stamp : ℕ) → map.get (held_of render store) (path, stamp)
      ≡ rendered_under render stamp (map.get store.stamps path) (map.get store.site.pages path)
  pub links : (path : List ℕ) (stamp : ℕ) → map.get (held_links render store) (path, stamp)
      ≡ option_map (links_in path) (map.get (held_of render store) (path, stamp))
  pub words : (path : List ℕ) (stamp : ℕ) → map.get (held_words render store) (path, stamp)
      ≡ option_map word_counts (map.get (held_of render store) (path, stamp))

abbrev pub WhatIsHeld : Type 0
WhatIsHeld = (render : Renders) (store : StoreState) → HoldsPages render store

-- each path is held under one stamp
pub record IsHeldOnce (render : Renders) (store : StoreState) : Type 0 where
  pub pages : HasOneStamp (held_of render store)
  pub links : IsOnce (held_links render store)
  pub words : HasOneStamp (held_words render store)

abbrev pub EachIsHeldOnce : Type 0
EachIsHeldOnce = (render : Renders) (store : StoreState) → IsHeldOnce render store

-- ---- what is seen of it

-- Of what is held a reader sees the pages of the reader's view, each with what the renderer makes of its text, in the order of the
-- paths, each path once.
pub record SeesHeldPages (render : Renders) (store : StoreState) (reader : Reader) : Type 0 where
  pub pages : seen (goal_in (seen_in store reader)) (by_path (held_of render store)) ≡ rendered_pages render (seen_in store reader)
  pub in_order : IsStrictlySortedBy (slice_cmp nat_cmp) (keys_of (rendered_pages render (seen_in store reader)))

abbrev pub HeldIsSeen : Type 0
HeldIsSeen = (render : Renders) (store : StoreState) (reader : Reader) → IsStore store → SeesHeldPages render store reader

-- ---- answers

abbrev pub ContentsAreTheViews : Type 0
ContentsAreTheViews =
    (render : Renders) (store : StoreState) (reader : Reader) (index : PairMap PageLinks)
    → IsStore store → index ≡ held_links render store
    → contents (links_seen store reader index) ≡ contents_in render (seen_in store reader)

abbrev pub BacklinksAreTheViews : Type 0
BacklinksAreTheViews =
    (render : Renders) (store : StoreState) (reader : Reader) (index : PairMap PageLinks) (path : List ℕ)
    → IsStore store → index ≡ held_links render store
    → backlinks (goal_in (seen_in store reader)) (links_seen store reader index) path ≡ backlinks_in render (seen_in store reader) path

abbrev pub BrokenAreTheViews : Type 0
BrokenAreTheViews =
    (render : Renders) (store : StoreState) (reader : Reader) (index : PairMap PageLinks) (media : Beside)
    → IsStore store → index ≡ held_links render store
    → broken_seen render store reader index media ≡ broken_in render (seen_in store reader) media

abbrev pub HitsAreTheViews : Type 0
HitsAreTheViews =
    (render : Renders) (store : StoreState) (reader : Reader) (index : PairMap (TextMap ℕ)) (words : List (List ℕ))
    → IsStore store → index ≡ held_words render store
    → search (words_seen store reader index) words ≡ hits_in render (seen_in store reader) words

-- ---- what the store knows besides

-- The names of a page that a reader sees are the written paths under which it is known in the reader's view, each once: a link leads to
-- the page, among what is seen of an index, where the path that it writes is one of them.
pub record NamesAreKnown (render : Renders) (store : StoreState) (reader : Reader) (path : List ℕ) : Type 0 where
  pub names : AreNames (names_of store.site path) (goal_in (seen_in store reader)) path
  pub links : (name : List ℕ) (anchor : Option (List ℕ))
      → leads_to (goal_in (seen_in store reader)) (links_seen store reader (held_links render store)) path (page_link name anchor)
      ≡ list_any (bytes_eq name) (names_of store.site path)

abbrev pub NamesOfTargets : Type 0
NamesOfTargets =
    (render : Renders) (store : StoreState) (reader : Reader) (path : List ℕ) (page : Page)
    → IsStore store → page_at (seen_in store reader).pages path ≡ Some page → NamesAreKnown render store reader path

-- as many pages are seen of what is held as stand in the reader's view
abbrev pub CountsOfSeen : Type 0
CountsOfSeen =
    (render : Renders) (store : StoreState) (reader : Reader) (index : PairMap (TextMap ℕ))
    → IsStore store → index ≡ held_words render store
    → length (seen_in store reader).pages ≡ length (words_seen store reader index)

-- ---- noninterference

-- two views have the same bodies
pub record SameBodies (render : Renders) (view other : View) : Type 0 where
  pub of_contents : contents_body render view ≡ contents_body render other
  pub of_backlinks : (path : List ℕ) → backlinks_body render view path ≡ backlinks_body render other path
  pub of_search : (words : List (List ℕ)) → search_body render view words ≡ search_body render other words
  pub of_report : (media : Beside) → report_body render view media ≡ report_body render other media

-- What a reader is answered of a site is what is answered of the cut of it, taken as a site: to that reader, and to an owner, who sees
-- the whole of it.
pub record AnswersOfCut : Type 0 where
  pub again : (render : Renders) (site : Site) (reader : Option Reader)
      → SameBodies render (view_of site reader) (view_of (visible_to site reader) reader)
  pub whole : (render : Renders) (site : Site) (reader : Option Reader) (owner : Reader) → IsSite site → owner.owner ≡ true
      → SameBodies render (view_of site reader) (view_of (visible_to site reader) (Some owner))

-- what is held of two stores answers a reader alike
pub record SameAnswers (render : Renders) (store other : StoreState) (reader : Reader) : Type 0 where
  pub of_contents : contents (links_seen store reader (held_links render store))
      ≡ contents (links_seen other reader (held_links render other))
  pub of_backlinks : (path : List ℕ)
      → backlinks (goal_in (seen_in store reader)) (links_seen store reader (held_links render store)) path
      ≡ backlinks (goal_in (seen_in other reader)) (links_seen other reader (held_links render other)) path
  pub of_search : (words : List (List ℕ))
      → search (words_seen store reader (held_words render store)) words ≡ search (words_seen other reader (held_words render other)) words
  pub of_report : (media : Beside) → broken_seen render store reader (held_links render store) media
      ≡ broken_seen render other reader (held_links render other) media

-- where the reader's views of two stores are the same: whatever else stands in them, and whatever stamps their pages have
abbrev pub StoresAnswerAlike : Type 0
StoresAnswerAlike =
    (render : Renders) (store other : StoreState) (reader : Reader)
    → IsStore store → IsStore other → seen_in store reader ≡ seen_in other reader → SameAnswers render store other reader
