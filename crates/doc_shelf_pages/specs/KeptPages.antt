-- What is kept of pages: three maps, each by path and stamp. All of this is this project's choice.
use Rattle.std.specs.Prelude.{◌≡◌, ℕ, List, [], Bool, Option, Some, None, refl, if◌then◌else◌}
use Rattle.std.specs.Coded.{Coded, code_by, coded×, coded_bool, coded_list, coded_ℕ}
use Rattle.std.specs.FinMap as map
use Rattle.doc_index_tables.specs.Maps.{PairMap, TextMap}
use Rattle.doc_page_parts.specs.declared.rendered.Rendered.{Rendered}
use Rattle.doc_links_pages.specs.PageLinks.{page_links}
use Rattle.doc_links_pages.specs.declared.page_links.PageLinks.{PageLinks}
use Rattle.doc_words_search.specs.Held.{counts_or_none}
use Rattle.doc_words_search.specs.Words.{word_counts}

-- whether the texts of pages are kept; and what each page links to and its headings; the counts of its words; and its rendering, with or
-- without its texts
pub record Kept : Type 0 where
  pub with_texts : Bool
  pub links : PairMap PageLinks
  pub words : PairMap (TextMap ℕ)
  pub renderings : PairMap Rendered

abbrev pub pairs_code : {X : Type 0} → Coded X → Coded (PairMap X)
pairs_code code = map.code (coded× (coded_list coded_ℕ) coded_ℕ) code

abbrev pub kept_code : Coded PageLinks → Coded Rendered → Coded Kept
kept_code links rendered =
    code_by (Bool × (PairMap PageLinks × (PairMap (TextMap ℕ) × PairMap Rendered)))
    (coded× coded_bool (coded× (pairs_code links) (coded× (pairs_code (map.code (coded_list coded_ℕ) coded_ℕ)) (pairs_code rendered))))
    (λ k. (k.with_texts, (k.links, (k.words, k.renderings))))
    (λ p. record { with_texts = p.0; links = p.1.0; words = p.1.1.0; renderings = p.1.1.1 }) (λ _. refl)

-- a rendering without its texts, of which the words alone are kept
abbrev pub without_texts : Rendered → Rendered
without_texts page = record page { texts = [] }

-- a rendering as it is kept
abbrev pub kept_of : Bool → Rendered → Rendered
kept_of with_texts page = if with_texts then page else without_texts page

-- no page is kept
abbrev pub none_kept : Bool → Kept
none_kept with_texts = record { with_texts = with_texts; links = map.empty; words = map.empty; renderings = map.empty }

-- nothing is kept under a path and a stamp
pub record IsFree (kept : Kept) (path : List ℕ) (stamp : ℕ) : Type 0 where
  pub links : map.get kept.links (path, stamp) ≡ None
  pub words : map.get kept.words (path, stamp) ≡ None
  pub renderings : map.get kept.renderings (path, stamp) ≡ None

-- what is kept after a page is added under a path and a stamp
abbrev pub with_page : Kept → List ℕ → ℕ → Rendered → Kept
with_page kept path stamp page = record kept {
  links = map.insert kept.links (path, stamp) (page_links path page.pieces page.headings);
  words = map.insert kept.words (path, stamp) (word_counts page);
  renderings = map.insert kept.renderings (path, stamp) (kept_of kept.with_texts page);
}

-- what is kept after a rendering, if it is there, is carried to a path and a stamp with these words
abbrev pub carried_with : Kept → Option Rendered → TextMap ℕ → List ℕ → ℕ → Kept
carried_with kept None words to stamp = kept
carried_with kept (Some page) words to stamp = record kept {
  links = map.insert kept.links (to, stamp) (page_links to page.pieces page.headings);
  words = map.insert kept.words (to, stamp) words;
  renderings = map.insert kept.renderings (to, stamp) page;
}

-- what is kept after the page under one path and stamp, if it is there, is carried to others: it links as it does from there
abbrev pub carried : Kept → List ℕ → ℕ → List ℕ → ℕ → Kept
carried kept from from_stamp to stamp =
    carried_with kept (map.get kept.renderings (from, from_stamp)) (counts_or_none (map.get kept.words (from, from_stamp))) to stamp

-- what is kept after the page under a path and a stamp is let go
abbrev pub without_page : Kept → List ℕ → ℕ → Kept
without_page kept path stamp = record kept {
  links = map.remove kept.links (path, stamp);
  words = map.remove kept.words (path, stamp);
  renderings = map.remove kept.renderings (path, stamp);
}
