-- Searches on worked examples.
use Rattle.std.proofs.Common.{◌≡◌, ℕ, ◌+◌, ◌/◌, ◌%◌, List, [], ◌∷◌, ◌++◌, true, false, codes, map as mapped, refl, ap, ◌∙◌}
use Rattle.std.specs.Prelude.{Option, Some}
use Rattle.std.specs.Char.{encode_utf8}
use Rattle.std.specs.Fmt.{digits}
use Rattle.std.specs.List.{flat_map, range_with_len}
use Rattle.std.specs.Str.{chars}
use Rattle.caseless.specs.Caseless.{default_case_fold}
use Rattle.ucd_case.proofs.Computing.{ucd_case}
use Rattle.ucd_category.proofs.Computing.{ucd_category}
use Rattle.doc_listings.specs.Listings.{hits_text}
use Rattle.doc_page_parts.specs.declared.rendered.Piece.TheVariants.{Html}
use Rattle.doc_store_readers.specs.declared.reader.Reader.{Reader}
use Rattle.doc_store_readers.specs.Pages.{Page}
use Rattle.doc_store_readers.specs.Sites.{View, view_of}
use Rattle.doc_words_search.specs.Searches.{best}
use Rattle.doc_shelf_pages.specs.Views.{Renders, rendered_pages, search_body}
use Rattle.doc_shelf_pages.proofs.OnLists.{Counts, Entries, at, counts_of, search_is, site_of, view_is, view_on}

abbrev staff : List (List ℕ)
staff = codes "staff" ∷ []

abbrev ops : List (List ℕ)
ops = codes "ops" ∷ []

abbrev ann : Option Reader
ann = Some (record { owner = false; groups = staff })

abbrev owner : Option Reader
owner = Some (record { owner = true; groups = [] })

abbrev page_for : List (List ℕ) → List ℕ → Page
page_for groups text = record { groups = groups; text = text }

-- a renderer that makes one paragraph of each text
abbrev paragraph : Renders
paragraph text = record { pieces = Html (codes "<p>" ++ text ++ codes "</p>\n") ∷ []; headings = []; texts = text ∷ []; images = [] }

abbrev kiwi : List ℕ
kiwi = codes "kiwi"

abbrev plum : List ℕ
plum = codes "plum"

-- the counts of the words of the pages that are seen, written out
abbrev counts_on : View → List (List ℕ × Counts)
counts_on view = mapped (λ page. (page.0, counts_of page.1)) (rendered_pages paragraph view)

-- what is found by counts that are written out
found_by : (view : View) (counts : List (List ℕ × Counts)) (words : List (List ℕ)) (text : List ℕ) → counts_on view ≡ counts
    → hits_text (best at counts words) ≡ text → search_body paragraph view words ≡ text
found_by view counts words text counted found =
    ap hits_text (search_is (rendered_pages paragraph view) words ∙ ap (λ pages. best at pages words) counted) ∙ found

-- ---- scores: a word is weighed by the pages that are seen; r.md is hidden from ann, and s.md has no words

abbrev four : Entries Page
four =
    (codes "p.md", page_for staff (codes "kiwi plum")) ∷ (codes "q.md", page_for staff (codes "kiwi kiwi"))
    ∷ (codes "r.md", page_for ops plum) ∷ (codes "s.md", page_for staff []) ∷ []

abbrev counts_for_ann : List (List ℕ × Counts)
counts_for_ann =
    (codes "p.md", (kiwi, 1) ∷ (plum, 1) ∷ []) ∷ (codes "q.md", (kiwi, 2) ∷ (kiwi, 2) ∷ []) ∷ (codes "s.md", []) ∷ []

abbrev counts_for_an_owner : List (List ℕ × Counts)
counts_for_an_owner =
    (codes "p.md", (kiwi, 1) ∷ (plum, 1) ∷ []) ∷ (codes "q.md", (kiwi, 2) ∷ (kiwi, 2) ∷ []) ∷ (codes "r.md", (plum, 1) ∷ [])
    ∷ (codes "s.md", []) ∷ []

counted_for_ann : counts_on (view_on four [] ann) ≡ counts_for_ann
unfolding ucd_category ucd_case default_case_fold chars encode_utf8
counted_for_ann = refl

counted_for_an_owner : counts_on (view_on four [] owner) ≡ counts_for_an_owner
unfolding ucd_category ucd_case default_case_fold chars encode_utf8
counted_for_an_owner = refl

-- what a search of the site answers, by what is found among the counts
module _ (words : List (List ℕ)) (text : List ℕ) where
  for_ann : hits_text (best at counts_for_ann words) ≡ text → search_body paragraph (view_of (site_of four []) ann) words ≡ text
  for_ann found =
      ap (λ v. search_body paragraph v words) (view_is four [] tt tt ann)
      ∙ found_by (view_on four [] ann) counts_for_ann words text counted_for_ann found

  for_an_owner : hits_text (best at counts_for_an_owner words) ≡ text
      → search_body paragraph (view_of (site_of four []) owner) words ≡ text
  for_an_owner found =
      ap (λ v. search_body paragraph v words) (view_is four [] tt tt owner)
      ∙ found_by (view_on four [] owner) counts_for_an_owner words text counted_for_an_owner found

kiwi_for_ann : search_body paragraph (view_of (site_of four []) ann) (kiwi ∷ []) ≡ codes "2\tq.md\n1\tp.md\n"
unfolding hits_text digits
kiwi_for_ann = for_ann (kiwi ∷ []) (codes "2\tq.md\n1\tp.md\n") refl

kiwi_for_an_owner : search_body paragraph (view_of (site_of four []) owner) (kiwi ∷ []) ≡ codes "4\tq.md\n2\tp.md\n"
unfolding hits_text digits
kiwi_for_an_owner = for_an_owner (kiwi ∷ []) (codes "4\tq.md\n2\tp.md\n") refl

plum_for_ann : search_body paragraph (view_of (site_of four []) ann) (plum ∷ []) ≡ codes "3\tp.md\n"
unfolding hits_text digits
plum_for_ann = for_ann (plum ∷ []) (codes "3\tp.md\n") refl

plum_for_an_owner : search_body paragraph (view_of (site_of four []) owner) (plum ∷ []) ≡ codes "2\tp.md\n2\tr.md\n"
unfolding hits_text digits
plum_for_an_owner = for_an_owner (plum ∷ []) (codes "2\tp.md\n2\tr.md\n") refl

both_for_ann : search_body paragraph (view_of (site_of four []) ann) (kiwi ∷ plum ∷ []) ≡ codes "4\tp.md\n"
unfolding hits_text digits
both_for_ann = for_ann (kiwi ∷ plum ∷ []) (codes "4\tp.md\n") refl

both_for_an_owner : search_body paragraph (view_of (site_of four []) owner) (kiwi ∷ plum ∷ []) ≡ codes "4\tp.md\n"
unfolding hits_text digits
both_for_an_owner = for_an_owner (kiwi ∷ plum ∷ []) (codes "4\tp.md\n") refl

nothing_found : search_body paragraph (view_of (site_of four []) ann) (codes "pear" ∷ []) ≡ []
unfolding hits_text digits
nothing_found = for_ann (codes "pear" ∷ []) [] refl

-- ---- the first 100 are taken of the pages that are seen: of 101 pages the first is hidden from ann

abbrev number : ℕ → List ℕ
number n = (48 + n / 100) ∷ (48 + n / 10 % 10) ∷ (48 + n % 10) ∷ []

abbrev name : ℕ → List ℕ
name n = codes "s" ++ number n ++ codes ".md"

abbrev many : Entries Page
many = (name 0, page_for ops (codes "kiwi kiwi")) ∷ mapped (λ n. (name n, page_for staff kiwi)) (range_with_len 1 100)

abbrev ones : List (List ℕ × Counts)
ones = mapped (λ n. (name n, (kiwi, 1) ∷ [])) (range_with_len 1 100)

abbrev lines_of : List ℕ → List ℕ
lines_of numbers = flat_map (λ n. codes "1\t" ++ name n ++ codes "\n") numbers

many_counted_for_ann : counts_on (view_on many [] ann) ≡ ones
unfolding ucd_category ucd_case default_case_fold chars encode_utf8
many_counted_for_ann = refl

many_counted_for_an_owner : counts_on (view_on many [] owner) ≡ (name 0, (kiwi, 2) ∷ (kiwi, 2) ∷ []) ∷ ones
unfolding ucd_category ucd_case default_case_fold chars encode_utf8
many_counted_for_an_owner = refl

hundred_lines : hits_text (best at ones (kiwi ∷ [])) ≡ lines_of (range_with_len 1 100)
unfolding hits_text digits
hundred_lines = refl

first_and_99_lines : hits_text (best at ((name 0, (kiwi, 2) ∷ (kiwi, 2) ∷ []) ∷ ones) (kiwi ∷ []))
    ≡ codes "2\ts000.md\n" ++ lines_of (range_with_len 1 99)
unfolding hits_text digits
first_and_99_lines = refl

many_for_ann : search_body paragraph (view_of (site_of many []) ann) (kiwi ∷ []) ≡ lines_of (range_with_len 1 100)
many_for_ann =
    ap (λ v. search_body paragraph v (kiwi ∷ [])) (view_is many [] tt tt ann)
    ∙ found_by (view_on many [] ann) ones (kiwi ∷ []) (lines_of (range_with_len 1 100)) many_counted_for_ann hundred_lines

many_for_an_owner : search_body paragraph (view_of (site_of many []) owner) (kiwi ∷ []) ≡ codes "2\ts000.md\n" ++ lines_of (range_with_len 1 99)
many_for_an_owner =
    ap (λ v. search_body paragraph v (kiwi ∷ [])) (view_is many [] tt tt owner)
    ∙ found_by (view_on many [] owner) ((name 0, (kiwi, 2) ∷ (kiwi, 2) ∷ []) ∷ ones) (kiwi ∷ [])
    (codes "2\ts000.md\n" ++ lines_of (range_with_len 1 99)) many_counted_for_an_owner first_and_99_lines
