-- Laws of the definitions; the proofs are in proofs/.
use Rattle.std.specs.Prelude.{◌≡◌, ℕ, List, [], ◌∷◌, ◌++◌, Bool, true, false, not, ◌||◌, filter, map as mapped, nat_lt, codes, Option}
use Rattle.std.specs.Prelude.{sum_by, if◌then◌else◌}
use Rattle.std.specs.Cmp.Lexicographic.{slice_cmp}
use Rattle.std.specs.FinMap as map
use Rattle.std.specs.List.{list_all, list_any}
use Rattle.std.specs.List.Sorted.{IsStrictlySortedBy}
use Rattle.std.specs.Ordering.{nat_cmp}
use Rattle.std.specs.Str.{is_utf8}
use Rattle.doc_media.specs.Media.{Beside}
use Rattle.doc_media_links.specs.Images.{told_of}
use Rattle.doc_page_parts.specs.declared.rendered.Rendered.{Rendered}
use Rattle.doc_page_encoding.specs.Encoding.{encoded}
use Rattle.doc_page_parts.specs.Pages.{is_empty}
use Rattle.doc_store_readers.specs.Sites.{Site, View, goal_in, view_of}
use Rattle.doc_store_readers.specs.declared.reader.Reader.{Reader}
use Rattle.doc_words_search.specs.Words.{capped, word_counts}
use Rattle.doc_people.specs.BrokenLinks.{Group, by_source, is_hash, written_anchor, written_path}
use Rattle.doc_people.specs.Folders.{keys}
use Rattle.doc_people.specs.Hits.{count_of}
use Rattle.doc_people.specs.Inert.{begins_in_any_case, has_apostrophe, inert}
use Rattle.doc_people.specs.Sources.{broken_links, linked_pages}
use Rattle.doc_people.specs.Terms.{meets}
use Rattle.doc_people.specs.declared.term.Term.{Term}
use Rattle.doc_people.specs.Views.{Renders, paths, rendered_pages}

-- the word stands somewhere in the text, in any case of ASCII letters
abbrev pub holds_in_any_case : List ℕ → List ℕ → Bool
holds_in_any_case word [] = begins_in_any_case word []
holds_in_any_case word (b ∷ rest) = begins_in_any_case word (b ∷ rest) || holds_in_any_case word rest

-- inert HTML begins no form
abbrev pub InertHtmlHasNoForms : Type 0
InertHtmlHasNoForms = (html : List ℕ) → holds_in_any_case (codes "<form") (inert html) ≡ false

-- inert HTML begins no frame
abbrev pub InertHtmlHasNoFrames : Type 0
InertHtmlHasNoFrames = (html : List ℕ) → holds_in_any_case (codes "<iframe") (inert html) ≡ false

-- HTML that begins none and has no `'` is inert as it is
abbrev pub InertHtmlStays : Type 0
InertHtmlStays =
    (html : List ℕ) → holds_in_any_case (codes "<form") html ≡ false → holds_in_any_case (codes "<iframe") html ≡ false
    → has_apostrophe html ≡ false → inert html ≡ html

-- the paths of a view of a site rise in the order of bytes
abbrev pub PathsRise : Type 0
PathsRise = (site : Site) (reader : Option Reader) → IsStrictlySortedBy (slice_cmp nat_cmp) (paths (view_of site reader))

-- where the paths of a view rise in the order of bytes, what stands in a folder does, so each of it stands there once
abbrev pub KeysRise : Type 0
KeysRise =
    (view : View) (folder : List ℕ) → IsStrictlySortedBy (slice_cmp nat_cmp) (paths view)
    → IsStrictlySortedBy (slice_cmp nat_cmp) (keys view folder)

-- how many words of a page a term meets is the sum of the counts of those that it meets
abbrev pub CountsAreSums : Type 0
CountsAreSums =
    (page : Rendered) (term : Term)
    → count_of page term ≡ capped (sum_by (λ entry. if meets term entry.0 then entry.1 else 0) (map.entries (word_counts page)))

-- where a link with an anchor is broken, the path that it writes is read from what is told of it
abbrev pub WrittenPathsAreRead : Type 0
WrittenPathsAreRead =
    (path anchor : List ℕ) → list_any is_hash path ≡ false → written_path (path ++ codes "#" ++ encoded anchor) ≡ path

-- and so is the anchor, which is a text
abbrev pub WrittenAnchorsAreRead : Type 0
WrittenAnchorsAreRead =
    (path anchor : List ℕ) → list_any is_hash path ≡ false → list_all (λ b. nat_lt b 256) anchor ≡ true → is_utf8 anchor ≡ true
    → written_anchor (path ++ codes "#" ++ encoded anchor) ≡ anchor

-- a page with its broken links and images
abbrev pub broken_in : Renders → View → Beside → List ℕ × Rendered → Group
broken_in render view media page =
    (page.0, told_of (goal_in view) (linked_pages render view) media page)

abbrev pub has_links : Group → Bool
has_links group = not (is_empty group.1)

-- where the paths of a view rise, the pages with broken links or images are listed each once, with all of these
abbrev pub GroupsArePages : Type 0
GroupsArePages =
    (render : Renders) (view : View) (media : Beside) → IsStrictlySortedBy (slice_cmp nat_cmp) (paths view)
    → by_source (broken_links render view media) ≡ filter has_links (mapped (broken_in render view media) (rendered_pages render view))
