-- Folders, the titles and labels of pages and folders, and their addresses. A folder is the empty text, or segments each with `/` behind
-- it; it is there for a reader where they see a page below it. All of this is this project's choice.
use Rattle.std.specs.Prelude.{ℕ, ◌-◌, List, [], ◌∷◌, ◌++◌, length, take, drop, map as mapped, filter, Bool, not, ◌||◌, ◌==◌, nat_le, bytes_eq}
use Rattle.std.specs.Prelude.{chars, encode_utf8_all, codes, Option, Some, None, option_and_then, if◌then◌else◌}
use Rattle.std.specs.List.{after_last, dedup, list_any, starts_with, suffix_len}
use Rattle.doc_page_parts.specs.Pages.{is_empty}
use Rattle.doc_page_parts.specs.declared.rendered.Heading.{Heading}
use Rattle.doc_page_encoding.specs.Encoding.{encoded_path}
use Rattle.doc_store_readers.specs.Sites.{View}
use Rattle.doc_people.specs.Limits.{short_limit}
use Rattle.doc_people.specs.Settings.{ends_with}
use Rattle.doc_people.specs.Views.{Renders, paths, rendered_at, sees}

-- ---- folders

-- the byte behind each segment of a folder
abbrev pub is_slash : ℕ → Bool
is_slash b = b == 47

-- a folder, and not the path of a page: empty, or its last byte is `/`
abbrev pub is_folder : List ℕ → Bool
is_folder place = is_empty place || ends_with 47 place

-- the folder of a page: its path up to the last `/`, with it; of a folder itself
abbrev pub folder_of : List ℕ → List ℕ
folder_of place = take (length place - suffix_len (λ b. not (is_slash b)) place) place

-- the text without its last byte
abbrev pub without_last : List ℕ → List ℕ
without_last text = take (length text - 1) text

-- the folder that a folder stands in; of the empty one itself
abbrev pub parent : List ℕ → List ℕ
parent folder = folder_of (without_last folder)

-- the page that stands for a folder, where it is there
abbrev pub index_of : List ℕ → List ℕ
index_of folder = folder ++ codes "index.md"

-- the last segment of a path
abbrev pub last_segment : List ℕ → List ℕ
last_segment path = after_last is_slash path

-- the last segment of a path or of a folder
abbrev pub name : List ℕ → List ℕ
name place = last_segment (if is_folder place then without_last place else place)

-- ---- what stands in a folder

-- the path or folder begins with this folder
abbrev pub is_below : List ℕ → List ℕ → Bool
is_below folder place = starts_with ◌==◌ place folder

-- a folder is seen where a path begins with it
abbrev pub sees_folder : View → List ℕ → Bool
sees_folder view folder = list_any (is_below folder) (paths view)

-- a text up to its first `/`, with it, or all of it where it has none
abbrev pub through_slash : List ℕ → List ℕ
through_slash [] = []
through_slash (b ∷ rest) = b ∷ (if is_slash b then [] else through_slash rest)

-- what a folder shows of a path that begins with it: the path, where no `/` follows, and else the folder up to the first one
abbrev pub key : List ℕ → List ℕ → List ℕ
key folder path = folder ++ through_slash (drop (length folder) path)

-- what stands in a folder, pages and folders, each once, in the order of the paths
unfoldable pub keys : View → List ℕ → List (List ℕ)
keys view folder = dedup bytes_eq (mapped (key folder) (filter (is_below folder) (paths view)))

-- ---- titles

-- the text of the first heading whose text isn't empty
abbrev pub first_text : List Heading → Option (List ℕ)
first_text [] = None
first_text (heading ∷ rest) = if is_empty heading.text then first_text rest else Some heading.text

-- the same of the page at this path
abbrev pub heading_title : Renders → View → List ℕ → Option (List ℕ)
heading_title render view path = option_and_then (λ page. first_text page.headings) (rendered_at render view path)

-- the title of the page at a path, by that text
abbrev pub title_by : List ℕ → Option (List ℕ) → List ℕ
title_by path None = path
title_by path (Some text) = text

-- the title of a page: that, or else its path
abbrev pub title : Renders → View → List ℕ → List ℕ
title render view path = title_by path (heading_title render view path)

-- U+2026, which stands where something is left out
abbrev pub ellipsis : List ℕ
ellipsis = 0xE2 ∷ 0x80 ∷ 0xA6 ∷ []

-- of 80 characters at most: the text, or its first 79 and `…`
unfoldable pub short : List ℕ → List ℕ
short text =
    if nat_le (length (chars text)) short_limit then text
    else encode_utf8_all (take (short_limit - 1) (chars text)) ++ ellipsis

-- ---- labels: what links to pages and folders read

-- the label of the page at a path, by that text: the text, shortened, or else the last segment of the path
abbrev pub label_by : List ℕ → Option (List ℕ) → List ℕ
label_by path None = name path
label_by path (Some text) = short text

-- the label of the page at this path
abbrev pub label : Renders → View → List ℕ → List ℕ
label render view path = label_by path (heading_title render view path)

-- that of the page that stands for the folder, where it is seen, and else the folder's name
abbrev pub folder_label : Renders → View → List ℕ → List ℕ
folder_label render view [] = codes "Home"
folder_label render view (b ∷ rest) =
    if sees view (index_of (b ∷ rest)) then label render view (index_of (b ∷ rest)) else name (b ∷ rest)

-- ---- addresses, which need no escaping

-- the address of a page
abbrev pub page_href : List ℕ → List ℕ
page_href path = codes "/page/" ++ encoded_path path

-- the contents of a folder
abbrev pub contents_href : List ℕ → List ℕ
contents_href [] = codes "/contents"
contents_href (b ∷ rest) = codes "/contents/" ++ encoded_path (b ∷ rest)

-- a folder: the page that stands for it, where it is seen, and else its contents
abbrev pub folder_href : View → List ℕ → List ℕ
folder_href view folder = if sees view (index_of folder) then page_href (index_of folder) else contents_href folder

-- where a page or a folder is edited, or a page begun; of a folder, what begins a page in it
abbrev pub edit_href : List ℕ → List ℕ
edit_href place = codes "/edit/" ++ encoded_path place
