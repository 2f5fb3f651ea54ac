-- The navigation: the folders that lead to a place, and what stands around it in its folder. A place is the path of a page of the view, or
-- a folder; some pages stand at none. All of this is this project's choice.
use Rattle.std.specs.Prelude.{ℕ, ◌-◌, List, [], ◌∷◌, ◌++◌, length, take, drop, filter, Bool, false, not, ◌||◌, ◌&&◌, nat_lt, bytes_eq}
use Rattle.std.specs.Prelude.{codes, Option, Some, None, if◌then◌else◌}
use Rattle.std.specs.Cmp.Lexicographic.{slice_cmp}
use Rattle.std.specs.List.{flat_map}
use Rattle.std.specs.Ordering.{is_lt, nat_cmp}
use Rattle.doc_store_readers.specs.Sites.{View}
use Rattle.doc_people.specs.Folders.{contents_href, folder_href, folder_label, folder_of, index_of, is_folder, is_slash, keys, label}
use Rattle.doc_people.specs.Folders.{page_href, parent}
use Rattle.doc_people.specs.Limits.{before_limit, after_limit}
use Rattle.doc_people.specs.Lines.{folder_item, item, link, link_or_current, listed}
use Rattle.doc_people.specs.Views.{Renders}

-- ---- the folders that lead to a place

-- each folder that ends in a text, which stands behind another
abbrev pub folders_behind : List ℕ → List ℕ → List (List ℕ)
folders_behind before [] = []
folders_behind before (b ∷ rest) =
    (if is_slash b then (before ++ b ∷ []) ∷ [] else []) ++ folders_behind (before ++ b ∷ []) rest

-- from the empty one on, each folder that the place begins with
unfoldable pub folders_to : List ℕ → List (List ℕ)
folders_to place = [] ∷ folders_behind [] place

-- the place is this folder, or the page that stands for it
abbrev pub is_of : List ℕ → List ℕ → Bool
is_of folder place = bytes_eq folder place || bytes_eq (index_of folder) place

-- where the folder is the place itself its contents
abbrev pub crumb_href : View → List ℕ → List ℕ → List ℕ
crumb_href view place folder = if bytes_eq folder place then contents_href folder else folder_href view folder

-- a folder that leads to the place
abbrev pub crumb : Renders → View → List ℕ → List ℕ → List ℕ
crumb render view place folder =
    item (link_or_current (crumb_href view place folder) (is_of folder place) (folder_label render view folder))

-- all folders that lead to the place
abbrev pub crumbs : Renders → View → List ℕ → List ℕ
crumbs render view place = flat_map (crumb render view place) (folders_to place)

-- ---- what stands around a place

-- the place is this one
abbrev pub is_at : Option (List ℕ) → List ℕ → Bool
is_at None other = false
is_at (Some place) other = bytes_eq place other

-- the folder that is shown
abbrev pub folder_at : Option (List ℕ) → List ℕ
folder_at None = []
folder_at (Some place) = folder_of place

-- what is shown stands around the place: a page, and not that which stands for its folder
abbrev pub is_around : List ℕ → Bool
is_around place = not (is_folder place) && not (bytes_eq place (index_of (folder_of place)))

-- one comes before the other in the order of bytes
abbrev pub is_before : List ℕ → List ℕ → Bool
is_before one other = is_lt (slice_cmp nat_cmp one other)

-- of what stands in the folder what comes before the place, where it is shown around that
abbrev pub before_place : Option (List ℕ) → List (List ℕ) → List (List ℕ)
before_place None keys = []
before_place (Some place) keys = if is_around place then filter (λ key. is_before key place) keys else []

-- and from the place on, or else all
abbrev pub from_place : Option (List ℕ) → List (List ℕ) → List (List ℕ)
from_place None keys = keys
from_place (Some place) keys = if is_around place then filter (λ key. not (is_before key place)) keys else keys

-- the last ones, so many at most
abbrev pub last_ones : {X : Type 0} → ℕ → List X → List X
last_ones n xs = drop (length xs - n) xs

-- what is shown of what stands in the folder
abbrev pub window : Option (List ℕ) → List (List ℕ) → List (List ℕ)
window at keys = last_ones before_limit (before_place at keys) ++ take after_limit (from_place at keys)

-- there is more at either end
abbrev pub is_cut : Option (List ℕ) → List (List ℕ) → Bool
is_cut at keys = nat_lt before_limit (length (before_place at keys)) || nat_lt after_limit (length (from_place at keys))

-- a page or a folder
abbrev pub tree_item : Renders → View → Option (List ℕ) → List ℕ → List ℕ
tree_item render view at key =
    if is_folder key then folder_item (link (folder_href view key) (folder_label render view key))
    else item (link_or_current (page_href key) (is_at at key) (label render view key))

-- what is shown, without the page that stands for the folder
abbrev pub tree_keys : View → Option (List ℕ) → List (List ℕ)
tree_keys view at = filter (λ key. not (bytes_eq key (index_of (folder_at at)))) (window at (keys view (folder_at at)))

-- these as a list, or nothing where there is none
abbrev pub tree_items : Renders → View → Option (List ℕ) → List (List ℕ) → List ℕ
tree_items render view at [] = []
tree_items render view at (key ∷ rest) = listed (flat_map (tree_item render view at) (key ∷ rest))

-- the folder that the folder stands in
abbrev pub up_line : Renders → View → List ℕ → List ℕ
up_line render view [] = []
up_line render view (b ∷ rest) =
    codes "<p class=\"up\">" ++ link (folder_href view (parent (b ∷ rest))) (folder_label render view (parent (b ∷ rest)))
    ++ codes "</p>\n"

-- the folder
abbrev pub top_line : Renders → View → Option (List ℕ) → List ℕ → List ℕ
top_line render view at folder =
    codes "<p class=\"top\">"
    ++ link_or_current (folder_href view folder) (is_at at (index_of folder)) (folder_label render view folder)
    ++ codes "</p>\n"

-- all that stands in the folder, where not all is shown
abbrev pub all_line : Option (List ℕ) → List ℕ → List (List ℕ) → List ℕ
all_line at folder keys =
    if is_cut at keys then codes "<p class=\"all\">" ++ link (contents_href folder) (codes "All of this folder") ++ codes "</p>\n"
    else []

-- the pages and folders of the folder of a place, or of the empty one
unfoldable pub tree : Renders → View → Option (List ℕ) → List ℕ
tree render view at =
    codes "<nav class=\"tree\" id=\".pages\" aria-label=\"Pages\">\n"
    ++ up_line render view (folder_at at) ++ top_line render view at (folder_at at)
    ++ tree_items render view at (tree_keys view at) ++ all_line at (folder_at at) (keys view (folder_at at))
    ++ codes "</nav>\n"
