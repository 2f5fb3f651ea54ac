-- Examples: folders, what stands in them, titles, labels and addresses.
use Rattle.std.proofs.Common.{◌≡◌, [], ◌∷◌, ◌++◌, true, false, replicate, refl}
use Rattle.std.specs.Prelude.{codes}
use Rattle.doc_store_readers.specs.Sites.{View}
use Rattle.doc_people.specs.Folders.{contents_href, edit_href, folder_href, folder_label, folder_of, is_folder, key, keys, label, name}
use Rattle.doc_people.specs.Folders.{page_href, parent, sees_folder, short, title}
use Rattle.doc_people.proofs.Computing.{shell_words}
use Rattle.doc_people.proofs.Sites.{titled, view_of_paths}

-- ---- folders

folders :
    (folder_of (codes "a.md") ≡ [])
    × (folder_of (codes "e/c.md") ≡ codes "e/")
    × (folder_of (codes "e/f/c.md") ≡ codes "e/f/")
    × (folder_of (codes "e/f/") ≡ codes "e/f/")
    × (folder_of [] ≡ [])
    × (parent (codes "e/f/") ≡ codes "e/")
    × (parent (codes "e/") ≡ [])
    × (is_folder [] ≡ true)
    × (is_folder (codes "e/") ≡ true)
    × (is_folder (codes "e") ≡ false)
    × (name (codes "a.md") ≡ codes "a.md")
    × (name (codes "e/c.md") ≡ codes "c.md")
    × (name (codes "e/f/") ≡ codes "f")
unfolding shell_words
folders = (refl, refl, refl, refl, refl, refl, refl, refl, refl, refl, refl, refl, refl)

-- ---- keys

single_keys :
    (key [] (codes "a.md") ≡ codes "a.md")
    × (key [] (codes "e/f/c.md") ≡ codes "e/")
    × (key (codes "e/") (codes "e/f/c.md") ≡ codes "e/f/")
    × (key (codes "e/") (codes "e/c.md") ≡ codes "e/c.md")
unfolding shell_words
single_keys = (refl, refl, refl, refl)

abbrev some_pages : View
some_pages =
    view_of_paths
    (codes "a.md" ∷ codes "e/c.md" ∷ codes "e/f/d.md" ∷ codes "e/f/index.md" ∷ codes "index.md" ∷ codes "ops2/a.md" ∷ [])

-- the folder `ops/` isn't seen where `ops2/a.md` is
all_keys :
    (keys some_pages [] ≡ codes "a.md" ∷ codes "e/" ∷ codes "index.md" ∷ codes "ops2/" ∷ [])
    × (keys some_pages (codes "e/") ≡ codes "e/c.md" ∷ codes "e/f/" ∷ [])
    × (keys some_pages (codes "e/f/") ≡ codes "e/f/d.md" ∷ codes "e/f/index.md" ∷ [])
    × (keys some_pages (codes "ops/") ≡ [])
unfolding shell_words
all_keys = (refl, refl, refl, refl)

seen :
    (sees_folder some_pages (codes "e/f/") ≡ true)
    × (sees_folder some_pages (codes "ops2/") ≡ true)
    × (sees_folder some_pages (codes "ops/") ≡ false)
    × (sees_folder some_pages [] ≡ true)
    × (sees_folder (view_of_paths []) [] ≡ false)
unfolding shell_words
seen = (refl, refl, refl, refl, refl)

-- ---- titles and labels

-- a text of 80 characters stays, of one of 81 the first 79 do; a character of two bytes is one
shortened :
    (short (replicate 80 97) ≡ replicate 80 97)
    × (short (replicate 81 97) ≡ replicate 79 97 ++ 0xE2 ∷ 0x80 ∷ 0xA6 ∷ [])
    × (short (0xC3 ∷ 0x9F ∷ replicate 79 97) ≡ 0xC3 ∷ 0x9F ∷ replicate 79 97)
    × (short (0xC3 ∷ 0x9F ∷ replicate 80 97) ≡ 0xC3 ∷ 0x9F ∷ replicate 78 97 ++ 0xE2 ∷ 0x80 ∷ 0xA6 ∷ [])
unfolding shell_words
shortened = (refl, refl, refl, refl)

-- a page without a heading has its path as its title and its name as its label; `e/f/index.md` is titled `F & co`
labels :
    (title titled some_pages (codes "e/c.md") ≡ codes "e/c.md")
    × (label titled some_pages (codes "e/c.md") ≡ codes "c.md")
    × (title titled some_pages (codes "e/f/index.md") ≡ codes "F & co")
    × (label titled some_pages (codes "e/f/index.md") ≡ codes "F & co")
    × (folder_label titled some_pages [] ≡ codes "Home")
    × (folder_label titled some_pages (codes "e/") ≡ codes "e")
    × (folder_label titled some_pages (codes "e/f/") ≡ codes "F & co")
unfolding shell_words
labels = (refl, refl, refl, refl, refl, refl, refl)

-- ---- addresses

addresses :
    (page_href (codes "e/a b&c.md") ≡ codes "/page/e/a%20b%26c.md")
    × (contents_href [] ≡ codes "/contents")
    × (contents_href (codes "e f/g/") ≡ codes "/contents/e%20f/g/")
    × (folder_href some_pages [] ≡ codes "/page/index.md")
    × (folder_href some_pages (codes "e/") ≡ codes "/contents/e/")
    × (folder_href some_pages (codes "e/f/") ≡ codes "/page/e/f/index.md")
    × (edit_href (codes "e f/a&b.md") ≡ codes "/edit/e%20f/a%26b.md")
    × (edit_href (codes "e f/g/") ≡ codes "/edit/e%20f/g/")
    × (edit_href [] ≡ codes "/edit/")
unfolding shell_words
addresses = (refl, refl, refl, refl, refl, refl, refl, refl, refl)
