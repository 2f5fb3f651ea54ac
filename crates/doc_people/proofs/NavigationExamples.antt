-- Examples: the folders that lead to a place, and what is shown of a folder.
use Rattle.std.proofs.Common.{◌≡◌, ℕ, List, [], ◌∷◌, ◌++◌, true, false, refl}
use Rattle.std.specs.Prelude.{codes, map as mapped, Some, None}
use Rattle.std.specs.List.{range_with_len}
use Rattle.doc_store_readers.specs.Sites.{View}
use Rattle.doc_people.specs.Navigation.{crumbs, folders_to, is_cut, tree, window}
use Rattle.doc_people.proofs.Computing.{shell_words}
use Rattle.doc_people.proofs.Sites.{titled, view_of_paths}

-- ---- the folders that lead to a place

leading :
    (folders_to [] ≡ [] ∷ [])
    × (folders_to (codes "a.md") ≡ [] ∷ [])
    × (folders_to (codes "e/f/c.md") ≡ [] ∷ codes "e/" ∷ codes "e/f/" ∷ [])
    × (folders_to (codes "e/f/") ≡ [] ∷ codes "e/" ∷ codes "e/f/" ∷ [])
unfolding shell_words
leading = (refl, refl, refl, refl)

abbrev some_pages : View
some_pages =
    view_of_paths (codes "a.md" ∷ codes "e/c.md" ∷ codes "e/f/d.md" ∷ codes "e/f/index.md" ∷ codes "g/h.md" ∷ [])

crumbs_of_a_page : crumbs titled some_pages (codes "e/f/d.md")
    ≡ codes "<li><a href=\"/contents\">Home</a></li>\n<li><a href=\"/contents/e/\">e</a></li>\n"
    ++ codes "<li><a href=\"/page/e/f/index.md\">F &amp; co</a></li>\n"
unfolding shell_words
crumbs_of_a_page = refl

-- the page that stands for a folder is current there
crumbs_of_an_index : crumbs titled some_pages (codes "e/f/index.md")
    ≡ codes "<li><a href=\"/contents\">Home</a></li>\n<li><a href=\"/contents/e/\">e</a></li>\n"
    ++ codes "<li><a href=\"/page/e/f/index.md\" aria-current=\"page\">F &amp; co</a></li>\n"
unfolding shell_words
crumbs_of_an_index = refl

-- a folder leads to its own contents
crumbs_of_a_folder : crumbs titled some_pages (codes "e/f/")
    ≡ codes "<li><a href=\"/contents\">Home</a></li>\n<li><a href=\"/contents/e/\">e</a></li>\n"
    ++ codes "<li><a href=\"/contents/e/f/\" aria-current=\"page\">F &amp; co</a></li>\n"
unfolding shell_words
crumbs_of_a_folder = refl

crumbs_of_all : crumbs titled some_pages [] ≡ codes "<li><a href=\"/contents\" aria-current=\"page\">Home</a></li>\n"
unfolding shell_words
crumbs_of_all = refl

-- ---- what is shown of a folder

tree_of_all : tree titled some_pages None
    ≡ codes "<nav class=\"tree\" id=\".pages\" aria-label=\"Pages\">\n<p class=\"top\"><a href=\"/contents\">Home</a></p>\n<ul>\n"
    ++ codes "<li><a href=\"/page/a.md\">a.md</a></li>\n<li class=\"dir\"><a href=\"/contents/e/\">e</a></li>\n"
    ++ codes "<li class=\"dir\"><a href=\"/contents/g/\">g</a></li>\n</ul>\n</nav>\n"
unfolding shell_words
tree_of_all = refl

-- at the page that stands for its folder, which isn't listed
tree_of_an_index : tree titled some_pages (Some (codes "e/f/index.md"))
    ≡ codes "<nav class=\"tree\" id=\".pages\" aria-label=\"Pages\">\n<p class=\"up\"><a href=\"/contents/e/\">e</a></p>\n"
    ++ codes "<p class=\"top\"><a href=\"/page/e/f/index.md\" aria-current=\"page\">F &amp; co</a></p>\n<ul>\n"
    ++ codes "<li><a href=\"/page/e/f/d.md\">d.md</a></li>\n</ul>\n</nav>\n"
unfolding shell_words
tree_of_an_index = refl

-- at a page, whose folder has a folder
tree_of_a_page : tree titled some_pages (Some (codes "e/c.md"))
    ≡ codes "<nav class=\"tree\" id=\".pages\" aria-label=\"Pages\">\n<p class=\"up\"><a href=\"/contents\">Home</a></p>\n"
    ++ codes "<p class=\"top\"><a href=\"/contents/e/\">e</a></p>\n<ul>\n"
    ++ codes "<li><a href=\"/page/e/c.md\" aria-current=\"page\">c.md</a></li>\n"
    ++ codes "<li class=\"dir\"><a href=\"/page/e/f/index.md\">F &amp; co</a></li>\n</ul>\n</nav>\n"
unfolding shell_words
tree_of_a_page = refl

-- a folder that has nothing, as one without pages that are seen: no list
tree_of_nothing : tree titled (view_of_paths []) None
    ≡ codes "<nav class=\"tree\" id=\".pages\" aria-label=\"Pages\">\n<p class=\"top\"><a href=\"/contents\">Home</a></p>\n</nav>\n"
unfolding shell_words
tree_of_nothing = refl

-- ---- windows: 30 keys before a page, 60 from it on

-- texts of one byte, in order
abbrev letters : ℕ → ℕ → List (List ℕ)
letters first n = mapped (λ b. b ∷ []) (range_with_len first n)

windows :
    (window (Some (100 ∷ [])) (letters 48 120) ≡ letters 70 90)
    × (is_cut (Some (100 ∷ [])) (letters 48 120) ≡ true)
    × (window (Some (100 ∷ [])) (letters 70 90) ≡ letters 70 90)
    × (is_cut (Some (100 ∷ [])) (letters 70 90) ≡ false)
    × (is_cut (Some (100 ∷ [])) (letters 69 90) ≡ true)
    × (is_cut (Some (100 ∷ [])) (letters 70 91) ≡ true)
    -- at no page the first 60
    × (window None (letters 48 61) ≡ letters 48 60)
    × (is_cut None (letters 48 61) ≡ true)
    × (is_cut None (letters 48 60) ≡ false)
    × (window (Some []) (letters 48 61) ≡ letters 48 60)
    -- a page that stands for its folder has nothing before it
    × (window (Some (codes "index.md")) (letters 48 60 ++ codes "index.md" ∷ []) ≡ letters 48 60)
    × (is_cut (Some (codes "index.md")) (letters 48 60 ++ codes "index.md" ∷ []) ≡ true)
unfolding shell_words
windows = (refl, refl, refl, refl, refl, refl, refl, refl, refl, refl, refl, refl)
