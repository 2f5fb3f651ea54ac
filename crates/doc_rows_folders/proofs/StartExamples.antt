-- Texts to look from.
use Rattle.std.proofs.Common.{◌≡◌, codes, refl, Some, None}
use Rattle.doc_rows_folders.specs.Starts.{first_start, key_found, last_start, start_below}

-- behind a path of a folder all of the folder is left
folder_left : first_start (codes "") (codes "ops/b.md") ≡ codes "ops0"
folder_left = refl

-- the folder itself isn't
folder_kept : first_start (codes "") (codes "ops/") ≡ codes "ops/"
folder_kept = refl

page_kept : first_start (codes "ops/") (codes "ops/a.md") ≡ codes "ops/a.md"
page_kept = refl

inner_left : start_below (codes "ops/") (codes "ops/on/call.md") ≡ codes "ops/on0"
inner_left = refl

-- texts outside of the folder
in_front : first_start (codes "ops/") (codes "a.md") ≡ codes "ops/"
in_front = refl

behind : first_start (codes "ops/") (codes "z.md") ≡ codes "z.md"
behind = refl

before_end : last_start (codes "ops/") (codes "z.md") ≡ codes "ops0"
before_end = refl

-- what is shown of paths that are found
page_found : key_found (codes "ops/") (Some (codes "ops/a.md")) ≡ Some (codes "ops/a.md")
page_found = refl

folder_found : key_found (codes "") (Some (codes "ops/on/call.md")) ≡ Some (codes "ops/")
folder_found = refl

-- the slash belongs to the folder
other_folder : key_found (codes "ops/") (Some (codes "ops2/a.md")) ≡ None
other_folder = refl
