-- The pages that say no more than a status. All of this is this project's choice; the codes are those of RFC 9110, section 15.
use Rattle.std.specs.Prelude.{ℕ, List, [], ◌++◌, ◌==◌, Bool, true, false, codes, Option, Some, None, if◌then◌else◌}
use Rattle.doc_page_parts.specs.Escaping.{escaped}
use Rattle.doc_store_readers.specs.Sites.{View}
use Rattle.doc_people.specs.Folders.{edit_href}
use Rattle.doc_people.specs.Lines.{link}
use Rattle.doc_people.specs.Shell.{bare, shell}
use Rattle.doc_people.specs.Views.{Renders}
use Rattle.doc_people.specs.declared.settings.Browse.{Browse}
use Rattle.doc_people.specs.declared.settings.Offers.{Offers}

-- what a code is called, in the title of its page and in its heading
abbrev pub status_title : ℕ → List ℕ
status_title code =
    if code == 301 then codes "Moved"
    else (if code == 400 then codes "This can't be done"
    else (if code == 401 then codes "Not signed in"
    else (if code == 403 then codes "Not allowed"
    else (if code == 404 then codes "Not found"
    else (if code == 405 then codes "Not possible"
    else codes "No room")))))

-- what a code means
abbrev pub status_text : ℕ → List ℕ
status_text code =
    if code == 301 then codes "The page stands at another address now:"
    else (if code == 400 then codes "What was sent isn't of the form that is wanted here."
    else (if code == 401 then codes "These pages are for readers who are signed in. Whoever runs this site can let you in."
    else (if code == 403 then codes "Only those who write these pages may do this."
    else (if code == 404 then codes "There is no page here that you may read."
    else (if code == 405 then codes "This can't be done at this address."
    else codes "The page wasn't kept: its text is too long, or there are as many pages as can be.")))))

-- the two, and what stands behind
abbrev pub notice : ℕ → List ℕ → List ℕ
notice code behind =
    codes "<h1>" ++ status_title code ++ codes "</h1>\n<p>" ++ status_text code ++ codes "</p>\n" ++ behind

-- 301, by the value of the Location field
unfoldable pub moved_body : Browse → List ℕ → List ℕ
moved_body settings location =
    bare settings (status_title 301)
    (notice 301 (codes "<p><a href=\"" ++ escaped location ++ codes "\">" ++ escaped location ++ codes "</a></p>\n"))

-- 401, into which nothing of any view goes
unfoldable pub not_signed_in_body : Browse → List ℕ
not_signed_in_body settings = bare settings (status_title 401) (notice 401 [])

-- where tools are offered, and a page may be begun at a path: what begins it
abbrev pub begin_line : Bool → Option (List ℕ) → List ℕ
begin_line false new = []
begin_line true None = []
begin_line true (Some path) =
    codes "<p>" ++ link (edit_href path) (codes "New page") ++ codes " at <code>" ++ escaped path ++ codes "</code></p>\n"

-- 404, by the path that a page may be begun at
unfoldable pub not_found_body : Renders → Browse → Offers → View → Option (List ℕ) → List ℕ
not_found_body render settings offers view new =
    shell render settings offers view (status_title 404) None
    (notice 404 (codes "<p>" ++ link (codes "/contents") (codes "Contents") ++ codes "</p>\n" ++ begin_line offers.tools new)) []

-- 400, 403, 405 and 507
unfoldable pub refused_body : Renders → Browse → Offers → View → ℕ → List ℕ
refused_body render settings offers view code = shell render settings offers view (status_title code) None (notice code []) []
