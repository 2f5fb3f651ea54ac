-- Views and renderers of the examples.
use Rattle.std.proofs.Common.{ℕ, List, [], ◌∷◌, codes}
use Rattle.std.specs.Prelude.{None, true, false, bytes_eq, if◌then◌else◌, map as mapped}
use Rattle.doc_page_parts.specs.declared.rendered.Piece.{Piece}
use Rattle.doc_page_parts.specs.declared.rendered.Piece.TheVariants.{Html, Link}
use Rattle.doc_page_parts.specs.declared.rendered.Rendered.{Rendered}
use Rattle.doc_store_readers.specs.Pages.{Page}
use Rattle.doc_store_readers.specs.Sites.{View}
use Rattle.doc_people.specs.Views.{Renders}
use Rattle.doc_people.specs.declared.settings.Browse.{Browse}
use Rattle.doc_people.specs.declared.settings.Offers.{Offers}

-- the settings where none is given
abbrev pub defaults : Browse
defaults =
    record { title = codes "Handbook"; language = codes "en"; home = codes "index.md"; guest = None; login = false; editing = true }

-- what readers are offered
abbrev pub no_offers : Offers
no_offers = record { sign_in = false; tools = false }

-- and owners, where editing is on
abbrev pub with_tools : Offers
with_tools = record { sign_in = false; tools = true }

-- ---- pages that have their paths as their texts

abbrev pub page_of_path : List ℕ → List ℕ × Page
page_of_path path = (path, record { groups = []; text = path })

-- a view of these pages
abbrev pub view_of_paths : List (List ℕ) → View
view_of_paths paths = record { pages = mapped page_of_path paths; aliases = [] }

-- pages without headings, but that of one text
abbrev pub titled : Renders
titled text = record {
  pieces = [];
  headings = if bytes_eq text (codes "e/f/index.md")
      then record { level = 1; anchor = codes "section"; text = [] }
      ∷ record { level = 2; anchor = codes "f--co"; text = codes "F & co" } ∷ []
      else [];
  texts = [];
  images = [];
}

-- ---- the demonstration site, and two pages that are put later

abbrev to : List ℕ → Piece
to dest = Link (record { dest = dest; title = None })

-- `Hello`
abbrev hello : List ℕ
hello = codes "Hello\n"

abbrev hello_page : Rendered
hello_page = record { pieces = Html (codes "<p>Hello</p>\n") ∷ []; headings = []; texts = codes "Hello" ∷ []; images = [] }

abbrev pub two_links : List ℕ
two_links = codes "[c](c.md) [d](d.md)\n"

abbrev two_links_page : Rendered
two_links_page = record {
  pieces =
      Html (codes "<p>") ∷ to (codes "c.md") ∷ Html (codes "c</a> ") ∷ to (codes "d.md") ∷ Html (codes "d</a></p>\n") ∷ [];
  headings = [];
  texts = codes "c d" ∷ [];
  images = [];
}

abbrev one_twice : List ℕ
one_twice = codes "See [b](b.md), [b](b.md).\n"

abbrev one_twice_page : Rendered
one_twice_page = record {
  pieces =
      Html (codes "<p>See ") ∷ to (codes "b.md") ∷ Html (codes "b</a>, ") ∷ to (codes "b.md") ∷ Html (codes "b</a>.</p>\n") ∷ [];
  headings = [];
  texts = codes "See b, b." ∷ [];
  images = [];
}

abbrev how : List ℕ
how = codes "[How](g/guide.md)\n"

abbrev how_page : Rendered
how_page = record {
  pieces = Html (codes "<p>") ∷ to (codes "g/guide.md") ∷ Html (codes "How</a></p>\n") ∷ [];
  headings = [];
  texts = codes "How" ∷ [];
  images = [];
}

abbrev pub guide : List ℕ
guide = codes "# The guide\n\nSee [a](../a.md).\n\n<form action=\"/x\">\n\n## Use\n\nOn kiwis & plums.\n"

abbrev guide_page : Rendered
guide_page = record {
  pieces =
      Html (codes "<h1 id=\"the-guide\">The guide</h1>\n<p>See ") ∷ to (codes "../a.md")
      ∷ Html (codes "a</a>.</p>\n<form action=\"/x\">\n<h2 id=\"use\">Use</h2>\n<p>On kiwis &amp; plums.</p>\n") ∷ [];
  headings =
      record { level = 1; anchor = codes "the-guide"; text = codes "The guide" }
      ∷ record { level = 2; anchor = codes "use"; text = codes "Use" } ∷ [];
  texts = codes "The guide" ∷ codes "See a." ∷ codes "Use" ∷ codes "On kiwis & plums." ∷ [];
  images = [];
}

-- what a renderer makes of these texts
abbrev pub demo : Renders
demo text =
    if bytes_eq text hello then hello_page
    else (if bytes_eq text two_links then two_links_page
    else (if bytes_eq text one_twice then one_twice_page
    else (if bytes_eq text how then how_page else guide_page)))

abbrev entry : List ℕ → List ℕ → List ℕ × Page
entry path text = (path, record { groups = []; text = text })

-- what ann sees, of the group `staff`
abbrev pub for_ann : View
for_ann = record { pages = entry (codes "a.md") hello ∷ entry (codes "b.md") two_links ∷ []; aliases = [] }

abbrev pub for_owner : View
for_owner = record {
  pages = entry (codes "a.md") hello ∷ entry (codes "b.md") two_links ∷ entry (codes "c.md") one_twice ∷ [];
  aliases = [];
}

-- what bob sees, of the group `ops`, once `c.md` is `e/c.md`
abbrev pub for_bob_moved : View
for_bob_moved = record { pages = entry (codes "e/c.md") one_twice ∷ []; aliases = (codes "c.md", codes "e/c.md") ∷ [] }

abbrev pub for_owner_moved : View
for_owner_moved = record {
  pages = entry (codes "a.md") hello ∷ entry (codes "b.md") two_links ∷ entry (codes "e/c.md") one_twice ∷ [];
  aliases = (codes "c.md", codes "e/c.md") ∷ [];
}

-- and once `b.md` is also for `ops`
abbrev pub for_bob_later : View
for_bob_later = record {
  pages = entry (codes "b.md") two_links ∷ entry (codes "e/c.md") one_twice ∷ [];
  aliases = (codes "c.md", codes "e/c.md") ∷ [];
}

-- once there is a guide, to which `a.md` links
abbrev pub for_ann_later : View
for_ann_later = record {
  pages = entry (codes "a.md") how ∷ entry (codes "b.md") two_links ∷ entry (codes "g/guide.md") guide ∷ [];
  aliases = [];
}
