-- What the private functions of the module `links` answer: parts of the definitions in Links, as the code takes them.
use Rattle.std.specs.Prelude.{ℕ, List, drop, Bool, ◌||◌, Option, None, is_some}
use Rattle.doc_resolve.specs.Links.{page_or_nowhere, anchor_of}
use Rattle.doc_resolve.specs.References.{Uri}
use Rattle.doc_resolve.specs.Resolution.{path_on}
use Rattle.doc_resolve.specs.WrittenPaths.{path_written}
use Rattle.doc_resolve.specs.declared.link_kind.LinkKind.{LinkKind}

-- a reference that leaves the site
abbrev pub leaves_site : Uri → Bool
leaves_site r = is_some r.scheme || is_some r.authority

-- the page at the path of a reference, on a path of these segments
abbrev pub target_on : List (List ℕ) → List (List ℕ) → Option (List ℕ)
target_on base path = path_written (drop 1 (path_on None base path))

-- what a reference that doesn't leave the site leads to on it
abbrev pub kind_inside : List (List ℕ) → Uri → LinkKind
kind_inside base r = page_or_nowhere (target_on base r.path) (anchor_of r.fragment)
