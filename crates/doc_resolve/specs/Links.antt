-- What a link's destination leads to.
use Rattle.std.specs.Prelude.{ℕ, List, [], ◌∷◌, map, drop, Option, Some, None, if◌then◌else◌}
use Rattle.std.specs.List.{flat_map}
use Rattle.std.specs.Str.{is_utf8}
use Rattle.percent_encoding.specs.Percent.{percent_decode}
use Rattle.doc_page_parts.specs.Paths.{segments}
use Rattle.doc_page_parts.specs.declared.rendered.Piece.{Piece}
use Rattle.doc_page_parts.specs.declared.rendered.Piece.TheVariants.{Html, Link}
use Rattle.doc_page_encoding.specs.Encoding.{encoded}
use Rattle.doc_resolve.specs.References.{Uri, reference}
use Rattle.doc_resolve.specs.Resolution.{resolve}
use Rattle.doc_resolve.specs.WrittenPaths.{path_written}
use Rattle.doc_resolve.specs.declared.link_kind.LinkKind.{LinkKind}
use Rattle.doc_resolve.specs.declared.link_kind.LinkKind.TheVariants.{External, Page, Nowhere}

-- a path of these segments, as a base
abbrev pub on_path : List (List ℕ) → Uri
on_path path = record { scheme = None; authority = None; path = path; query = None; fragment = None }

-- the base of a page's links: `/` and its path, whose segments are percent-encoded
abbrev pub base_of : List ℕ → Uri
base_of page = on_path ([] ∷ map encoded (segments page))

-- what the text stands for, where that is UTF-8, or else the text
abbrev pub decoded_text : List ℕ → List ℕ
decoded_text text = let decoded = percent_decode text in if is_utf8 decoded then decoded else text

-- the anchor that a fragment names (RFC 3986, section 3.5); an empty one names none
abbrev pub anchor_of : Option (List ℕ) → Option (List ℕ)
anchor_of None = None
anchor_of (Some []) = None
anchor_of (Some (b ∷ text)) = Some (decoded_text (b ∷ text))

abbrev pub page_or_nowhere : Option (List ℕ) → Option (List ℕ) → LinkKind
page_or_nowhere None anchor = Nowhere
page_or_nowhere (Some path) anchor = Page path anchor

-- the page that a resolved reference leads to. The query is dropped
abbrev pub kind_of_target : Uri → LinkKind
kind_of_target target = page_or_nowhere (path_written (drop 1 target.path)) (anchor_of target.fragment)

-- what a reference leads to, by its scheme and authority: with one of them it leaves the site
abbrev pub kind_by : Uri → Uri → Option (List ℕ) → Option (List ℕ) → LinkKind
kind_by base r (Some scheme) authority = External
kind_by base r None (Some authority) = External
kind_by base r None None = kind_of_target (resolve base r)

-- what a destination leads to on this base
unfoldable pub kind_on : Uri → List ℕ → LinkKind
kind_on base dest = let r = reference dest in kind_by base r r.scheme r.authority

-- what a destination in the page at this path leads to (this project's choice)
abbrev pub classify : List ℕ → List ℕ → LinkKind
classify page dest = kind_on (base_of page) dest

-- what a piece leads to on this base, where it is a link
abbrev pub kinds_in : Uri → Piece → List LinkKind
kinds_in base (Html text) = []
kinds_in base (Link spot) = kind_on base spot.dest ∷ []

-- what each link of these pieces of the page at this path leads to, in order
unfoldable pub kinds : List ℕ → List Piece → List LinkKind
kinds page pieces = flat_map (kinds_in (base_of page)) pieces
