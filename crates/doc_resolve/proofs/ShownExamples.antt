-- Worked examples of links as readers see them, computed from the definitions alone.
use Rattle.std.proofs.Common.{◌≡◌, codes, refl, List, ℕ, [], ◌∷◌}
use Rattle.std.proofs.Math.Utf8.{encode}
use Rattle.std.specs.Prelude.{Option, Some, None, bytes_eq, if◌then◌else◌}
use Rattle.std.specs.Str.{chars, is_utf8}
use Rattle.percent_encoding.specs.Percent.{percent_decode, percent_encode_byte}
use Rattle.doc_page_parts.specs.Escaping.{escaped}
use Rattle.doc_page_parts.specs.Paths.{is_path}
use Rattle.doc_page_parts.specs.declared.linker.Shown.TheVariants.{Href, Missing}
use Rattle.doc_page_parts.specs.declared.rendered.Piece.TheVariants.{Html, Link}
use Rattle.doc_page_parts.specs.declared.rendered.Rendered.{Rendered}
use Rattle.doc_resolve.specs.Decisions.{decisions}
use Rattle.doc_resolve.specs.DotSegments.{put_all, without_dots}
use Rattle.doc_page_encoding.specs.Encoding.{encoded, encoded_path, destination}
use Rattle.doc_resolve.specs.Hrefs.{shown}
use Rattle.doc_resolve.specs.Links.{kind_on}
use Rattle.doc_resolve.specs.References.{reference}
use Rattle.doc_resolve.specs.Resolution.{resolve}
use Rattle.doc_resolve.specs.WrittenPaths.{path_written}

-- `<p>`, a link to `c.md`, a space and a link to `d.md`
abbrev page : Rendered
page = record {
  pieces = Html (codes "<p>") ∷ Link (record { dest = codes "c.md"; title = None }) ∷ Html (codes "c</a> ") ∷ Link
      (record { dest = codes "d.md"; title = None }) ∷ Html (codes "d</a></p>\n") ∷ [];
  headings = [];
  texts = codes "c d" ∷ [];
  images = [];
}

-- a reader who sees `c.md`, one who doesn't, and one who sees the page `e/c.md`, of which `c.md` is an alias
abbrev owner : List ℕ → Option (List ℕ)
owner path = if bytes_eq path (codes "c.md") then Some path else None

abbrev staff : List ℕ → Option (List ℕ)
staff path = None

abbrev moved : List ℕ → Option (List ℕ)
moved path = if bytes_eq path (codes "c.md") then Some (codes "e/c.md") else owner path

owner_decides : decisions owner (codes "b.md") page ≡ Some (codes "c.md") ∷ None ∷ []
unfolding chars encode encoded encoded_path is_path is_utf8 kind_on path_written percent_decode percent_encode_byte put_all reference
    resolve without_dots decisions
owner_decides = refl

staff_decides : decisions staff (codes "b.md") page ≡ None ∷ None ∷ []
unfolding chars encode encoded encoded_path is_path is_utf8 kind_on path_written percent_decode percent_encode_byte put_all reference
    resolve without_dots decisions
staff_decides = refl

-- an alias leads to its page
moved_decides : decisions moved (codes "b.md") page ≡ Some (codes "e/c.md") ∷ None ∷ []
unfolding chars encode encoded encoded_path is_path is_utf8 kind_on path_written percent_decode percent_encode_byte put_all reference
    resolve without_dots decisions
moved_decides = refl

owner_sees : shown owner (codes "b.md") (codes "c.md#a/b") ≡ Href (codes "/page/c.md#a%2Fb")
unfolding chars encode encoded encoded_path is_path is_utf8 kind_on path_written percent_decode percent_encode_byte put_all reference
    resolve without_dots
owner_sees = refl

staff_sees : shown staff (codes "b.md") (codes "c.md#a/b") ≡ Missing
unfolding chars encode encoded encoded_path is_path is_utf8 kind_on path_written percent_decode percent_encode_byte put_all reference
    resolve without_dots
staff_sees = refl

moved_is_seen : shown moved (codes "b.md") (codes "c.md") ≡ Href (codes "/page/e/c.md")
unfolding chars encode encoded encoded_path is_path is_utf8 kind_on path_written percent_decode percent_encode_byte put_all reference
    resolve without_dots
moved_is_seen = refl

no_page_is_seen : shown owner (codes "b.md") (codes "%2e%2e/c.md") ≡ Missing
unfolding chars encode encoded encoded_path is_path is_utf8 kind_on path_written percent_decode percent_encode_byte put_all reference
    resolve without_dots
no_page_is_seen = refl

-- out of the site a destination stands as it is written, but for the bytes that no href holds
out_of_the_site : shown staff (codes "b.md") (codes "https://h/a b?c&d\"") ≡ Href (codes "https://h/a%20b?c&amp;d%22")
unfolding chars encode encoded encoded_path is_path is_utf8 kind_on path_written percent_decode percent_encode_byte put_all reference
    resolve without_dots destination escaped
out_of_the_site = refl
