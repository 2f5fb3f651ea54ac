-- Worked examples, computed from the definitions alone.
use Rattle.std.proofs.Common.{◌≡◌, codes, refl, List, ℕ, []}
use Rattle.std.specs.Prelude.{Some, None}
use Rattle.std.proofs.Math.Utf8.{encode}
use Rattle.std.specs.Str.{chars, is_utf8}
use Rattle.percent_encoding.specs.Percent.{percent_decode, percent_encode_byte}
use Rattle.doc_page_parts.specs.Paths.{is_path}
use Rattle.doc_resolve.specs.DotSegments.{put_all, without_dots}
use Rattle.doc_page_encoding.specs.Encoding.{encoded, encoded_path}
use Rattle.doc_resolve.specs.Links.{kind_on, classify}
use Rattle.doc_resolve.specs.References.{reference}
use Rattle.doc_resolve.specs.Resolution.{resolve, recomposed}
use Rattle.doc_resolve.specs.WrittenPaths.{path_written}
use Rattle.doc_resolve.specs.declared.link_kind.LinkKind.TheVariants.{External, Page, Nowhere}

-- the reference, resolved on the base of the examples of RFC 3986, section 5.4
abbrev resolved : List ℕ → List ℕ
resolved text = recomposed (resolve (reference (codes "http://a/b/c/d;p?q")) (reference text))

-- section 5.4.1, normal examples
normal_1 : resolved (codes "g:h") ≡ codes "g:h"
unfolding reference put_all without_dots resolve recomposed
normal_1 = refl

normal_2 : resolved (codes "g") ≡ codes "http://a/b/c/g"
unfolding reference put_all without_dots resolve recomposed
normal_2 = refl

normal_3 : resolved (codes "./g") ≡ codes "http://a/b/c/g"
unfolding reference put_all without_dots resolve recomposed
normal_3 = refl

normal_4 : resolved (codes "g/") ≡ codes "http://a/b/c/g/"
unfolding reference put_all without_dots resolve recomposed
normal_4 = refl

normal_5 : resolved (codes "/g") ≡ codes "http://a/g"
unfolding reference put_all without_dots resolve recomposed
normal_5 = refl

normal_6 : resolved (codes "//g") ≡ codes "http://g"
unfolding reference put_all without_dots resolve recomposed
normal_6 = refl

normal_7 : resolved (codes "?y") ≡ codes "http://a/b/c/d;p?y"
unfolding reference put_all without_dots resolve recomposed
normal_7 = refl

normal_8 : resolved (codes "g?y") ≡ codes "http://a/b/c/g?y"
unfolding reference put_all without_dots resolve recomposed
normal_8 = refl

normal_9 : resolved (codes "#s") ≡ codes "http://a/b/c/d;p?q#s"
unfolding reference put_all without_dots resolve recomposed
normal_9 = refl

normal_10 : resolved (codes "g#s") ≡ codes "http://a/b/c/g#s"
unfolding reference put_all without_dots resolve recomposed
normal_10 = refl

normal_11 : resolved (codes "g?y#s") ≡ codes "http://a/b/c/g?y#s"
unfolding reference put_all without_dots resolve recomposed
normal_11 = refl

normal_12 : resolved (codes ";x") ≡ codes "http://a/b/c/;x"
unfolding reference put_all without_dots resolve recomposed
normal_12 = refl

normal_13 : resolved (codes "g;x") ≡ codes "http://a/b/c/g;x"
unfolding reference put_all without_dots resolve recomposed
normal_13 = refl

normal_14 : resolved (codes "g;x?y#s") ≡ codes "http://a/b/c/g;x?y#s"
unfolding reference put_all without_dots resolve recomposed
normal_14 = refl

normal_15 : resolved [] ≡ codes "http://a/b/c/d;p?q"
unfolding reference put_all without_dots resolve recomposed
normal_15 = refl

normal_16 : resolved (codes ".") ≡ codes "http://a/b/c/"
unfolding reference put_all without_dots resolve recomposed
normal_16 = refl

normal_17 : resolved (codes "./") ≡ codes "http://a/b/c/"
unfolding reference put_all without_dots resolve recomposed
normal_17 = refl

normal_18 : resolved (codes "..") ≡ codes "http://a/b/"
unfolding reference put_all without_dots resolve recomposed
normal_18 = refl

normal_19 : resolved (codes "../") ≡ codes "http://a/b/"
unfolding reference put_all without_dots resolve recomposed
normal_19 = refl

normal_20 : resolved (codes "../g") ≡ codes "http://a/b/g"
unfolding reference put_all without_dots resolve recomposed
normal_20 = refl

normal_21 : resolved (codes "../..") ≡ codes "http://a/"
unfolding reference put_all without_dots resolve recomposed
normal_21 = refl

normal_22 : resolved (codes "../../") ≡ codes "http://a/"
unfolding reference put_all without_dots resolve recomposed
normal_22 = refl

normal_23 : resolved (codes "../../g") ≡ codes "http://a/g"
unfolding reference put_all without_dots resolve recomposed
normal_23 = refl

-- section 5.4.2, abnormal examples
abnormal_1 : resolved (codes "../../../g") ≡ codes "http://a/g"
unfolding reference put_all without_dots resolve recomposed
abnormal_1 = refl

abnormal_2 : resolved (codes "../../../../g") ≡ codes "http://a/g"
unfolding reference put_all without_dots resolve recomposed
abnormal_2 = refl

abnormal_3 : resolved (codes "/./g") ≡ codes "http://a/g"
unfolding reference put_all without_dots resolve recomposed
abnormal_3 = refl

abnormal_4 : resolved (codes "/../g") ≡ codes "http://a/g"
unfolding reference put_all without_dots resolve recomposed
abnormal_4 = refl

abnormal_5 : resolved (codes "g.") ≡ codes "http://a/b/c/g."
unfolding reference put_all without_dots resolve recomposed
abnormal_5 = refl

abnormal_6 : resolved (codes ".g") ≡ codes "http://a/b/c/.g"
unfolding reference put_all without_dots resolve recomposed
abnormal_6 = refl

abnormal_7 : resolved (codes "g..") ≡ codes "http://a/b/c/g.."
unfolding reference put_all without_dots resolve recomposed
abnormal_7 = refl

abnormal_8 : resolved (codes "..g") ≡ codes "http://a/b/c/..g"
unfolding reference put_all without_dots resolve recomposed
abnormal_8 = refl

abnormal_9 : resolved (codes "./../g") ≡ codes "http://a/b/g"
unfolding reference put_all without_dots resolve recomposed
abnormal_9 = refl

abnormal_10 : resolved (codes "./g/.") ≡ codes "http://a/b/c/g/"
unfolding reference put_all without_dots resolve recomposed
abnormal_10 = refl

abnormal_11 : resolved (codes "g/./h") ≡ codes "http://a/b/c/g/h"
unfolding reference put_all without_dots resolve recomposed
abnormal_11 = refl

abnormal_12 : resolved (codes "g/../h") ≡ codes "http://a/b/c/h"
unfolding reference put_all without_dots resolve recomposed
abnormal_12 = refl

abnormal_13 : resolved (codes "g;x=1/./y") ≡ codes "http://a/b/c/g;x=1/y"
unfolding reference put_all without_dots resolve recomposed
abnormal_13 = refl

abnormal_14 : resolved (codes "g;x=1/../y") ≡ codes "http://a/b/c/y"
unfolding reference put_all without_dots resolve recomposed
abnormal_14 = refl

abnormal_15 : resolved (codes "g?y/./x") ≡ codes "http://a/b/c/g?y/./x"
unfolding reference put_all without_dots resolve recomposed
abnormal_15 = refl

abnormal_16 : resolved (codes "g?y/../x") ≡ codes "http://a/b/c/g?y/../x"
unfolding reference put_all without_dots resolve recomposed
abnormal_16 = refl

abnormal_17 : resolved (codes "g#s/./x") ≡ codes "http://a/b/c/g#s/./x"
unfolding reference put_all without_dots resolve recomposed
abnormal_17 = refl

abnormal_18 : resolved (codes "g#s/../x") ≡ codes "http://a/b/c/g#s/../x"
unfolding reference put_all without_dots resolve recomposed
abnormal_18 = refl

abnormal_19 : resolved (codes "http:g") ≡ codes "http:g"
unfolding reference put_all without_dots resolve recomposed
abnormal_19 = refl

-- destinations in the page `guide/x.md`
-- dot segments above the root go
link_above_the_root : classify (codes "guide/x.md") (codes "../../../y.md") ≡ Page (codes "y.md") None
unfolding chars encode encoded encoded_path is_path is_utf8 kind_on path_written percent_decode percent_encode_byte put_all reference
    resolve without_dots
link_above_the_root = refl

-- a folder is its `index.md`
link_folder : classify (codes "guide/x.md") (codes "./") ≡ Page (codes "guide/index.md") None
unfolding chars encode encoded encoded_path is_path is_utf8 kind_on path_written percent_decode percent_encode_byte put_all reference
    resolve without_dots
link_folder = refl

link_one_anchor : classify (codes "guide/x.md") (codes "#s") ≡ Page (codes "guide/x.md") (Some (codes "s"))
unfolding chars encode encoded encoded_path is_path is_utf8 kind_on path_written percent_decode percent_encode_byte put_all reference
    resolve without_dots
link_one_anchor = refl

-- the query is dropped
link_query_alone : classify (codes "guide/x.md") (codes "?q") ≡ Page (codes "guide/x.md") None
unfolding chars encode encoded encoded_path is_path is_utf8 kind_on path_written percent_decode percent_encode_byte put_all reference
    resolve without_dots
link_query_alone = refl

-- the empty reference is one to the page itself (RFC 3986, section 4.4)
link_same_document : classify (codes "guide/x.md") [] ≡ Page (codes "guide/x.md") None
unfolding chars encode encoded encoded_path is_path is_utf8 kind_on path_written percent_decode percent_encode_byte put_all reference
    resolve without_dots
link_same_document = refl

-- an authority leaves the site (section 4.2)
link_network_path : classify (codes "guide/x.md") (codes "//h/z") ≡ External
unfolding chars encode encoded encoded_path is_path is_utf8 kind_on path_written percent_decode percent_encode_byte put_all reference
    resolve without_dots
link_network_path = refl

-- encoded dots are no dot segment, and no segment of a page's path
link_encoded_dots : classify (codes "guide/x.md") (codes "%2e%2e/y.md") ≡ Nowhere
unfolding chars encode encoded encoded_path is_path is_utf8 kind_on path_written percent_decode percent_encode_byte put_all reference
    resolve without_dots
link_encoded_dots = refl

link_rooted : classify (codes "guide/x.md") (codes "/y.md") ≡ Page (codes "y.md") None
unfolding chars encode encoded encoded_path is_path is_utf8 kind_on path_written percent_decode percent_encode_byte put_all reference
    resolve without_dots
link_rooted = refl

link_root : classify (codes "guide/x.md") (codes "/") ≡ Page (codes "index.md") None
unfolding chars encode encoded encoded_path is_path is_utf8 kind_on path_written percent_decode percent_encode_byte put_all reference
    resolve without_dots
link_root = refl

-- paths and anchors are decoded, once
link_sibling : classify (codes "guide/x.md") (codes "a%20b.md#c%20d") ≡ Page (codes "guide/a b.md") (Some (codes "c d"))
unfolding chars encode encoded encoded_path is_path is_utf8 kind_on path_written percent_decode percent_encode_byte put_all reference
    resolve without_dots
link_sibling = refl

-- `%20` holds a `%`, so it is no path
link_decoded_once : classify (codes "guide/x.md") (codes "a%2520b.md") ≡ Nowhere
unfolding chars encode encoded encoded_path is_path is_utf8 kind_on path_written percent_decode percent_encode_byte put_all reference
    resolve without_dots
link_decoded_once = refl

link_encoded_slash : classify (codes "guide/x.md") (codes "a%2Fb.md") ≡ Nowhere
unfolding chars encode encoded encoded_path is_path is_utf8 kind_on path_written percent_decode percent_encode_byte put_all reference
    resolve without_dots
link_encoded_slash = refl

link_absolute : classify (codes "guide/x.md") (codes "https://h/a.md") ≡ External
unfolding chars encode encoded encoded_path is_path is_utf8 kind_on path_written percent_decode percent_encode_byte put_all reference
    resolve without_dots
link_absolute = refl

-- what stands before a `:` is a scheme by appendix B, whatever its characters
link_any_scheme : classify (codes "guide/x.md") (codes "1:2") ≡ External
unfolding chars encode encoded encoded_path is_path is_utf8 kind_on path_written percent_decode percent_encode_byte put_all reference
    resolve without_dots
link_any_scheme = refl

link_no_scheme : classify (codes "guide/x.md") (codes ":y") ≡ Page (codes "guide/:y") None
unfolding chars encode encoded encoded_path is_path is_utf8 kind_on path_written percent_decode percent_encode_byte put_all reference
    resolve without_dots
link_no_scheme = refl

link_mail : classify (codes "guide/x.md") (codes "mailto:a@b") ≡ External
unfolding chars encode encoded encoded_path is_path is_utf8 kind_on path_written percent_decode percent_encode_byte put_all reference
    resolve without_dots
link_mail = refl

-- an empty fragment is no anchor
link_no_anchor : classify (codes "guide/x.md") (codes "y.md#") ≡ Page (codes "guide/y.md") None
unfolding chars encode encoded encoded_path is_path is_utf8 kind_on path_written percent_decode percent_encode_byte put_all reference
    resolve without_dots
link_no_anchor = refl

-- a fragment that stands for no UTF-8 is the anchor as it is
link_bad_anchor : classify (codes "guide/x.md") (codes "#%ff") ≡ Page (codes "guide/x.md") (Some (codes "%ff"))
unfolding chars encode encoded encoded_path is_path is_utf8 kind_on path_written percent_decode percent_encode_byte put_all reference
    resolve without_dots
link_bad_anchor = refl

link_anchor_slash : classify (codes "guide/x.md") (codes "#a/b?c") ≡ Page (codes "guide/x.md") (Some (codes "a/b?c"))
unfolding chars encode encoded encoded_path is_path is_utf8 kind_on path_written percent_decode percent_encode_byte put_all reference
    resolve without_dots
link_anchor_slash = refl

link_empty_segment : classify (codes "guide/x.md") (codes "a//b.md") ≡ Nowhere
unfolding chars encode encoded encoded_path is_path is_utf8 kind_on path_written percent_decode percent_encode_byte put_all reference
    resolve without_dots
link_empty_segment = refl

link_bad_bytes : classify (codes "guide/x.md") (codes "%ff.md") ≡ Nowhere
unfolding chars encode encoded encoded_path is_path is_utf8 kind_on path_written percent_decode percent_encode_byte put_all reference
    resolve without_dots
link_bad_bytes = refl

-- the page's own path is encoded before anything is resolved on it
link_in_a_space : classify (codes "a b/x#y.md") (codes "z.md") ≡ Page (codes "a b/z.md") None
unfolding chars encode encoded encoded_path is_path is_utf8 kind_on path_written percent_decode percent_encode_byte put_all reference
    resolve without_dots
link_in_a_space = refl

-- encoding
path_encoded : encoded_path (codes "a b/c~d.md") ≡ codes "a%20b/c~d.md"
unfolding encoded encoded_path percent_encode_byte
path_encoded = refl

-- an anchor has no segments: its `/` is encoded
anchor_encoded : encoded (codes "a/b%") ≡ codes "a%2Fb%25"
unfolding encoded percent_encode_byte
anchor_encoded = refl
