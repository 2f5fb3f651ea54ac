-- Targets and written paths, worked.
use Rattle.std.specs.Prelude.{◌≡◌, ◌++◌, ◌∷◌, Some, None, codes, refl}
use Rattle.std.specs.Str.{chars, is_utf8}
use Rattle.std.specs.Str.Lossy.{utf8_lossy, utf8_valid_len}
use lib.Utf8.{encode}
use Rattle.form_urlencoded.specs.Form.{raw_pairs, split}
use Rattle.percent_encoding.specs.Percent.{percent_decode}
use Rattle.doc_page_parts.specs.Paths.{is_path}
use Rattle.doc_resolve.specs.WrittenPaths.{path_written as path_of_segments}
use Rattle.doc_http_targets.specs.Queries.{optional_parameter, parameter, value_of}
use Rattle.doc_http_targets.specs.Targets.{origin_form, route_of, Page, Backlinks, Contents, Search, Broken}
use Rattle.doc_http_targets.specs.WrittenPaths.{path_written}

-- ---- pages

page : route_of (codes "/page/a.md") ≡ Some (Page (codes "a.md"))
unfolding route_of origin_form
page = refl

page_without_rest : route_of (codes "/page/") ≡ None
unfolding route_of origin_form
page_without_rest = refl

page_without_slash : route_of (codes "/page") ≡ None
unfolding route_of origin_form
page_without_slash = refl

page_in_capitals : route_of (codes "/Page/a.md") ≡ None
unfolding route_of origin_form
page_in_capitals = refl

two_slashes : route_of (codes "/page//x") ≡ Some (Page (codes "/x"))
unfolding route_of origin_form
two_slashes = refl

with_query : route_of (codes "/page/a.md?x") ≡ Some (Page (codes "a.md"))
unfolding route_of origin_form
with_query = refl

empty_before_query : route_of (codes "/page/?x") ≡ None
unfolding route_of origin_form
empty_before_query = refl

with_fragment : route_of (codes "/page/a.md#x") ≡ Some (Page (codes "a.md#x"))
unfolding route_of origin_form
with_fragment = refl

encoded_rest : route_of (codes "/page/a%2Fb") ≡ Some (Page (codes "a%2Fb"))
unfolding route_of origin_form
encoded_rest = refl

absolute : route_of (codes "http://h/page/a.md") ≡ Some (Page (codes "a.md"))
unfolding route_of origin_form
absolute = refl

absolute_with_port : route_of (codes "HTTP://docs:80/page/a.md?x") ≡ Some (Page (codes "a.md"))
unfolding route_of origin_form
absolute_with_port = refl

no_path_left : route_of (codes "HTTP://h") ≡ None
unfolding route_of origin_form
no_path_left = refl

slash_for_no_path : origin_form (codes "HTTP://h") ≡ Some (codes "/")
unfolding origin_form
slash_for_no_path = refl

query_after_authority : route_of (codes "http://h?/page/a.md") ≡ None
unfolding route_of origin_form
query_after_authority = refl

slash_before_query : origin_form (codes "http://h?/page/a.md") ≡ Some (codes "/?/page/a.md")
unfolding origin_form
slash_before_query = refl

fragment_after_authority : route_of (codes "http://h#/page/a.md") ≡ None
unfolding route_of origin_form
fragment_after_authority = refl

other_scheme : route_of (codes "https://h/page/a.md") ≡ None
unfolding route_of origin_form
other_scheme = refl

asterisk : route_of (codes "*") ≡ None
unfolding route_of origin_form
asterisk = refl

authority_alone : route_of (codes "docs:80") ≡ None
unfolding route_of origin_form
authority_alone = refl

-- ---- routes

links_to_a_page : route_of (codes "/backlinks/guide/start.md") ≡ Some (Backlinks (codes "guide/start.md"))
unfolding route_of origin_form
links_to_a_page = refl

links_with_query : route_of (codes "/backlinks/a.md?q") ≡ Some (Backlinks (codes "a.md"))
unfolding route_of origin_form
links_with_query = refl

links_without_rest : route_of (codes "/backlinks/") ≡ None
unfolding route_of origin_form
links_without_rest = refl

links_without_slash : route_of (codes "/backlinks") ≡ None
unfolding route_of origin_form
links_without_slash = refl

list_of_pages : route_of (codes "/contents") ≡ Some Contents
unfolding route_of origin_form
list_of_pages = refl

list_with_slash : route_of (codes "/contents/") ≡ None
unfolding route_of origin_form
list_with_slash = refl

list_in_capitals : route_of (codes "/Contents") ≡ None
unfolding route_of origin_form
list_in_capitals = refl

list_with_query : route_of (codes "/contents?page/a.md") ≡ Some Contents
unfolding route_of origin_form
list_with_query = refl

longer_than_a_route : route_of (codes "/contentsx") ≡ None
unfolding route_of origin_form
longer_than_a_route = refl

a_search : route_of (codes "/search?q=kiwi") ≡ Some Search
unfolding route_of origin_form
a_search = refl

search_with_rest : route_of (codes "/search/kiwi") ≡ None
unfolding route_of origin_form
search_with_rest = refl

search_of_absolute_form : route_of (codes "http://h/search?q=kiwi") ≡ Some Search
unfolding route_of origin_form
search_of_absolute_form = refl

broken_links : route_of (codes "/broken") ≡ Some Broken
unfolding route_of origin_form
broken_links = refl

broken_with_fragment : route_of (codes "/broken#x") ≡ None
unfolding route_of origin_form
broken_with_fragment = refl

no_route : route_of (codes "/") ≡ None
unfolding route_of origin_form
no_route = refl

page_before_query : route_of (codes "/page/?x") ≡ None
unfolding route_of origin_form
page_before_query = refl

encoded_slash_in_route : route_of (codes "/page%2Fa.md") ≡ None
unfolding route_of origin_form
encoded_slash_in_route = refl

-- ---- what is searched for

searched : parameter (codes "/search?q=kiwi") (codes "q") ≡ codes "kiwi"
unfolding value_of raw_pairs split percent_decode utf8_lossy utf8_valid_len is_utf8 chars encode
searched = refl

searched_with_spaces : parameter (codes "/search?q=two+words%21") (codes "q") ≡ codes "two words!"
unfolding value_of raw_pairs split percent_decode utf8_lossy utf8_valid_len is_utf8 chars encode
searched_with_spaces = refl

absent : parameter (codes "/search") (codes "q") ≡ codes ""
unfolding value_of raw_pairs split percent_decode utf8_lossy utf8_valid_len is_utf8 chars encode
absent = refl

without_value : parameter (codes "/search?q") (codes "q") ≡ codes ""
unfolding value_of raw_pairs split percent_decode utf8_lossy utf8_valid_len is_utf8 chars encode
without_value = refl

empty_value : parameter (codes "/search?q=") (codes "q") ≡ codes ""
unfolding value_of raw_pairs split percent_decode utf8_lossy utf8_valid_len is_utf8 chars encode
empty_value = refl

first_of_two : parameter (codes "/search?p=a&q=b&q=c") (codes "q") ≡ codes "b"
unfolding value_of raw_pairs split percent_decode utf8_lossy utf8_valid_len is_utf8 chars encode
first_of_two = refl

-- ---- parameters that may be absent

optional : optional_parameter (codes "/search?q=kiwi") (codes "q") ≡ Some (codes "kiwi")
unfolding value_of raw_pairs split percent_decode utf8_lossy utf8_valid_len is_utf8 chars encode
optional = refl

optional_absent : optional_parameter (codes "/search") (codes "q") ≡ None
unfolding value_of raw_pairs split percent_decode utf8_lossy utf8_valid_len is_utf8 chars encode
optional_absent = refl

optional_of_another_name : optional_parameter (codes "/search?p=a") (codes "q") ≡ None
unfolding value_of raw_pairs split percent_decode utf8_lossy utf8_valid_len is_utf8 chars encode
optional_of_another_name = refl

optional_without_value : optional_parameter (codes "/search?q") (codes "q") ≡ Some (codes "")
unfolding value_of raw_pairs split percent_decode utf8_lossy utf8_valid_len is_utf8 chars encode
optional_without_value = refl

optional_empty_value : optional_parameter (codes "/search?q=") (codes "q") ≡ Some (codes "")
unfolding value_of raw_pairs split percent_decode utf8_lossy utf8_valid_len is_utf8 chars encode
optional_empty_value = refl

optional_first_of_two : optional_parameter (codes "/search?q=&q=c") (codes "q") ≡ Some (codes "")
unfolding value_of raw_pairs split percent_decode utf8_lossy utf8_valid_len is_utf8 chars encode
optional_first_of_two = refl

optional_with_spaces : optional_parameter (codes "/move/a.md?to=two+words%21") (codes "to") ≡ Some (codes "two words!")
unfolding value_of raw_pairs split percent_decode utf8_lossy utf8_valid_len is_utf8 chars encode
optional_with_spaces = refl

-- ---- the path that is written

plain : path_written (codes "a.md") ≡ Some (codes "a.md")
unfolding path_written path_of_segments percent_decode is_utf8 chars is_path encode
plain = refl

encoded_dots : path_written (codes "%2e%2e") ≡ None
unfolding path_written path_of_segments percent_decode is_utf8 chars is_path encode
encoded_dots = refl

encoded_slash : path_written (codes "x%2Fy") ≡ None
unfolding path_written path_of_segments percent_decode is_utf8 chars is_path encode
encoded_slash = refl

encoded_slash_at_end : path_written (codes "x%2F") ≡ None
unfolding path_written path_of_segments percent_decode is_utf8 chars is_path encode
encoded_slash_at_end = refl

lone_percent : path_written (codes "a%") ≡ None
unfolding path_written path_of_segments percent_decode is_utf8 chars is_path encode
lone_percent = refl

encoded_percent : path_written (codes "a%25") ≡ None
unfolding path_written path_of_segments percent_decode is_utf8 chars is_path encode
encoded_percent = refl

folder : path_written (codes "guide/") ≡ Some (codes "guide/index.md")
unfolding path_written path_of_segments percent_decode is_utf8 chars is_path encode
folder = refl

top_folder : path_written (codes "") ≡ Some (codes "index.md")
unfolding path_written path_of_segments percent_decode is_utf8 chars is_path encode
top_folder = refl

slash_alone : path_written (codes "/") ≡ None
unfolding path_written path_of_segments percent_decode is_utf8 chars is_path encode
slash_alone = refl

empty_segment : path_written (codes "a//b") ≡ None
unfolding path_written path_of_segments percent_decode is_utf8 chars is_path encode
empty_segment = refl

dot_segment : path_written (codes "./a.md") ≡ None
unfolding path_written path_of_segments percent_decode is_utf8 chars is_path encode
dot_segment = refl

fragment : path_written (codes "a.md#x") ≡ None
unfolding path_written path_of_segments percent_decode is_utf8 chars is_path encode
fragment = refl

two_bytes : path_written (codes "caf%C3%A9.md") ≡ Some (codes "caf" ++ 0xC3 ∷ 0xA9 ∷ codes ".md")
unfolding path_written path_of_segments percent_decode is_utf8 chars is_path encode
two_bytes = refl

not_utf8 : path_written (codes "%ff") ≡ None
unfolding path_written path_of_segments percent_decode is_utf8 chars is_path encode
not_utf8 = refl

character_across_segments : path_written (codes "%C3/%A9") ≡ None
unfolding path_written path_of_segments percent_decode is_utf8 chars is_path encode
character_across_segments = refl

space : path_written (codes "a%20b") ≡ Some (codes "a b")
unfolding path_written path_of_segments percent_decode is_utf8 chars is_path encode
space = refl

two_segments : path_written (codes "guide/start.md") ≡ Some (codes "guide/start.md")
unfolding path_written path_of_segments percent_decode is_utf8 chars is_path encode
two_segments = refl
