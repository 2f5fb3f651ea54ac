-- Names to unfold where an example computes.
use Rattle.std.proofs.Math.Utf8.{encode}
use Rattle.std.specs.Char.{encode_utf8}
use Rattle.std.specs.Fmt.{digits}
use Rattle.std.specs.Path.{rsplit_once}
use Rattle.std.specs.Str.{chars, is_utf8}
use Rattle.caseless.specs.Caseless.{default_case_fold}
use Rattle.percent_encoding.specs.Percent.{percent_decode, percent_encode_byte}
use Rattle.ucd_case.proofs.Computing.{ucd_case}
use Rattle.ucd_category.proofs.Computing.{ucd_category}
use Rattle.doc_media.specs.Kinds.{kind_of}
use Rattle.doc_media_links.specs.Images.{broken_images}
use Rattle.doc_page_parts.specs.Escaping.{escaped}
use Rattle.doc_page_parts.specs.Pages.{filled}
use Rattle.doc_page_parts.specs.Paths.{is_path}
use Rattle.doc_page_encoding.specs.Encoding.{destination, encoded, encoded_path}
use Rattle.doc_resolve.specs.DotSegments.{put_all, without_dots}
use Rattle.doc_resolve.specs.Links.{kind_on, kinds}
use Rattle.doc_resolve.specs.References.{reference}
use Rattle.doc_resolve.specs.Resolution.{resolve}
use Rattle.doc_resolve.specs.WrittenPaths.{path_written}
use Rattle.doc_rules.specs.Characters.{is_space_separator, is_white}
use Rattle.doc_links_pages.specs.Links.{backlinks}
use Rattle.doc_people.specs.BrokenLinks.{broken_body}
use Rattle.doc_people.specs.Folders.{keys, short}
use Rattle.doc_people.specs.Hits.{hits}
use Rattle.doc_people.specs.Inert.{disarmed}
use Rattle.doc_people.specs.Lists.{backlinks_body, contents_body}
use Rattle.doc_people.specs.Navigation.{folders_to, tree}
use Rattle.doc_people.specs.Pages.{page_body}
use Rattle.doc_people.specs.Search.{search_body}
use Rattle.doc_people.specs.Shell.{head, bare, shell}
use Rattle.doc_people.specs.Snippets.{parts, snippet_of}
use Rattle.doc_people.specs.Statuses.{moved_body, not_found_body, not_signed_in_body, refused_body}

-- templates and statuses
unfoldable pub shell_words : Unit {0}
unfolding encode_utf8 digits chars percent_encode_byte escaped encoded encoded_path keys short disarmed folders_to tree head bare shell
    moved_body not_found_body not_signed_in_body refused_body
shell_words = tt

-- and pages and lists
unfoldable pub page_words : Unit {0}
unfolding shell_words encode is_utf8 percent_decode filled is_path destination put_all without_dots kind_on kinds reference resolve
    path_written backlinks broken_images page_body contents_body backlinks_body broken_body
page_words = tt

-- and pages and lists beside media
unfoldable pub media_words : Unit {0}
unfolding page_words rsplit_once kind_of
media_words = tt

-- and searches
unfoldable pub search_words : Unit {0}
unfolding page_words default_case_fold ucd_case ucd_category is_space_separator is_white hits parts snippet_of search_body
search_words = tt
