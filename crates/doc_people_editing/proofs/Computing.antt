-- Names to unfold where an example computes.
use Rattle.std.specs.Char.{encode_utf8}
use Rattle.std.specs.Fmt.{digits}
use Rattle.std.specs.Str.{chars, is_utf8}
use Rattle.percent_encoding.specs.Percent.{percent_decode, percent_encode_byte}
use Rattle.doc_page_parts.specs.Escaping.{escaped}
use Rattle.doc_page_parts.specs.Pages.{filled}
use Rattle.doc_page_parts.specs.Paths.{is_path}
use Rattle.doc_page_encoding.specs.Encoding.{destination, encoded, encoded_path}
use Rattle.doc_resolve.specs.DotSegments.{put_all, without_dots}
use Rattle.doc_resolve.specs.Links.{kind_on, kinds}
use Rattle.doc_resolve.specs.References.{reference}
use Rattle.doc_resolve.specs.Resolution.{resolve}
use Rattle.doc_resolve.specs.WrittenPaths.{path_written}
use Rattle.doc_people.specs.Folders.{keys, short}
use Rattle.doc_people.specs.Inert.{disarmed}
use Rattle.doc_people.specs.Navigation.{folders_to, tree}
use Rattle.doc_people.specs.Shell.{head, bare, shell}
use Rattle.doc_people_editing.specs.EditPage.{begin_body, edit_body, edit_main}
use Rattle.doc_people_editing.specs.NewPage.{new_body, new_main}
use Rattle.doc_people_editing.specs.Preview.{preview_body, preview_main}

-- what the pages for editing are of
unfoldable pub editing_words : Unit {0}
unfolding encode_utf8 digits chars is_utf8 percent_decode percent_encode_byte escaped filled is_path destination encoded encoded_path
    put_all without_dots kind_on kinds reference resolve path_written keys short disarmed folders_to tree head bare shell begin_body
    edit_body edit_main new_body new_main preview_body preview_main
editing_words = tt
