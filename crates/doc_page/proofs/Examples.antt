-- Worked examples, computed from the definitions alone.
use Rattle.std.proofs.Common.{◌≡◌, true, false, codes, refl, [], ◌∷◌}
use Rattle.std.specs.Prelude.{Ok, Err, Some, None, replicate}
use Rattle.std.specs.Str.{chars}
use Rattle.doc_page_parts.specs.Escaping.{escaped}
use Rattle.doc_page_parts.specs.Lines.{lines, is_blank, without_ending, stripped}
use Rattle.doc_page_parts.specs.Pages.{opening_tag}
use Rattle.doc_page_parts.specs.Paths.{is_path, path_of}
use Rattle.doc_page.specs.Plain.{paragraphs, plain_html, plain_page}
use Rattle.doc_page_parts.specs.declared.linker.Shown.TheVariants.{Href, Missing}
use Rattle.doc_page_parts.specs.declared.path.PathError.TheVariants.{BadPath}
use Rattle.doc_page_parts.specs.declared.rendered.Piece.TheVariants.{Html}

-- paths
pub two_segments : path_of (codes "guide/x.md") ≡ Ok (codes "guide/x.md")
unfolding is_path chars
two_segments = refl

pub dot_dot : path_of (codes "guide/../x.md") ≡ Err BadPath
unfolding is_path chars
dot_dot = refl

pub one_dot : path_of (codes "./x.md") ≡ Err BadPath
unfolding is_path chars
one_dot = refl

pub three_dots : path_of (codes ".../x.md") ≡ Ok (codes ".../x.md")
unfolding is_path chars
three_dots = refl

pub no_text : path_of [] ≡ Err BadPath
unfolding is_path chars
no_text = refl

pub leading_slash : path_of (codes "/x.md") ≡ Err BadPath
unfolding is_path chars
leading_slash = refl

pub trailing_slash : path_of (codes "guide/") ≡ Err BadPath
unfolding is_path chars
trailing_slash = refl

pub sixteen_segments : path_of (codes "a/a/a/a/a/a/a/a/a/a/a/a/a/a/a/a") ≡ Ok (codes "a/a/a/a/a/a/a/a/a/a/a/a/a/a/a/a")
unfolding is_path chars
sixteen_segments = refl

pub seventeen_segments : path_of (codes "a/a/a/a/a/a/a/a/a/a/a/a/a/a/a/a/a") ≡ Err BadPath
unfolding is_path chars
seventeen_segments = refl

pub bytes_200 : is_path (replicate 200 97) ≡ true
unfolding is_path chars
bytes_200 = refl

pub bytes_201 : is_path (replicate 201 97) ≡ false
unfolding is_path chars
bytes_201 = refl

-- U+0085, and U+00A0, which is no control character
pub next_line : path_of (97 ∷ 0xC2 ∷ 0x85 ∷ []) ≡ Err BadPath
unfolding is_path chars
next_line = refl

pub no_break_space : path_of (97 ∷ 0xC2 ∷ 0xA0 ∷ []) ≡ Ok (97 ∷ 0xC2 ∷ 0xA0 ∷ [])
unfolding is_path chars
no_break_space = refl

pub tab : path_of (codes "a\tb") ≡ Err BadPath
unfolding is_path chars
tab = refl

pub percent : path_of (codes "%2e") ≡ Err BadPath
unfolding is_path chars
percent = refl

pub backslash : path_of (codes "a\\b") ≡ Err BadPath
unfolding is_path chars
backslash = refl

pub question_mark : path_of (codes "a?b") ≡ Err BadPath
unfolding is_path chars
question_mark = refl

pub number_sign : path_of (codes "a#b") ≡ Err BadPath
unfolding is_path chars
number_sign = refl

pub space : path_of (codes "a b.md") ≡ Ok (codes "a b.md")
unfolding is_path chars
space = refl

-- escaping
pub escaping : escaped (codes "a<b & \"c\">d'e") ≡ codes "a&lt;b &amp; &quot;c&quot;&gt;d'e"
unfolding escaped
escaping = refl

-- lines: CR, CR LF, LF, and none at the end
pub line_endings : lines (codes "a\rb\r\n\nc\r\rd") ≡ codes "a\r" ∷ codes "b\r\n" ∷ codes "\n" ∷ codes "c\r" ∷ codes "\r" ∷ codes "d" ∷ []
unfolding lines
line_endings = refl

pub ending_last : lines (codes "a\n") ≡ codes "a\n" ∷ []
unfolding lines
ending_last = refl

pub no_lines : lines [] ≡ []
unfolding lines
no_lines = refl

pub ending_off : without_ending (codes " a \r\n") ≡ codes " a "
unfolding without_ending
ending_off = refl

pub blank : is_blank (codes " \t ") ≡ true
blank = refl

pub blank_without_text : is_blank [] ≡ true
blank_without_text = refl

-- a no-break space, and an ending, are no blanks
pub not_blank : is_blank (0xC2 ∷ 0xA0 ∷ []) ≡ false
not_blank = refl

pub ending_is_no_blank : is_blank (codes " \n") ≡ false
ending_is_no_blank = refl

pub stripped_text : stripped (codes "\t a\tb \t") ≡ codes "a\tb"
unfolding stripped
stripped_text = refl

pub stripped_blank : stripped (codes " \t ") ≡ []
unfolding stripped
stripped_blank = refl

-- plain pages
pub two_paragraphs : plain_page (codes "a\n b \n\nc<\n") ≡ record {
  pieces = Html (codes "<p>a\nb</p>\n<p>c&lt;</p>\n") ∷ [];
  headings = [];
  texts = codes "a\nb" ∷ codes "c<" ∷ [];
  images = [];
}
unfolding lines without_ending stripped paragraphs plain_html escaped
two_paragraphs = refl

pub empty_text : plain_page [] ≡ record { pieces = []; headings = []; texts = []; images = [] }
unfolding lines without_ending stripped paragraphs plain_html escaped
empty_text = refl

pub blank_text : plain_page (codes " \r\n\t\n") ≡ record { pieces = []; headings = []; texts = []; images = [] }
unfolding lines without_ending stripped paragraphs plain_html escaped
blank_text = refl

-- opening tags
pub tag : opening_tag None (Href (codes "/page/c.md")) ≡ codes "<a href=\"/page/c.md\">"
tag = refl

pub tag_with_title : opening_tag (Some (codes "a \"b\"")) (Href (codes "/u")) ≡ codes "<a href=\"/u\" title=\"a &quot;b&quot;\">"
unfolding escaped
tag_with_title = refl

pub tag_with_empty_title : opening_tag (Some []) (Href (codes "/u")) ≡ codes "<a href=\"/u\" title=\"\">"
unfolding escaped
tag_with_empty_title = refl

pub missing_tag : opening_tag (Some (codes "t")) Missing ≡ codes "<a class=\"missing\">"
missing_tag = refl
