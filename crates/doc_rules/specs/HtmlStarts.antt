-- Starts and ends of HTML blocks (CommonMark 0.31.2, section 4.6).
use Rattle.std.specs.Prelude.{Bool, true, false, not, ◌&&◌, ◌||◌, bytes_eq, List, [], ◌∷◌, ◌++◌, map, Option, Some, None, codes}
use Rattle.std.specs.List.{list_any}
use Rattle.std.specs.Char.{is_ascii_alphabetic, to_ascii_lowercase}
use Rattle.doc_rules.specs.Characters.{Text, is_blank_text}
use Rattle.doc_rules.specs.Parsers.{one, is, word, word_in_any_case, ◌then◌, maybe, before, begins, begins_before, holds}
use Rattle.doc_rules.specs.Tags.{tag_name, open_tag, closing_tag}
use Rattle.doc_rules.specs.LeafStarts.{is_end}

-- kinds 1 to 7 of the specification, in its order
pub data HtmlKind : Type 0 where
  RawText Comment Instruction Declaration Cdata Element AnyTag : HtmlKind

-- ---- names

-- the names of kind 1
unfoldable pub raw_text_names : List Text
raw_text_names = codes "script" ∷ codes "pre" ∷ codes "style" ∷ codes "textarea" ∷ []

-- the names of kind 6
unfoldable pub element_names : List Text
element_names =
    codes "address" ∷ codes "article" ∷ codes "aside" ∷ codes "base" ∷ codes "basefont" ∷ codes "blockquote" ∷ codes "body"
    ∷ codes "caption" ∷ codes "center" ∷ codes "col" ∷ codes "colgroup" ∷ codes "dd" ∷ codes "details" ∷ codes "dialog"
    ∷ codes "dir" ∷ codes "div" ∷ codes "dl" ∷ codes "dt" ∷ codes "fieldset" ∷ codes "figcaption" ∷ codes "figure"
    ∷ codes "footer" ∷ codes "form" ∷ codes "frame" ∷ codes "frameset" ∷ codes "h1" ∷ codes "h2" ∷ codes "h3" ∷ codes "h4"
    ∷ codes "h5" ∷ codes "h6" ∷ codes "head" ∷ codes "header" ∷ codes "hr" ∷ codes "html" ∷ codes "iframe" ∷ codes "legend"
    ∷ codes "li" ∷ codes "link" ∷ codes "main" ∷ codes "menu" ∷ codes "menuitem" ∷ codes "nav" ∷ codes "noframes" ∷ codes "ol"
    ∷ codes "optgroup" ∷ codes "option" ∷ codes "p" ∷ codes "param" ∷ codes "search" ∷ codes "section" ∷ codes "summary"
    ∷ codes "table" ∷ codes "tbody" ∷ codes "td" ∷ codes "tfoot" ∷ codes "th" ∷ codes "thead" ∷ codes "title" ∷ codes "tr"
    ∷ codes "track" ∷ codes "ul" ∷ []

-- the name is one of these
unfoldable pub is_among : List Text → Text → Bool
is_among names name = list_any (bytes_eq name) names

-- at the front a tag name, in any case one of these, and behind it a rest that passes the test
unfoldable pub is_named : List Text → (Text → Bool) → Text → Bool
is_named names test text = elim (tag_name text) [
  | None ↦ false
  | Some rest ↦ is_among names (map to_ascii_lowercase (before rest text)) &&
      test rest
]

-- ---- starts

-- behind a name of kind 1: a space, a tab, '>' or the end
abbrev pub ends_raw_text_name : Text → Bool
ends_raw_text_name rest = is_end rest || begins (is 62) rest

-- behind a name of kind 6: a space, a tab, '>', '/>' or the end
abbrev pub ends_element_name : Text → Bool
ends_element_name rest = is_end rest || (begins (is 62) rest || begins (word (codes "/>")) rest)

-- kind 1
unfoldable pub is_raw_text_start : Text → Bool
is_raw_text_start text = begins_before (is_named raw_text_names ends_raw_text_name) (is 60) text

-- kind 6
unfoldable pub is_element_start : Text → Bool
is_element_start text = begins_before (is_named element_names ends_element_name) (is 60 then maybe (is 47)) text

-- kind 7: a closing tag, or an open tag with no name of kind 1, and behind it spaces and tabs alone
unfoldable pub is_tag_line : Text → Bool
is_tag_line text =
    begins_before is_blank_text closing_tag text
    || (begins_before is_blank_text open_tag text && not (begins_before (is_named raw_text_names (λ rest. true)) (is 60) text))

-- this kind where the test holds, and else what follows
abbrev pub kind_if : Bool → HtmlKind → Option HtmlKind → Option HtmlKind
kind_if test kind more = elim test [ true ↦ Some kind | false ↦ more ]

-- the first kind of block that the text of a line begins
unfoldable pub html_start : Text → Option HtmlKind
html_start text =
    elim (begins (is 60) text) [
      | false ↦ None
      | true ↦
          kind_if (is_raw_text_start text) RawText
          (kind_if (begins (word (codes "<!--")) text) Comment
          (kind_if (begins (word (codes "<?")) text) Instruction
          (kind_if (begins (word (codes "<!") then one is_ascii_alphabetic) text) Declaration
          (kind_if (begins (word (codes "<![CDATA[")) text) Cdata
          (kind_if (is_element_start text) Element
          (kind_if (is_tag_line text) AnyTag None))))))
    ]

-- all kinds but 7 may interrupt a paragraph
unfoldable pub may_interrupt_paragraph : HtmlKind → Bool
may_interrupt_paragraph AnyTag = false
may_interrupt_paragraph _ = true

-- ---- ends

-- kinds 6 and 7 end before a blank line
unfoldable pub ends_before_blank : HtmlKind → Bool
ends_before_blank Element = true
ends_before_blank AnyTag = true
ends_before_blank _ = false

-- kinds 1 to 5 end with the line that holds this; the names of kind 1 in any case
unfoldable pub ends_html : HtmlKind → Text → Bool
ends_html RawText text = list_any (λ name. holds (word_in_any_case (codes "</" ++ name ++ codes ">")) text) raw_text_names
ends_html Comment text = holds (word (codes "-->")) text
ends_html Instruction text = holds (word (codes "?>")) text
ends_html Declaration text = holds (is 62) text
ends_html Cdata text = holds (word (codes "]]>")) text
ends_html _ text = false
