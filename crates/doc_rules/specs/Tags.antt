-- Raw HTML (CommonMark 0.31.2, section 6.6). White space in a tag is spacing: form feeds are none (this project's choice).
use Rattle.std.specs.Prelude.{ℕ, not, ◌||◌, ◌==◌, codes}
use Rattle.std.specs.Char.{is_ascii_alphabetic, is_ascii_alphanumeric}
use Rattle.doc_rules.specs.Characters.{one_of, none_of}
use Rattle.doc_rules.specs.Parsers.{Parser, one, is, word, many, ◌then◌, ◌or◌, maybe, some, repeated, through, spacing, some_spacing}

-- ---- open and closing tags

-- a letter, then letters, digits and '-'
unfoldable pub tag_name : Parser
tag_name = one is_ascii_alphabetic then many (λ c. is_ascii_alphanumeric c || (c == 45))

-- a letter, '_' or ':', then letters, digits, '_', '.', ':' and '-'
unfoldable pub attribute_name : Parser
attribute_name = one (λ c. is_ascii_alphabetic c || one_of (codes "_:") c) then many
    (λ c. is_ascii_alphanumeric c || one_of (codes "_.:-") c)

-- all between two of this quotation mark
abbrev pub quoted_by : ℕ → Parser
quoted_by quote = is quote then many (λ c. not (c == quote)) then is quote

-- a value in single quotes, in double quotes, or without quotes
unfoldable pub attribute_value : Parser
attribute_value = quoted_by 39 or quoted_by 34 or some (none_of (codes " \t\r\n\"'=<>`"))

-- spacing, a name, and where '=' stands behind it a value
unfoldable pub attribute : Parser
attribute = some_spacing then attribute_name then maybe (spacing then is 61 then spacing then attribute_value)

-- '<', a name, attributes, spacing, maybe '/', '>'
unfoldable pub open_tag : Parser
open_tag = is 60 then tag_name then repeated attribute then spacing then maybe (is 47) then is 62

-- '</', a name, spacing, '>'
unfoldable pub closing_tag : Parser
closing_tag = word (codes "</") then tag_name then spacing then is 62

-- an open or a closing tag
abbrev pub html_tag : Parser
html_tag = open_tag or closing_tag

-- ---- all raw HTML

-- '<!-->', '<!--->', or '<!--' up to the first '-->'
unfoldable pub comment : Parser
comment = word (codes "<!-->") or word (codes "<!--->") or (word (codes "<!--") then through (word (codes "-->")))

-- a processing instruction
unfoldable pub instruction : Parser
instruction = word (codes "<?") then through (word (codes "?>"))

-- '<!' and a letter up to the first '>'
unfoldable pub declaration : Parser
declaration = word (codes "<!") then one is_ascii_alphabetic then through (is 62)

-- '<![CDATA[' up to the first ']]>'
unfoldable pub cdata : Parser
cdata = word (codes "<![CDATA[") then through (word (codes "]]>"))

-- any of these
unfoldable pub raw_html : Parser
raw_html = html_tag or comment or instruction or declaration or cdata
