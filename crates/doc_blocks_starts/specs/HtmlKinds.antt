-- HTML blocks (CommonMark 0.31.2, section 4.6): kinds and names as doc_rules has them.
use Rattle.std.specs.Prelude.{◌≡◌, Bool, List, map, chars}
use denote.Ref.{Bor}
use Rattle.doc_rules.specs.Characters.{Text}
use Rattle.doc_rules.specs.HtmlStarts as rules
use Rattle.doc_blocks_starts.specs.declared.html.HtmlKind.{HtmlKind}
use Rattle.doc_blocks_starts.specs.declared.html.HtmlKind.TheVariants as kinds

-- the kind of the same name
abbrev pub kind_of : HtmlKind → rules.HtmlKind
kind_of kinds.RawText = rules.RawText
kind_of kinds.Comment = rules.Comment
kind_of kinds.Instruction = rules.Instruction
kind_of kinds.Declaration = rules.Declaration
kind_of kinds.Cdata = rules.Cdata
kind_of kinds.Element = rules.Element
kind_of kinds.AnyTag = rules.AnyTag

-- ASCII names as texts
abbrev pub names_of : List (Bor Text) → List Text
names_of names = map (λ name. name.now) names

-- this code answers whether a rest of a text passes the test
abbrev pub IsRestTestOf : (Bor Text → Bool → Type 0) → (Text → Bool) → Type 0
IsRestTestOf answers test = (rest : Bor Text) (b : Bool) → answers rest b → b ≡ test (chars rest.now)
