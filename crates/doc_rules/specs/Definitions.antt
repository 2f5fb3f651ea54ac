-- Link reference definitions (CommonMark 0.31.2, section 4.7).
use Rattle.std.specs.Prelude.{ℕ, zero, suc, true, false, bytes_eq, List, [], ◌∷◌, length, Option, Some, None, option_map}
use Rattle.doc_rules.specs.Characters.{Text, is_space_or_tab}
use Rattle.doc_rules.specs.Parsers.{Parser, is, many, ◌then◌, maybe, before, inside, line_ending, spacing, some_spacing}
use Rattle.doc_rules.specs.Rules.{Rules}
use Rattle.doc_rules.specs.Destinations.{Target, destination, title, target_of}
use Rattle.doc_rules.specs.Labels.{label, normal_label}

-- a label as it stands between its brackets, and what it names
pub record Definition : Type 0 where
  pub label : Text
  pub target : Target

-- a definition at the front of a text: its parts as they stand, and the text behind it
pub record DefinitionSource : Type 0 where
  pub label : Text
  pub dest : Text
  pub title : Option Text
  pub rest : Text

-- ---- parts of a definition

-- the end of a line, or of the text
unfoldable pub end_of_line : Parser
end_of_line [] = Some []
end_of_line (c ∷ rest) = line_ending (c ∷ rest)

-- nothing but spaces and tabs up to the end of the line
unfoldable pub rest_of_line : Parser
rest_of_line = many is_space_or_tab then end_of_line

-- at most 3 spaces
abbrev pub margin : Parser
margin = maybe (is 32) then maybe (is 32) then maybe (is 32)

-- ---- one definition

-- with the title that begins at this text, where nothing more stands on its line
unfoldable pub with_title : Text → Text → Text → Option DefinitionSource
with_title name dest text =
    elim (title text) [
      | None ↦ None
      | Some behind ↦ option_map (λ rest. record { label = name; dest = dest; title = Some (before behind text); rest = rest })
          (rest_of_line behind)
    ]

-- without a title, where nothing more stands on the line
unfoldable pub without_title : Text → Text → Text → Option DefinitionSource
without_title name dest text = option_map (λ rest. record { label = name; dest = dest; title = None; rest = rest }) (rest_of_line text)

-- behind the destination: a title set off by spacing; where that fails the definition may stand without it
unfoldable pub after_destination : Text → Text → Text → Option DefinitionSource
after_destination name dest text =
    elim (some_spacing text) [
      | None ↦ without_title name dest text
      | Some start ↦ elim (with_title name dest start) [ Some found ↦ Some found | None ↦ without_title name dest text ]
    ]

-- behind the label: ':', spacing and a destination
unfoldable pub after_label : Text → Text → Option DefinitionSource
after_label name text =
    elim ((is 58 then spacing) text) [
      | None ↦ None
      | Some start ↦ elim (destination start) [ None ↦ None | Some behind ↦ after_destination name (before behind start) behind ]
    ]

-- the definition at the front of a text
unfoldable pub definition_source : Text → Option DefinitionSource
definition_source text =
    elim (margin text) [
      | None ↦ None
      | Some start ↦ elim (label start) [ None ↦ None | Some behind ↦ after_label (inside (before behind start)) behind ]
    ]

-- what it means
abbrev pub definition_of : Rules → DefinitionSource → Definition
definition_of rules source = record { label = source.label; target = target_of rules source.dest source.title }

-- ---- definitions one after another

-- the definitions at the front of a text, n at most, and the text behind them
unfoldable pub definitions_within : ℕ → Rules → Text → List Definition × Text
definitions_within zero rules text = ([], text)
definitions_within (suc n) rules text =
    elim (definition_source text) [
      | None ↦ ([], text)
      | Some source ↦ (definition_of rules source ∷ (definitions_within n rules source.rest).0, (definitions_within n rules source.rest).1)
    ]

-- the definitions at the front of a text, and the text behind them; each takes a character at least
unfoldable pub definitions_of : Rules → Text → List Definition × Text
definitions_of rules text = definitions_within (length text) rules text

-- ---- references

-- the target of the first definition whose label matches
unfoldable pub find_reference : List Definition → Text → Option Target
find_reference [] name = None
find_reference (d ∷ more) name = elim (bytes_eq (normal_label d.label) (normal_label name))
    [ true ↦ Some d.target | false ↦ find_reference more name ]
