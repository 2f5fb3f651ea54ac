-- Link labels (CommonMark 0.31.2, section 6.3).
use Rattle.std.specs.Prelude.{nat_le, Bool, true, false, not, ◌&&◌, [], ◌∷◌, length, codes}
use Rattle.std.specs.List.{list_all}
use Rattle.caseless.specs.Caseless.{default_case_fold}
use Rattle.doc_rules.specs.Characters.{Text, none_of, is_space_tab_or_ending, first_or, strip}
use Rattle.doc_rules.specs.Parsers.{Parser, is, ◌then◌, passing, begins_before, is_nothing}
use Rattle.doc_rules.specs.Destinations.{many_or_escaped}

-- characters, of which brackets only escaped
abbrev pub label_text : Parser
label_text = many_or_escaped (none_of (codes "[]"))

-- what may stand between the brackets of a label: at most 999 characters, one of which is no space, tab or line ending
unfoldable pub is_label : Text → Bool
is_label text = nat_le (length text) 999 && (not (list_all is_space_tab_or_ending text) && begins_before is_nothing label_text text)

-- a label with its brackets
unfoldable pub label : Parser
label = is 91 then passing is_label label_text then is 93

-- each run of spaces, tabs and line endings as one space
unfoldable pub collapse : Text → Text
collapse [] = []
collapse (c ∷ rest) =
    elim (is_space_tab_or_ending c) [
      | true ↦ elim (is_space_tab_or_ending (first_or 0 rest)) [ true ↦ collapse rest | false ↦ 32 ∷ collapse rest ]
      | false ↦ c ∷ collapse rest
    ]

-- labels match where these are equal: case folded, stripped and collapsed, with no escape or reference read
unfoldable pub normal_label : Text → Text
normal_label name = collapse (strip is_space_tab_or_ending (default_case_fold name))
