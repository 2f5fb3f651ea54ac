-- Links and images (CommonMark 0.31.2, sections 6.3 and 6.4). What follows the ']' is read as it stands: code spans and tags in it
-- bind nothing (this project's choice).
use Rattle.std.specs.Prelude.{ℕ, ◌-◌, true, false, List, [], ◌∷◌, map, length, Option, Some, None, option_map, if◌then◌else◌, codes}
use Rattle.doc_rules.specs.Characters.{Text}
use Rattle.doc_rules.specs.Parsers.{is, word, ◌then◌, before, inside, begins, spacing, some_spacing}
use Rattle.doc_rules.specs.Rules.{Rules}
use Rattle.doc_rules.specs.Destinations.{Target, destination, title, target_of}
use Rattle.doc_rules.specs.Labels.{label, is_label}
use Rattle.doc_rules.specs.Definitions.{Definition, find_reference}
use Rattle.doc_rules.specs.Inlines.{Span, Link, Image, Bracket, Inline, Literal, Start, End, Open, onto, bracket_text}
use Rattle.doc_rules.specs.Emphasis.{emphasis_of}

-- the tail of a link, which follows its ']': the target, and the text behind the tail
abbrev pub Tail : Type 0
Tail = Option (Target × Text)

-- ---- inline links: '(', a destination, a title, ')'

-- spacing and the ')'
unfoldable pub closed : Target → Text → Tail
closed target text = option_map (λ after. (target, after)) ((spacing then is 41) text)

-- behind a destination: the title that stands at the front of this text
unfoldable pub title_tail : Rules → Text → Text → Tail
title_tail rules dest text = elim (title text) [ None ↦ None | Some after ↦ closed (target_of rules dest (Some (before after text))) after ]

-- behind a destination: a title set off by spacing, or none
unfoldable pub destination_tail : Rules → Text → Text → Tail
destination_tail rules dest text =
    elim (some_spacing text) [
      | None ↦ closed (target_of rules dest None) text
      | Some start ↦ elim (begins title start) [ true ↦ title_tail rules dest start | false ↦ closed (target_of rules dest None) text ]
    ]

-- the whole tail; a destination may be missing only where the title is too (this project's choice)
unfoldable pub inline_tail : Rules → Text → Tail
inline_tail rules rest =
    elim ((is 40 then spacing) rest) [
      | None ↦ None
      | Some start ↦ elim (destination start) [
        | None ↦ closed (target_of rules [] None) start
        | Some behind ↦ destination_tail rules (before behind start) behind
      ]
    ]

-- ---- reference links

-- the target that the label names, with the text behind the tail
unfoldable pub reference_target : List Definition → Text → Text → Tail
reference_target refs name after = option_map (λ target. (target, after)) (find_reference refs name)

-- the text behind '[]', or all of it where no '[]' stands there
unfoldable pub behind_empty_label : Text → Text
behind_empty_label rest = elim (word (codes "[]") rest) [ Some after ↦ after | None ↦ rest ]

-- full: the label that follows; collapsed and shortcut: the text between the brackets itself. Where a label follows, only that one counts
unfoldable pub reference_tail : List Definition → Text → Text → Tail
reference_tail refs text rest =
    elim (label rest) [
      | Some after ↦ reference_target refs (inside (before after rest)) after
      | None ↦ elim (is_label text) [ true ↦ reference_target refs text (behind_empty_label rest) | false ↦ None ]
    ]

-- the tail behind this text between brackets: the inline form is tried first
unfoldable pub link_tail : Rules → List Definition → Text → Text → Tail
link_tail rules refs text rest = elim (inline_tail rules rest) [ Some found ↦ Some found | None ↦ reference_tail refs text rest ]

-- ---- closing brackets

-- a bracket: what was made since it, the bracket, and what was made before it, the nearest first
pub record LastBracket : Type 0 where
  pub since : List Inline
  pub bracket : Bracket
  pub before : List Inline

-- the nearest bracket that was made
unfoldable pub last_bracket : List Inline → List Inline → Option LastBracket
last_bracket since [] = None
last_bracket since (Open bracket ∷ more) = Some (record { since = since; bracket = bracket; before = more })
last_bracket since (inline ∷ more) = last_bracket (inline ∷ since) more

-- a '[' before a link begins no link: links hold no links
unfoldable pub without_links : Inline → Inline
without_links (Open bracket) = Open (record bracket { live = bracket.image })
without_links inline = inline

-- the span that a bracket begins
abbrev pub link_span : Bracket → Target → Span
link_span bracket target = if bracket.image then Image target else Link target

-- a link or an image over all that was made since the bracket
unfoldable pub linked : LastBracket → Target → List Inline
linked last target =
    End (link_span last.bracket target)
    ∷ onto (emphasis_of last.since) (Start (link_span last.bracket target) ∷
    (if last.bracket.image then last.before else map without_links last.before))

-- the bracket and the ']' as text
unfoldable pub unlinked : LastBracket → List Inline
unlinked last = Literal 93 ∷ onto last.since (onto (bracket_text last.bracket) last.before)

-- a ']' with this text behind it
unfoldable pub close_bracket : Rules → List Definition → List Inline → Text → List Inline × ℕ
close_bracket rules refs made rest =
    elim (last_bracket [] made) [
      | None ↦ (Literal 93 ∷ made, 0)
      | Some last ↦ elim last.bracket.live [
        | false ↦ (unlinked last, 0)
        | true ↦ elim (link_tail rules refs (before (93 ∷ rest) last.bracket.behind) rest) [
          | None ↦ (unlinked last, 0)
          | Some found ↦ (linked last found.0, length rest - length found.1)
        ]
      ]
    ]
