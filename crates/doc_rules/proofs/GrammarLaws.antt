-- Tags, destinations, titles, labels, definitions and addresses leave the end of a text; definitions one after another are
-- one and then the others.
use Rattle.std.proofs.Common.{◌≡◌, ℕ, zero, suc, ◌<◌, ◌≤◌, Bool, not, ◌==◌, List, [], ◌∷◌, length, refl, ap, sym, ◌∙◌, Option, Some, None}
use Rattle.std.proofs.Common.{arith, subst}
use Rattle.std.specs.Prelude.{codes, ◌||◌, option_map, nat_lt}
use Rattle.std.specs.Char.{is_ascii_punctuation, is_ascii_alphabetic, is_ascii_alphanumeric}
use Rattle.std.specs.Char.{is_ascii_control}
use Rattle.doc_rules.specs.Characters.{Text, one_of, none_of, is_space_or_tab}
use Rattle.doc_rules.specs.Parsers.{one, is, word, ◌then◌, ◌or◌, maybe, many, some, at_most, repeated, through, before, inside, passing}
use Rattle.doc_rules.specs.Parsers.{spacing, some_spacing}
use Rattle.doc_rules.specs.Rules.{Rules}
use Rattle.doc_rules.specs.Tags.{tag_name, attribute_name, quoted_by, attribute_value, attribute, open_tag, closing_tag, html_tag, comment}
use Rattle.doc_rules.specs.Tags.{instruction, declaration, cdata, raw_html}
use Rattle.doc_rules.specs.Autolinks.{is_scheme_char, scheme, uri, is_local_char, is_domain_char, is_domain_part, domain_part, mail}
use Rattle.doc_rules.specs.Destinations.{escaped, many_or_escaped, angled, is_bare, balanced, bare, destination, has_blank_line, title_in}
use Rattle.doc_rules.specs.Destinations.{title}
use Rattle.doc_rules.specs.Labels.{label_text, is_label, label}
use Rattle.doc_rules.specs.Definitions.{Definition, DefinitionSource, end_of_line, rest_of_line, margin, with_title, without_title}
use Rattle.doc_rules.specs.Definitions.{after_destination, after_label, definition_source, definition_of, definitions_within}
use Rattle.doc_rules.specs.Definitions.{definitions_of}
use Rattle.doc_rules.specs.Rests.{IsRest}
use Rattle.doc_rules.proofs.ParserLaws.{Leaves, Takes, rest_is_shorter, one_leaves, one_takes, nothing_leaves, word_leaves, then_leaves}
use Rattle.doc_rules.proofs.ParserLaws.{first_takes, or_leaves, maybe_leaves, many_leaves, some_leaves, at_most_leaves, repeated_leaves}
use Rattle.doc_rules.proofs.ParserLaws.{through_leaves, passing_leaves, line_ending_leaves, spacing_leaves, some_spacing_leaves}
use Rattle.doc_rules.proofs.ParserLaws.{is_rest_again}

pub is_leaves : (c : ℕ) → Leaves (is c)
is_leaves c = one_leaves (λ d. d == c)

pub is_takes : (c : ℕ) → Takes (is c)
is_takes c = one_takes (λ d. d == c)

-- ---- tags (6.6)

pub tag_name_leaves : Leaves tag_name
unfolding tag_name
tag_name_leaves = then_leaves (one is_ascii_alphabetic) (many (λ c. is_ascii_alphanumeric c || (c == 45))) (one_leaves is_ascii_alphabetic)
    (many_leaves (λ c. is_ascii_alphanumeric c || (c == 45)))

pub attribute_name_leaves : Leaves attribute_name
unfolding attribute_name
attribute_name_leaves =
    then_leaves (one (λ c. is_ascii_alphabetic c || one_of (codes "_:") c)) (many (λ c. is_ascii_alphanumeric c || one_of (codes "_.:-") c))
    (one_leaves (λ c. is_ascii_alphabetic c || one_of (codes "_:") c))
    (many_leaves (λ c. is_ascii_alphanumeric c || one_of (codes "_.:-") c))

pub quoted_by_leaves : (quote : ℕ) → Leaves (quoted_by quote)
quoted_by_leaves quote =
    then_leaves (is quote then many (λ c. not (c == quote))) (is quote)
    (then_leaves (is quote) (many (λ c. not (c == quote))) (is_leaves quote) (many_leaves (λ c. not (c == quote)))) (is_leaves quote)

pub attribute_value_leaves : Leaves attribute_value
unfolding attribute_value
attribute_value_leaves =
    or_leaves (quoted_by 39 or quoted_by 34) (some (none_of (codes " \t\r\n\"'=<>`")))
    (or_leaves (quoted_by 39) (quoted_by 34) (quoted_by_leaves 39) (quoted_by_leaves 34)) (some_leaves (none_of (codes " \t\r\n\"'=<>`")))

pub attribute_leaves : Leaves attribute
unfolding attribute
attribute_leaves =
    then_leaves (some_spacing then attribute_name) (maybe (spacing then is 61 then spacing then attribute_value))
    (then_leaves some_spacing attribute_name some_spacing_leaves attribute_name_leaves)
    (maybe_leaves (spacing then is 61 then spacing then attribute_value)
    (then_leaves (spacing then is 61 then spacing) attribute_value
    (then_leaves (spacing then is 61) spacing (then_leaves spacing (is 61) spacing_leaves (is_leaves 61)) spacing_leaves)
    attribute_value_leaves))

pub open_tag_leaves : Leaves open_tag
unfolding open_tag
open_tag_leaves =
    then_leaves (is 60 then tag_name then repeated attribute then spacing then maybe (is 47)) (is 62)
    (then_leaves (is 60 then tag_name then repeated attribute then spacing) (maybe (is 47))
    (then_leaves (is 60 then tag_name then repeated attribute) spacing
    (then_leaves (is 60 then tag_name) (repeated attribute) (then_leaves (is 60) tag_name (is_leaves 60) tag_name_leaves)
    (repeated_leaves attribute attribute_leaves)) spacing_leaves)
    (maybe_leaves (is 47) (is_leaves 47)))
    (is_leaves 62)

pub closing_tag_leaves : Leaves closing_tag
unfolding closing_tag
closing_tag_leaves =
    then_leaves (word (codes "</") then tag_name then spacing) (is 62)
    (then_leaves (word (codes "</") then tag_name) spacing (then_leaves (word (codes "</")) tag_name (word_leaves (codes "</"))
    tag_name_leaves) spacing_leaves) (is_leaves 62)

pub html_tag_leaves : Leaves html_tag
html_tag_leaves = or_leaves open_tag closing_tag open_tag_leaves closing_tag_leaves

pub comment_leaves : Leaves comment
unfolding comment
comment_leaves =
    or_leaves (word (codes "<!-->") or word (codes "<!--->")) (word (codes "<!--") then through (word (codes "-->")))
    (or_leaves (word (codes "<!-->")) (word (codes "<!--->")) (word_leaves (codes "<!-->")) (word_leaves (codes "<!--->")))
    (then_leaves (word (codes "<!--")) (through (word (codes "-->"))) (word_leaves (codes "<!--"))
    (through_leaves (word (codes "-->")) (word_leaves (codes "-->"))))

pub instruction_leaves : Leaves instruction
unfolding instruction
instruction_leaves = then_leaves (word (codes "<?")) (through (word (codes "?>"))) (word_leaves (codes "<?"))
    (through_leaves (word (codes "?>")) (word_leaves (codes "?>")))

pub declaration_leaves : Leaves declaration
unfolding declaration
declaration_leaves =
    then_leaves (word (codes "<!") then one is_ascii_alphabetic) (through (is 62))
    (then_leaves (word (codes "<!")) (one is_ascii_alphabetic) (word_leaves (codes "<!")) (one_leaves is_ascii_alphabetic))
    (through_leaves (is 62) (is_leaves 62))

pub cdata_leaves : Leaves cdata
unfolding cdata
cdata_leaves = then_leaves (word (codes "<![CDATA[")) (through (word (codes "]]>"))) (word_leaves (codes "<![CDATA["))
    (through_leaves (word (codes "]]>")) (word_leaves (codes "]]>")))

pub raw_html_leaves : Leaves raw_html
unfolding raw_html
raw_html_leaves =
    or_leaves (html_tag or comment or instruction or declaration) cdata
    (or_leaves (html_tag or comment or instruction) declaration
    (or_leaves (html_tag or comment) instruction (or_leaves html_tag comment html_tag_leaves comment_leaves) instruction_leaves)
    declaration_leaves) cdata_leaves

-- ---- destinations and titles (6.3)

pub escaped_leaves : Leaves escaped
escaped_leaves = then_leaves (is 92) (one is_ascii_punctuation) (is_leaves 92) (one_leaves is_ascii_punctuation)

pub escaped_takes : Takes escaped
escaped_takes = first_takes (is 92) (one is_ascii_punctuation) (is_takes 92) (one_leaves is_ascii_punctuation)

pub many_or_escaped_leaves : (test : ℕ → Bool) → Leaves (many_or_escaped test)
unfolding many_or_escaped
many_or_escaped_leaves test = repeated_leaves (escaped or one test) (or_leaves escaped (one test) escaped_leaves (one_leaves test))

pub angled_leaves : Leaves angled
unfolding angled
angled_leaves =
    then_leaves (is 60 then many_or_escaped (none_of (codes "<>\n\r"))) (is 62)
    (then_leaves (is 60) (many_or_escaped (none_of (codes "<>\n\r"))) (is_leaves 60) (many_or_escaped_leaves (none_of (codes "<>\n\r"))))
    (is_leaves 62)

pub balanced_leaves : (n : ℕ) → Leaves (balanced n)
unfolding balanced
balanced_leaves zero = many_or_escaped_leaves is_bare
balanced_leaves (suc n) =
    repeated_leaves (escaped or one is_bare or (is 40 then balanced n then is 41))
    (or_leaves (escaped or one is_bare) (is 40 then balanced n then is 41)
    (or_leaves escaped (one is_bare) escaped_leaves (one_leaves is_bare))
    (then_leaves (is 40 then balanced n) (is 41) (then_leaves (is 40) (balanced n) (is_leaves 40) (balanced_leaves n)) (is_leaves 41)))

pub bare_leaves : Leaves bare
unfolding bare
bare_leaves text rest e = at (is 60 text) e
  where
    at : (found : Option Text) → (elim found [ Some mid ↦ None | None ↦ passing (λ front. nat_lt 0 (length front)) (balanced 32) text ])
        ≡ Some rest → IsRest rest text
    at (Some mid) f = absurd cc
    at None f = passing_leaves (λ front. nat_lt 0 (length front)) (balanced 32) (balanced_leaves 32) text rest f

pub destination_leaves : Leaves destination
unfolding destination
destination_leaves = or_leaves angled bare angled_leaves bare_leaves

pub title_in_leaves : (left right : ℕ) → Leaves (title_in left right)
title_in_leaves left right =
    then_leaves (is left then many_or_escaped (λ c. not ((c == left) || (c == right)))) (is right)
    (then_leaves (is left) (many_or_escaped (λ c. not ((c == left) || (c == right)))) (is_leaves left)
    (many_or_escaped_leaves (λ c. not ((c == left) || (c == right))))) (is_leaves right)

pub title_leaves : Leaves title
unfolding title
title_leaves =
    passing_leaves (λ front. not (has_blank_line front)) (title_in 34 34 or title_in 39 39 or title_in 40 41)
    (or_leaves (title_in 34 34 or title_in 39 39) (title_in 40 41)
    (or_leaves (title_in 34 34) (title_in 39 39) (title_in_leaves 34 34) (title_in_leaves 39 39)) (title_in_leaves 40 41))

-- ---- labels (6.3)

pub label_leaves : Leaves label
unfolding label
label_leaves =
    then_leaves (is 91 then passing is_label label_text) (is 93)
    (then_leaves (is 91) (passing is_label label_text) (is_leaves 91)
    (passing_leaves is_label label_text (many_or_escaped_leaves (none_of (codes "[]"))))) (is_leaves 93)

pub label_takes : Takes label
unfolding label
label_takes =
    first_takes (is 91 then passing is_label label_text) (is 93)
    (first_takes (is 91) (passing is_label label_text) (is_takes 91)
    (passing_leaves is_label label_text (many_or_escaped_leaves (none_of (codes "[]"))))) (is_leaves 93)

-- ---- definitions (4.7)

pub end_of_line_leaves : Leaves end_of_line
unfolding end_of_line
end_of_line_leaves [] rest e = nothing_leaves [] rest e
end_of_line_leaves (c ∷ text) rest e = line_ending_leaves (c ∷ text) rest e

pub rest_of_line_leaves : Leaves rest_of_line
unfolding rest_of_line
rest_of_line_leaves = then_leaves (many is_space_or_tab) end_of_line (many_leaves is_space_or_tab) end_of_line_leaves

pub margin_leaves : Leaves margin
margin_leaves =
    then_leaves (maybe (is 32) then maybe (is 32)) (maybe (is 32))
    (then_leaves (maybe (is 32)) (maybe (is 32)) (maybe_leaves (is 32) (is_leaves 32)) (maybe_leaves (is 32) (is_leaves 32)))
    (maybe_leaves (is 32) (is_leaves 32))

-- what a definition leaves is the end of this text
abbrev EndsIn : Text → Option DefinitionSource → Type 0
EndsIn text found = (source : DefinitionSource) → found ≡ Some source → IsRest source.rest text

with_title_ends : (name dest text : Text) → EndsIn text (with_title name dest text)
unfolding with_title
with_title_ends name dest text source e = at (title text) refl e
  where
    behind_title : (behind : Text) → title text ≡ Some behind → (found : Option Text) → rest_of_line behind ≡ found →
        option_map (λ rest. record { label = name; dest = dest; title = Some (before behind text); rest = rest }) found ≡ Some source
        → IsRest source.rest text
    behind_title behind f None g k = absurd cc
    behind_title behind f (Some rest) g k =
        let same : record { label = name; dest = dest; title = Some (before behind text); rest = rest } ≡ source = cc in
        subst (λ (s : DefinitionSource). IsRest s.rest text) same
        (is_rest_again text behind rest (rest_of_line_leaves behind rest g) (title_leaves text behind f))

    at : (found : Option Text) → title text ≡ found → (elim found [
      | None ↦ None
      | Some behind ↦ option_map (λ rest. record { label = name; dest = dest; title = Some (before behind text); rest = rest })
          (rest_of_line behind)
    ]) ≡ Some source → IsRest source.rest text
    at None f k = absurd cc
    at (Some behind) f k = behind_title behind f (rest_of_line behind) refl k

without_title_ends : (name dest text : Text) → EndsIn text (without_title name dest text)
unfolding without_title
without_title_ends name dest text source e = at (rest_of_line text) refl e
  where
    at : (found : Option Text) → rest_of_line text ≡ found →
        option_map (λ rest. record { label = name; dest = dest; title = None; rest = rest }) found ≡ Some source → IsRest source.rest text
    at None g k = absurd cc
    at (Some rest) g k =
        let same : record { label = name; dest = dest; title = None; rest = rest } ≡ source = cc in
        subst (λ (s : DefinitionSource). IsRest s.rest text) same (rest_of_line_leaves text rest g)

after_destination_ends : (name dest text : Text) → EndsIn text (after_destination name dest text)
unfolding after_destination
after_destination_ends name dest text source e = at (some_spacing text) refl e
  where
    behind_spacing : (start : Text) → some_spacing text ≡ Some start → (found : Option DefinitionSource)
        → with_title name dest start ≡ found →
        (elim found [ Some those ↦ Some those | None ↦ without_title name dest text ]) ≡ Some source → IsRest source.rest text
    behind_spacing start f None g k = without_title_ends name dest text source k
    behind_spacing start f (Some those) g k = is_rest_again text start source.rest (with_title_ends name dest start source (g ∙ k))
        (some_spacing_leaves text start f)

    at : (found : Option Text) → some_spacing text ≡ found → (elim found [
      | None ↦ without_title name dest text
      | Some start ↦ elim (with_title name dest start) [ Some those ↦ Some those | None ↦ without_title name dest text ]
    ]) ≡ Some source → IsRest source.rest text
    at None f k = without_title_ends name dest text source k
    at (Some start) f k = behind_spacing start f (with_title name dest start) refl k

after_label_ends : (name text : Text) → EndsIn text (after_label name text)
unfolding after_label
after_label_ends name text source e = at ((is 58 then spacing) text) refl e
  where
    behind_colon : (start : Text) → (is 58 then spacing) text ≡ Some start → (found : Option Text) → destination start ≡ found →
        (elim found [ None ↦ None | Some behind ↦ after_destination name (before behind start) behind ]) ≡ Some source
        → IsRest source.rest text
    behind_colon start f None g k = absurd cc
    behind_colon start f (Some behind) g k =
        is_rest_again text start source.rest
        (is_rest_again start behind source.rest (after_destination_ends name (before behind start) behind source k)
        (destination_leaves start behind g))
        (then_leaves (is 58) spacing (is_leaves 58) spacing_leaves text start f)

    at : (found : Option Text) → (is 58 then spacing) text ≡ found → (elim found [
      | None ↦ None
      | Some start ↦ elim (destination start) [ None ↦ None | Some behind ↦ after_destination name (before behind start) behind ]
    ]) ≡ Some source → IsRest source.rest text
    at None f k = absurd cc
    at (Some start) f k = behind_colon start f (destination start) refl k

-- a definition takes a character at least, and leaves the end of the text
definition_source_ends : (text : Text) (source : DefinitionSource) → definition_source text ≡ Some source
    → (length source.rest < length text) × IsRest source.rest text
unfolding definition_source
definition_source_ends text source e = at (margin text) refl e
  where
    behind_margin : (start : Text) → margin text ≡ Some start → (found : Option Text) → label start ≡ found →
        (elim found [ None ↦ None | Some behind ↦ after_label (inside (before behind start)) behind ]) ≡ Some source
        → (length source.rest < length text) × IsRest source.rest text
    behind_margin start f None g k = absurd cc
    behind_margin start f (Some behind) g k =
        let ends : IsRest source.rest behind = after_label_ends (inside (before behind start)) behind source k in
        let a : length start ≤ length text = rest_is_shorter start text (margin_leaves text start f) in
        let b : length behind < length start = label_takes start behind g in
        let d : length source.rest ≤ length behind = rest_is_shorter source.rest behind ends in (
          omega arith,
          is_rest_again text start source.rest (is_rest_again start behind source.rest ends (label_leaves start behind g))
              (margin_leaves text start f),
        )

    at : (found : Option Text) → margin text ≡ found → (elim found [
      | None ↦ None
      | Some start ↦ elim (label start) [ None ↦ None | Some behind ↦ after_label (inside (before behind start)) behind ]
    ]) ≡ Some source → (length source.rest < length text) × IsRest source.rest text
    at None f k = absurd cc
    at (Some start) f k = behind_margin start f (label start) refl k

pub definition_takes : (text : Text) (source : DefinitionSource) → definition_source text ≡ Some source → length source.rest < length text
definition_takes text source e = (definition_source_ends text source e).0

pub definition_ends : (text : Text) (source : DefinitionSource) → definition_source text ≡ Some source → IsRest source.rest text
definition_ends text source e = (definition_source_ends text source e).1

abbrev one_more : ℕ → Rules → Text → Option DefinitionSource → List Definition × Text
one_more n rules text found =
    elim found [
      | None ↦ ([], text)
      | Some source ↦ (definition_of rules source ∷ (definitions_within n rules source.rest).0, (definitions_within n rules source.rest).1)
    ]

none_within : (n : ℕ) (rules : Rules) (text : Text) → length text ≤ 0 → definitions_within n rules text ≡ ([], text)
unfolding definitions_within
none_within zero rules text h = refl
none_within (suc n) rules text h = at (definition_source text) refl
  where
    at : (found : Option DefinitionSource) → definition_source text ≡ found → one_more n rules text found ≡ ([], text)
    at None e = refl
    at (Some source) e = let shorter : length source.rest < length text = definition_takes text source e in absurd (omega arith)

-- more room than characters doesn't matter
pub definitions_enough : (n m : ℕ) (rules : Rules) (text : Text) → length text ≤ n → length text ≤ m
    → definitions_within n rules text ≡ definitions_within m rules text
unfolding definitions_within
definitions_enough zero m rules text f g = sym (none_within m rules text f)
definitions_enough (suc n) zero rules text f g = none_within (suc n) rules text g
definitions_enough (suc n) (suc m) rules text f g = at (λ rest a b. definitions_enough n m rules rest a b) (definition_source text) refl
  where
    at : ((rest : Text) → length rest ≤ n → length rest ≤ m → definitions_within n rules rest ≡ definitions_within m rules rest) →
        (found : Option DefinitionSource) → definition_source text ≡ found → one_more n rules text found ≡ one_more m rules text found
    at go None e = refl
    at go (Some source) e =
        let shorter : length source.rest < length text = definition_takes text source e in
        ap (λ (more : List Definition × Text). (definition_of rules source ∷ more.0, more.1)) (go source.rest (omega arith) (omega arith))

abbrev first_and_more : Rules → Text → Option DefinitionSource → List Definition × Text
first_and_more rules text found =
    elim found [
      | None ↦ ([], text)
      | Some source ↦ (definition_of rules source ∷ (definitions_of rules source.rest).0, (definitions_of rules source.rest).1)
    ]

-- the definitions at the front of a text: none, or one and those behind it
pub definitions_step : (rules : Rules) (text : Text) → definitions_of rules text ≡ first_and_more rules text (definition_source text)
unfolding definitions_of definitions_within
definitions_step rules [] = at (definition_source []) refl
  where
    at : (found : Option DefinitionSource) → definition_source [] ≡ found → ([], []) ≡ first_and_more rules [] found
    at None e = refl
    at (Some source) e = let shorter : length source.rest < 0 = definition_takes [] source e in absurd (omega arith)
definitions_step rules (c ∷ text) = at (definition_source (c ∷ text)) refl
  where
    at : (found : Option DefinitionSource) → definition_source (c ∷ text) ≡ found
        → one_more (length text) rules (c ∷ text) found ≡ first_and_more rules (c ∷ text) found
    at None e = refl
    at (Some source) e =
        let shorter : length source.rest < length (c ∷ text) = definition_takes (c ∷ text) source e in
        ap (λ (more : List Definition × Text). (definition_of rules source ∷ more.0, more.1))
        (definitions_enough (length text) (length source.rest) rules source.rest (omega arith) (omega arith))

-- ---- autolinks (6.5)

pub scheme_leaves : Leaves scheme
unfolding scheme
scheme_leaves =
    then_leaves (one is_ascii_alphabetic then one is_scheme_char) (at_most 30 (one is_scheme_char))
    (then_leaves (one is_ascii_alphabetic) (one is_scheme_char) (one_leaves is_ascii_alphabetic) (one_leaves is_scheme_char))
    (at_most_leaves 30 (one is_scheme_char) (one_leaves is_scheme_char))

pub uri_leaves : Leaves uri
unfolding uri
uri_leaves =
    then_leaves (scheme then is 58) (many (λ c. not (is_ascii_control c || one_of (codes " <>") c)))
    (then_leaves scheme (is 58) scheme_leaves (is_leaves 58)) (many_leaves (λ c. not (is_ascii_control c || one_of (codes " <>") c)))

pub domain_part_leaves : Leaves domain_part
unfolding domain_part
domain_part_leaves = passing_leaves is_domain_part (many is_domain_char) (many_leaves is_domain_char)

pub mail_leaves : Leaves mail
unfolding mail
mail_leaves =
    then_leaves (some is_local_char then is 64 then domain_part) (repeated (is 46 then domain_part))
    (then_leaves (some is_local_char then is 64) domain_part
    (then_leaves (some is_local_char) (is 64) (some_leaves is_local_char) (is_leaves 64)) domain_part_leaves)
    (repeated_leaves (is 46 then domain_part) (then_leaves (is 46) domain_part (is_leaves 46) domain_part_leaves))
