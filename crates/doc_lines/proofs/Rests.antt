-- What a scanner answers is the end of the text, from what its contract says: so `front` may cut there.
use Rattle.std.proofs.Common.{◌≡◌, ℕ, Some, sym}
use Rattle.std.specs.Prelude.{codes, not, ◌||◌}
use Rattle.std.specs.Char.{is_ascii_alphabetic, is_ascii_control}
use Rattle.doc_rules.specs.Characters.{Text, one_of}
use Rattle.doc_rules.specs.Parsers.{one, is, many, some, at_most, repeated, word, ◌then◌, spacing, some_spacing}
use Rattle.doc_rules.specs.Tags.{tag_name, html_tag}
use Rattle.doc_rules.specs.Autolinks.{is_scheme_char, scheme, uri, is_local_char, domain_part, mail}
use Rattle.doc_rules.specs.Rests.{IsRest}
use Rattle.doc_rules.proofs.ParserLaws.{Leaves, one_leaves, many_leaves, some_leaves, at_most_leaves, repeated_leaves, word_leaves}
use Rattle.doc_rules.proofs.ParserLaws.{then_leaves, spacing_leaves, some_spacing_leaves}
use Rattle.doc_rules.proofs.GrammarLaws.{is_leaves, tag_name_leaves, html_tag_leaves}
use Rattle.doc_lines.proofs.Takes.{domain_part_leaves}

-- ---- autolinks

scheme_leaves : Leaves scheme
unfolding scheme
scheme_leaves =
    then_leaves (one is_ascii_alphabetic then one is_scheme_char) (at_most 30 (one is_scheme_char))
    (then_leaves (one is_ascii_alphabetic) (one is_scheme_char) (one_leaves is_ascii_alphabetic) (one_leaves is_scheme_char))
    (at_most_leaves 30 (one is_scheme_char) (one_leaves is_scheme_char))

uri_leaves : Leaves uri
unfolding uri
uri_leaves =
    then_leaves (scheme then is 58) (many (λ c. not (is_ascii_control c || one_of (codes " <>") c)))
    (then_leaves scheme (is 58) scheme_leaves (is_leaves 58)) (many_leaves (λ c. not (is_ascii_control c || one_of (codes " <>") c)))

mail_leaves : Leaves mail
unfolding mail
mail_leaves =
    then_leaves (some is_local_char then is 64 then domain_part) (repeated (is 46 then domain_part))
    (then_leaves (some is_local_char then is 64) domain_part
    (then_leaves (some is_local_char) (is 64) (some_leaves is_local_char) (is_leaves 64)) domain_part_leaves)
    (repeated_leaves (is 46 then domain_part) (then_leaves (is 46) domain_part (is_leaves 46) domain_part_leaves))

-- ---- as contracts say it

pub is_rest : (c : ℕ) (text rest : Text) → Some rest ≡ is c text → IsRest rest text
is_rest c text rest e = is_leaves c text rest (sym e)

pub word_rest : (w text rest : Text) → Some rest ≡ word w text → IsRest rest text
word_rest w text rest e = word_leaves w text rest (sym e)

pub spacing_rest : (text rest : Text) → Some rest ≡ spacing text → IsRest rest text
spacing_rest text rest e = spacing_leaves text rest (sym e)

pub some_spacing_rest : (text rest : Text) → Some rest ≡ some_spacing text → IsRest rest text
some_spacing_rest text rest e = some_spacing_leaves text rest (sym e)

pub tag_name_rest : (text rest : Text) → Some rest ≡ tag_name text → IsRest rest text
tag_name_rest text rest e = tag_name_leaves text rest (sym e)

pub html_tag_rest : (text rest : Text) → Some rest ≡ html_tag text → IsRest rest text
html_tag_rest text rest e = html_tag_leaves text rest (sym e)

pub uri_rest : (text rest : Text) → Some rest ≡ uri text → IsRest rest text
uri_rest text rest e = uri_leaves text rest (sym e)

pub mail_rest : (text rest : Text) → Some rest ≡ mail text → IsRest rest text
mail_rest text rest e = mail_leaves text rest (sym e)
