-- What stands behind the parts of a tail is the end of the text.
use Rattle.std.proofs.Common.{◌≡◌, Some, None, chars}
use Rattle.std.specs.Prelude.{Option, IfSome}
use Rattle.doc_rules.specs.Characters.{Text}
use Rattle.doc_rules.specs.Parsers.{is, spacing, some_spacing}
use Rattle.doc_rules.specs.Destinations.{destination, title}
use Rattle.doc_rules.specs.Rests.{IsRest}
use Rattle.doc_rules.proofs.ParserLaws.{is_rest_again}
use Rattle.doc_lines.proofs.Rests.{is_rest, spacing_rest, some_spacing_rest}
use Rattle.doc_refs_parts.proofs.Rests.{destination_rest, title_rest}
use Rattle.doc_inlines_marks.specs.declared.inline_tail.TailSource.{TailSource}

-- what stands behind the end of an end is behind the text
further : (found : Option TailSource) (mid text : Text) → IsRest mid text → IfSome found (λ source. IsRest (chars source.rest.now) mid)
    → IfSome found (λ source. IsRest (chars source.rest.now) text)
further None mid text h e = tt
further (Some source) mid text h e = is_rest_again text mid (chars source.rest.now) e h

pub closed_end : (text mid rest : Text) → Some mid ≡ spacing text → Some rest ≡ is 41 mid → IsRest rest text
closed_end text mid rest e f = is_rest_again text mid rest (is_rest 41 mid rest f) (spacing_rest text mid e)

pub title_end : (found : Option TailSource) (text start behind : Text) → Some start ≡ some_spacing text → Some behind ≡ title start
    → IfSome found (λ source. IsRest (chars source.rest.now) behind)
    → IfSome found (λ source. IsRest (chars source.rest.now) text)
title_end found text start behind e f = further found behind text
    (is_rest_again text start behind (title_rest start behind f) (some_spacing_rest text start e))

start_end : (text inside start : Text) → Some inside ≡ is 40 text → Some start ≡ spacing inside → IsRest start text
start_end text inside start e f = is_rest_again text inside start (spacing_rest inside start f) (is_rest 40 text inside e)

pub start_rest : (found : Option TailSource) (text inside start : Text) → Some inside ≡ is 40 text → Some start ≡ spacing inside
    → IfSome found (λ source. IsRest (chars source.rest.now) start)
    → IfSome found (λ source. IsRest (chars source.rest.now) text)
start_rest found text inside start e f = further found start text (start_end text inside start e f)

pub behind_destination : (found : Option TailSource) (text inside start behind : Text) → Some inside ≡ is 40 text
    → Some start ≡ spacing inside → Some behind ≡ destination start
    → IfSome found (λ source. IsRest (chars source.rest.now) behind) → IfSome found (λ source. IsRest (chars source.rest.now) text)
behind_destination found text inside start behind e f g = further found behind text
    (is_rest_again text start behind (destination_rest start behind g) (start_end text inside start e f))
