use Rattle.std.proofs.Common.{◌≡◌, ap, chars, encode_utf8_all, string_bytes, take, ◌∙◌}
use Rattle.std.proofs.lemmas.Iterator.{text_from_collect, YieldsList-from_chars, YieldsList-from_take}
use Rattle.std.proofs.lemmas.Result.{IfOk-at_ok}
use Rattle.std.specs.Str.Iter.{chars_rest}
use Rattle.doc_people_lines.proofs.titles.first_characters.Goals as goal

pub returns : goal.returns
returns c =
    IfOk-at_ok (λ t. string_bytes t ≡ encode_utf8_all (take 79 (chars c.args.text.now))) c.in_ok-collect.was
    (text_from_collect {s = c.take.result} _ c.collect.ensures.ran
    (YieldsList-from_take 79 (YieldsList-from_chars c.args.text.now c.utf8.text
    (ap chars_rest c.take.ensures.source ∙ c.chars.ensures.rest))
    c.take.ensures.count))
