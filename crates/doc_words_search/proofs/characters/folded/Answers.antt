use Rattle.std.proofs.Common.{◌≡◌, chars, string_bytes, encode_utf8_all}
use Rattle.std.proofs.lemmas.Iterator.{text_from_collect}
use Rattle.std.proofs.lemmas.Result.{IfOk-at_ok}
use Rattle.std.specs.Str.Iter.{chars_steps}
use Rattle.unicode_normalization.proofs.IterLemmas.{Spells-chars}
use Rattle.caseless.specs.CaseFold.{CaseFoldSteps}
use Rattle.caseless.specs.Caseless.{default_case_fold}
use Rattle.caseless.proofs.CaselessLemmas.{Spells-CaseFold}
use Rattle.doc_words_search.proofs.characters.folded.Goals as goal

pub returns : goal.returns
returns c =
    IfOk-at_ok (λ t. string_bytes t ≡ encode_utf8_all (default_case_fold (chars c.args.run.now))) c.in_ok-collect.was
    (text_from_collect {steps = CaseFoldSteps chars_steps} {s = c.default_case_fold.result} _ c.collect.ensures.ran
    (record { runs = Spells-CaseFold (c.default_case_fold.ensures.text _ (Spells-chars _ _ c.utf8.run c.chars.ensures.rest)) }))
