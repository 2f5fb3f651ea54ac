use Rattle.std.proofs.Common.{◌≡◌, sym, chars, string_bytes, encode_utf8_all}
use Rattle.std.proofs.lemmas.Iterator.{text_from_collect}
use Rattle.std.proofs.lemmas.Result.{IfOk-at_ok}
use Rattle.std.proofs.lemmas.Str.{IsUtf8-string_bytes, chars_from_encodes}
use Rattle.std.specs.Str.Iter.{chars_steps}
use Rattle.unicode_normalization.proofs.IterLemmas.{Spells-chars}
use Rattle.caseless.specs.CaseFold.{CaseFoldSteps}
use Rattle.caseless.specs.Caseless.{default_case_fold}
use Rattle.caseless.proofs.CaselessLemmas.{Spells-CaseFold}
use Rattle.doc_refs.proofs.labels.folded.Goals as goal

pub returns : goal.returns
returns c =
    let bytes : string_bytes c.in_ok-collect.field-0 ≡ encode_utf8_all (default_case_fold (chars c.args.text.now))
    = IfOk-at_ok (λ t. string_bytes t ≡ encode_utf8_all (default_case_fold (chars c.args.text.now))) c.in_ok-collect.was
    (text_from_collect {steps = CaseFoldSteps chars_steps} {s = c.default_case_fold.result} _ c.collect.ensures.ran
    (record { runs = Spells-CaseFold (c.default_case_fold.ensures.text _ (Spells-chars _ _ c.utf8.text c.chars.ensures.rest)) })) in
    sym (chars_from_encodes _ _ (IsUtf8-string_bytes c.in_ok-collect.field-0) (sym bytes))
