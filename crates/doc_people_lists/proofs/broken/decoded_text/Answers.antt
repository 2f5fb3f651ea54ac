use Rattle.std.proofs.Common.{◌≡◌, ◌∙◌, sym, ap, subst, List, ℕ}
use Rattle.std.specs.Str.{IsUtf8}
use Rattle.std.specs.Result.{IfOk}
use Rattle.percent_encoding.specs.Percent.{percent_decode}
use Rattle.doc_resolve.proofs.LinkLaws.{decoded_text-utf8, decoded_text-other}
use Rattle.doc_people_lists.proofs.broken.decoded_text.Goals as goal

pub returns-in_ok-into_owned-in-Ok : goal.returns-in_ok-into_owned-in-Ok
returns-in_ok-into_owned-in-Ok c =
    let text = c.new.ensures ∙ c.in_ok-into_owned-in-Ok.ensures.ok ∙ c.in-Ok.ensures.value in
    let bytes = c.percent_decode.ensures.bytes ∙ ap percent_decode c.as_bytes.ensures.value in
    decoded_text-utf8 c.args.text.now c.new.result (text ∙ bytes) (subst IsUtf8 (sym text) c.in-Ok.ensures.ok_only_if_utf8)

pub returns-in-Err-Utf8 : goal.returns-in-Err-Utf8
returns-in-Err-Utf8 c =
    let bytes = c.percent_decode.ensures.bytes ∙ ap percent_decode c.as_bytes.ensures.value in
    let Is : List ℕ → Type 0 = λ t. IfOk c.copy_of.result (λ text. text ≡ t) in
    subst Is (decoded_text-other c.args.text.now _ bytes
    (λ utf8. let same = c.in-Err-Utf8.ensures.utf8 utf8 in let is = c.in-Err-Utf8.field-0-is in absurd (cc))) c.copy_of.ensures
