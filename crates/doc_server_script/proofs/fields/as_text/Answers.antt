use Rattle.std.proofs.Common.{ap}
use Rattle.std.proofs.lemmas.Str.{IsUtf8-string_bytes}
use Rattle.doc_server_script.proofs.FieldSteps.{text_found, text_missing}
use Rattle.doc_server_script.proofs.fields.as_text.Goals as goal

pub returns-in-Ok : goal.returns-in-Ok
returns-in-Ok c = text_found _ _ _ _ c.new.ensures (IsUtf8-string_bytes c.in-Ok.text) (ap (λ v. v.items) c.in-Ok.ensures.ok)
    c.into_inner.ensures

pub returns : goal.returns
returns c = text_missing _ _ c.into_inner.ensures c.in-Err.ensures.succeeds
