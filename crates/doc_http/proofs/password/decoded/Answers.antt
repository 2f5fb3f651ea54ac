use Rattle.base64.specs.Engines.{standard}
use Rattle.doc_http.proofs.PasswordLemmas.{decoded_err, decoded_ok}
use Rattle.doc_http.proofs.password.decoded.Goals as goal

pub returns-in-Ok : goal.returns-in-Ok
returns-in-Ok c =
    decoded_ok standard c.args.text.now c.in-Ok.bytes.items c.new.result c.in-Ok.ensures.ok c.new.ensures

pub returns-in-Err-DecodeError : goal.returns-in-Err-DecodeError
returns-in-Err-DecodeError c =
    let fails = rw c.in-Err-DecodeError.field-0-is at c.in-Err-DecodeError.ensures.err in
    decoded_err standard c.args.text.now c.in-Err-DecodeError.field-0-0 fails
