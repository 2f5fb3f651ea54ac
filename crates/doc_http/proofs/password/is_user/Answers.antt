use Rattle.doc_http.proofs.PasswordLemmas.{no_user, user_of_text}
use Rattle.doc_http.proofs.password.is_user.Goals as goal

pub returns-in-Ok : goal.returns-in-Ok
returns-in-Ok c =
    user_of_text c.args.bytes.now c.in-Ok.user.now c.has_no_controls.result c.in-Ok.ensures.cases.0 c.in-Ok.ensures.cases.1
    c.has_no_controls.ensures

pub returns-in-Err : goal.returns-in-Err
returns-in-Err c = no_user c.args.bytes.now c.in-Err.ensures.cases.0
