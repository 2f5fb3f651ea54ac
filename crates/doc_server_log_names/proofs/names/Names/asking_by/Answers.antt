use Rattle.std.proofs.Common.{◌≡◌, subst, ◌∙◌}
use Rattle.std.specs.Prelude.{IfOk}
use Rattle.doc_server_log.specs.Readers.{shown_reader}
use Rattle.doc_server_log_names.proofs.FieldSteps.{by_bearer, by_nothing, by_password}
use Rattle.doc_server_log_names.proofs.names.Names.asking_by.Goals as goal

pub returns-in-Some : goal.returns-in-Some
returns-in-Some c =
    c.reader_of.ensures
    ∙ by_bearer c.args.self.now c.args.login c.args.request.now c.args.value.now c.requires c.in-Some.token.now c.in-Some.ensures

pub returns-then-not-login : goal.returns-then-not-login
returns-then-not-login c =
    by_nothing c.args.self.now c.args.login c.args.request.now c.args.value.now c.requires c.in_default.ensures c.if-not-login.true

pub returns : goal.returns
returns c =
    subst (λ wanted. IfOk c.asking_by_password.result (λ reader. shown_reader reader ≡ wanted))
    (by_password c.args.self.now c.args.login c.args.request.now c.args.value.now c.requires c.in_default.ensures c.if-not-login.false)
    c.asking_by_password.ensures
