use Rattle.std.proofs.Common.{◌≡◌, subst}
use Rattle.std.specs.Prelude.{IfOk, option_copied}
use Rattle.doc_hub_asking.proofs.FieldSteps.{by_bearer, by_nothing, by_password}
use Rattle.doc_hub_asking.proofs.asking.reader_by.Goals as goal

pub returns-in-Some : goal.returns-in-Some
returns-in-Some c =
    by_bearer c.args.readers.now c.args.browse.now.login c.args.request.now c.args.value.now c.requires c.in-Some.token.now _
    c.in-Some.ensures c.find.ensures

pub returns-then-not-browse : goal.returns-then-not-browse
returns-then-not-browse c =
    by_nothing c.args.readers.now c.args.browse.now.login c.args.request.now c.args.value.now c.requires c.in_default.ensures
    c.if-not-browse.true

pub returns : goal.returns
returns c =
    subst (λ wanted. IfOk c.reader_by_password.result (λ reader. option_copied reader ≡ wanted))
    (by_password c.args.readers.now c.args.browse.now.login c.args.request.now c.args.value.now c.requires c.in_default.ensures
    c.if-not-browse.false)
    c.reader_by_password.ensures
