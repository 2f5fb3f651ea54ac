use Rattle.std.proofs.Common.{ap, sym, subst, ◌∙◌, [], cond}
use Rattle.std.specs.Prelude.{OnOk}
use Rattle.doc_store_readers.specs.Groups.{texts_of}
use Rattle.doc_server_script.specs.Compactions.{made, made_along}
use Rattle.doc_server_restore.specs.WriterSteps.{Wrote}
use Rattle.doc_server_restore.proofs.compact.write_page.Goals as goal

pub returns : goal.returns
returns g c =
    let page = c.args.page.now.page in
    subst (λ e. OnOk c.make_along.result
    (Wrote g.D.Device.seen g.D.Device.may_leave g.D.Device.failed g.D.Device.stale c.args.writer.now c.make_along.new.self e))
    (ap (made_along page) (ap texts_of c.as_slice.ensures.value ∙ c.in_ok-names.ensures)
    ∙ sym (ap (λ b. cond b [] (made c.args.site.now.site (c.args.path.now, page))) (sym c.in_ok-same_at.ensures ∙ c.if-branch.false)))
    c.make_along.ensures
