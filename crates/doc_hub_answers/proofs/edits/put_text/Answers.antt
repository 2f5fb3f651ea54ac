use Rattle.std.proofs.Common.{ap, sym, refl, ◌∙◌}
use Rattle.std.specs.FinMap as map
use Rattle.std.specs.Prelude.{None, is_ok, ◌&&◌, if◌then◌else◌}
use Rattle.std.proofs.lemmas.Bool.{and_parts}
use Rattle.doc_http_replies.specs.ReplyForms.{code_of}
use Rattle.doc_store.specs.Store.{StoreState, fits_in}
use Rattle.doc_hub_answers.specs.Replies.{refused}
use Rattle.doc_hub_answers.specs.declared.edit.Edit.TheVariants as edits
use Rattle.doc_hub_answers.proofs.AnswerSteps.{sent_alone, sent_edited}
use Rattle.doc_hub_answers.proofs.OwnerSteps.{fits_where_ok}
use Rattle.doc_hub_answers.proofs.PutSteps.{put_fits, put_is_full}
use Rattle.doc_hub_answers.proofs.edits.put_text.Goals as goal

pub put_saying-requires : goal.put_saying-requires
put_saying-requires g c =
    let old = c.args.shelf.now.1 in
    let takes = c.args.exchange.now.takes_puts in
    let taken = ap (λ (s : StoreState). takes && is_ok (fits_in s c.args.path c.args.text.now)) (sym c.store.ensures)
    ∙ sym c.is_taken.ensures ∙ c.if-not-is_taken.false in
    record { fits = fits_where_ok (fits_in old c.args.path c.args.text.now) (and_parts takes _ taken).1 }

pub returns-then-not-is_taken-clause-answer : goal.returns-then-not-is_taken-clause-answer
returns-then-not-is_taken-clause-answer g c reader owns =
    let old = c.args.shelf.now.1 in
    let takes = c.args.exchange.now.takes_puts in
    sent_alone c.args.exchange.now old old c.args.text.now (refused 507) _ c.status.result c.status.ensures
    (put_is_full old reader c.args.path owns takes c.args.groups c.args.text.now
    (ap (λ (s : StoreState). takes && is_ok (fits_in s c.args.path c.args.text.now)) (sym c.store.ensures)
    ∙ sym c.is_taken.ensures ∙ c.if-not-is_taken.true)) refl refl

pub returns-clause-answer : goal.returns-clause-answer
returns-clause-answer g c reader owns =
    let old = c.args.shelf.now.1 in
    let exchange = c.args.exchange.now in
    let code = code_of c.put_status.result in
    let taken = ap (λ (s : StoreState). exchange.takes_puts && is_ok (fits_in s c.args.path c.args.text.now)) (sym c.store.ensures)
    ∙ sym c.is_taken.ensures ∙ c.if-not-is_taken.false in
    sent_edited exchange old c.put_saying.new.self.1 c.args.text.now c.sent.result c.after.result code
    (edits.Put c.args.path c.args.groups) _
    (c.sent.ensures ∙ ap (λ b. record { bytes = b; closes = exchange.manner.close; edit = None }) c.in_ok-bytes.ensures.reply)
    c.after.ensures
    (put_fits old reader c.args.path owns exchange.takes_puts c.args.groups c.args.text.now code
    (c.put_status.ensures ∙ ap (λ (s : StoreState). if map.contains_key s.site.pages c.args.path then 204 else 201) c.store-2.ensures) taken)
    c.in_ok-bytes.ensures.put
