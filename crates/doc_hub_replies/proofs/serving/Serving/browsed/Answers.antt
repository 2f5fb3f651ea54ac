use Rattle.std.proofs.Common.{false, Some, ap, refl, sym, ◌∙◌}
use Rattle.std.proofs.lemmas.Bool.{and_parts}
use Rattle.doc_http_targets.specs.PeopleTargets.{is_style_sheet}
use Rattle.doc_media.specs.Media.{beside_of}
use Rattle.doc_store_readers.specs.Sites.{view_of}
use Rattle.doc_hub_media.specs.Edits.{puts_taken}
use Rattle.doc_hub_media.specs.Replies.{method_of, reads}
use Rattle.doc_hub_asking.specs.Asking.{Asking, reader_asking, row_of}
use Rattle.doc_hub_asking.specs.AskingSteps.{asking_shown}
use Rattle.doc_hub_editing_refusals.specs.AskedSteps.{edit_request_shown}
use Rattle.doc_hub_media.specs.EditAnswers.{is_preview, shows_preview}
use Rattle.doc_hub_replies.proofs.EditLaws.{nothing_is_asked, nothing_shows_none, who_reads_is_shown_none, with_entry_shows}
use Rattle.doc_hub_replies.proofs.EditLaws.{without_entry, without_entry_shows_none}
use Rattle.doc_hub_replies.proofs.ServingSteps.{counted_alone, counted_as, edited_so, style_so, unedited_so}
use Rattle.doc_hub_replies.proofs.serving.Serving.browsed.Goals as goal
use Rattle.doc_hub_replies.specs.Answers.{is_for_people, style_answer}
use Rattle.doc_hub_replies.specs.ServingSteps.{closes_after}

pub returns-then-asks_for_style-clause-answer : goal.returns-then-asks_for_style-clause-answer
returns-then-asks_for_style-clause-answer g c =
    let request = c.args.request.now in
    let store = c.args.shelf.now.1 in
    let browse = c.args.browse.now in
    let asking = reader_asking (Some browse) c.args.self.now.readers.now request in
    style_so browse (g.R.Renderer.page c.args.shelf.now.0) (view_of store.site (row_of asking))
    (beside_of c.args.self.now.media.now (row_of asking)) asking store (puts_taken c.args.self.now.takes_puts store.puts)
    (closes_after c.args.self.now.settings.now request) request c.style.result
    (sym c.asks_for_style.ensures ∙ c.if-asks_for_style.true) c.style.ensures

pub returns-then-asks_for_style-clause-counted : goal.returns-then-asks_for_style-clause-counted
returns-then-asks_for_style-clause-counted g c =
    let request = c.args.request.now in
    let store = c.args.shelf.now.1 in
    let browse = c.args.browse.now in
    let asking = reader_asking (Some browse) c.args.self.now.readers.now request in
    let rendered = g.R.Renderer.count c.args.shelf.now.0 in
    counted_alone rendered store.puts rendered store.puts (is_preview browse asking request)
    (style_answer (closes_after c.args.self.now.settings.now request) request) c.style.result c.style.ensures refl refl refl
    (who_reads_is_shown_none request browse asking
    (and_parts (reads (method_of request.method)) (is_style_sheet request.target)
    (sym c.asks_for_style.ensures ∙ c.if-asks_for_style.true)).0)

pub returns-in_default-clause-answer : goal.returns-in_default-clause-answer
returns-in_default-clause-answer g c =
    let request = c.args.request.now in
    let store = c.args.shelf.now.1 in
    let browse = c.args.browse.now in
    let told = asking_shown c.in_ok-asking.asking in
    let asking = reader_asking (Some browse) c.args.self.now.readers.now request in
    let render = g.R.Renderer.page c.args.shelf.now.0 in
    let left = puts_taken c.args.self.now.takes_puts store.puts in
    unedited_so browse render store c.args.self.now.media.now left (closes_after c.args.self.now.settings.now request) request told c.unedited.new.shelf.1
    c.unedited.result asking c.in_ok-asking.ensures (sym c.asks_for_style.ensures ∙ c.if-asks_for_style.false)
    (nothing_is_asked render browse (view_of store.site (row_of told)) (beside_of c.args.self.now.media.now (row_of told)) left (is_for_people request) request told (sym c.in_default.ensures))
    c.unedited.ensures.answer

pub returns-in_default-clause-counted : goal.returns-in_default-clause-counted
returns-in_default-clause-counted g c =
    let request = c.args.request.now in
    let store = c.args.shelf.now.1 in
    let browse = c.args.browse.now in
    let asking = reader_asking (Some browse) c.args.self.now.readers.now request in
    counted_as (g.R.Renderer.count c.args.shelf.now.0) store.puts (g.R.Renderer.count c.unedited.new.shelf.0) c.unedited.new.shelf.1.puts
    false (is_preview browse asking request) c.unedited.result
    (sym (nothing_shows_none request browse asking (sym c.in_default.ensures)))
    c.unedited.ensures.counted

pub returns-in-Some-row-clause-answer : goal.returns-in-Some-row-clause-answer
returns-in-Some-row-clause-answer g c =
    let request = c.args.request.now in
    let store = c.args.shelf.now.1 in
    let browse = c.args.browse.now in
    let told = asking_shown c.in_ok-asking.asking in
    let asking = reader_asking (Some browse) c.args.self.now.readers.now request in
    let render = g.R.Renderer.page c.args.shelf.now.0 in
    let left = puts_taken c.args.self.now.takes_puts store.puts in
    edited_so browse render store c.args.self.now.media.now left (closes_after c.args.self.now.settings.now request) request told c.edited.new.shelf.1
    c.edited.result asking c.in_ok-asking.ensures (sym c.asks_for_style.ensures ∙ c.if-asks_for_style.false) c.in-Some-row.row.now
    (edit_request_shown c.in-Some.asked) c.in-Some-row.ensures (sym c.in-Some.ensures) c.edited.ensures.answer

pub returns-in-Some-row-clause-counted : goal.returns-in-Some-row-clause-counted
returns-in-Some-row-clause-counted g c =
    let request = c.args.request.now in
    let store = c.args.shelf.now.1 in
    let browse = c.args.browse.now in
    let told = asking_shown c.in_ok-asking.asking in
    let asking = reader_asking (Some browse) c.args.self.now.readers.now request in
    counted_as (g.R.Renderer.count c.args.shelf.now.0) store.puts (g.R.Renderer.count c.edited.new.shelf.0) c.edited.new.shelf.1.puts
    (shows_preview c.in-Some-row.row.now.owner request (Some (edit_request_shown c.in-Some.asked))) (is_preview browse asking request)
    c.edited.result
    (with_entry_shows browse told request c.in-Some-row.row.now (edit_request_shown c.in-Some.asked) c.in-Some-row.ensures
    (sym c.in-Some.ensures) ∙ ap (λ (who : Asking). is_preview browse who request) c.in_ok-asking.ensures)
    c.edited.ensures.counted

pub returns-clause-answer : goal.returns-clause-answer
returns-clause-answer g c =
    let request = c.args.request.now in
    let store = c.args.shelf.now.1 in
    let browse = c.args.browse.now in
    let told = asking_shown c.in_ok-asking.asking in
    let asking = reader_asking (Some browse) c.args.self.now.readers.now request in
    let render = g.R.Renderer.page c.args.shelf.now.0 in
    let left = puts_taken c.args.self.now.takes_puts store.puts in
    unedited_so browse render store c.args.self.now.media.now left (closes_after c.args.self.now.settings.now request) request told c.unedited-in-None.new.shelf.1
    c.unedited-in-None.result asking c.in_ok-asking.ensures (sym c.asks_for_style.ensures ∙ c.if-asks_for_style.false)
    (without_entry render browse (view_of store.site (row_of told)) (beside_of c.args.self.now.media.now (row_of told)) left (is_for_people request) request told c.in-None.ensures)
    c.unedited-in-None.ensures.answer

pub returns-clause-counted : goal.returns-clause-counted
returns-clause-counted g c =
    let request = c.args.request.now in
    let store = c.args.shelf.now.1 in
    let browse = c.args.browse.now in
    let told = asking_shown c.in_ok-asking.asking in
    let asking = reader_asking (Some browse) c.args.self.now.readers.now request in
    counted_as (g.R.Renderer.count c.args.shelf.now.0) store.puts (g.R.Renderer.count c.unedited-in-None.new.shelf.0)
    c.unedited-in-None.new.shelf.1.puts false (is_preview browse asking request) c.unedited-in-None.result
    (sym (without_entry_shows_none request browse told c.in-None.ensures)
    ∙ ap (λ (who : Asking). is_preview browse who request) c.in_ok-asking.ensures)
    c.unedited-in-None.ensures.counted
