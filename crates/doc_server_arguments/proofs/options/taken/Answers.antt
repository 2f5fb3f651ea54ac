use Rattle.std.proofs.Common.{option_copied, sym, ap, ◌∙◌}
use denote.Enum.Bare.{same_false}
use Rattle.doc_server_arguments.specs.contracts.options.Known.{the_type}
use Rattle.doc_server_arguments.specs.Texts.{texts}
use Rattle.doc_server_arguments.specs.Usage.{fault_shown}
use Rattle.doc_server_arguments.specs.OptionSteps.{said_so_far, shown_address, shown_file, shown_options, shown_pause}
use Rattle.std.proofs.lemmas.Result.{err_from_is_err_and}
use Rattle.doc_server_arguments.proofs.TakenLaws.{follow_more, json_more, log_more, none_of_six, status_more, status_wrong, watch_more, watch_wrong}
use Rattle.doc_server_arguments.proofs.options.taken.Goals as goal

pub returns-in_ok-file-in-text-2-clause-same : goal.returns-in_ok-file-in-text-2-clause-same
returns-in_ok-file-in-text-2-clause-same c =
    follow_more c.args.known (option_copied c.args.options.journal) (option_copied c.args.options.follow) c.args.options.log
    c.args.options.status c.args.options.watch c.args.option.now (texts c.args.behind.now) c.in_ok-file-in-text-2.file.now
    (texts c.in_ok-file-in-text-2.rest.now) (same_false the_type _ _ (sym c.eq.ensures ∙ c.if-eq.false)) c.in-text-2.is
    (ap shown_file (sym c.in_ok-file-in-text-2.was) ∙ c.file_of-in-text-2.ensures.same)

pub returns-in_ok-options-in-text-3-clause-same : goal.returns-in_ok-options-in-text-3-clause-same
returns-in_ok-options-in-text-3-clause-same c =
    log_more c.args.known (said_so_far c.args.options) c.args.option.now (texts c.args.behind.now)
    (said_so_far c.in_ok-options-in-text-3.options) (same_false the_type _ _ (sym c.eq.ensures ∙ c.if-eq.false)) c.in-text-3.is
    (ap shown_options (sym c.in_ok-options-in-text-3.was) ∙ c.logged.ensures)

pub returns-in_ok-options-in-text-4-clause-same : goal.returns-in_ok-options-in-text-4-clause-same
returns-in_ok-options-in-text-4-clause-same c =
    json_more c.args.known (said_so_far c.args.options) c.args.option.now (texts c.args.behind.now)
    (said_so_far c.in_ok-options-in-text-4.options) (same_false the_type _ _ (sym c.eq.ensures ∙ c.if-eq.false)) c.in-text-4.is
    (ap shown_options (sym c.in_ok-options-in-text-4.was) ∙ c.logged-in-text-4.ensures)

pub returns-in_ok-address-in-text-5-clause-same : goal.returns-in_ok-address-in-text-5-clause-same
returns-in_ok-address-in-text-5-clause-same c =
    status_more c.args.known (option_copied c.args.options.journal) (option_copied c.args.options.follow) c.args.options.log
    c.args.options.status c.args.options.watch c.args.option.now (texts c.args.behind.now) c.in_ok-address-in-text-5.address
    (texts c.in_ok-address-in-text-5.rest.now) (same_false the_type _ _ (sym c.eq.ensures ∙ c.if-eq.false)) c.in-text-5.is
    (ap shown_address (sym c.in_ok-address-in-text-5.was) ∙ c.address_behind.ensures.same)

pub returns-in_ok-seconds-in-text-6-clause-same : goal.returns-in_ok-seconds-in-text-6-clause-same
returns-in_ok-seconds-in-text-6-clause-same c =
    watch_more c.args.known (option_copied c.args.options.journal) (option_copied c.args.options.follow) c.args.options.log
    c.args.options.status c.args.options.watch c.args.option.now (texts c.args.behind.now) c.in_ok-seconds-in-text-6.seconds
    (texts c.in_ok-seconds-in-text-6.rest.now) (same_false the_type _ _ (sym c.eq.ensures ∙ c.if-eq.false)) c.in-text-6.is
    (ap shown_pause (sym c.in_ok-seconds-in-text-6.was) ∙ c.pause_behind.ensures.same)

pub returns-in_err-address-in-text-5-clause-same : goal.returns-in_err-address-in-text-5-clause-same
returns-in_err-address-in-text-5-clause-same c =
    let p = err_from_is_err_and c.from_residual-in_err-address-in-text-5.result c.from_residual-in_err-address-in-text-5.ensures.1 in
    rw (p.1, p.2) (status_wrong c.args.known (option_copied c.args.options.journal) (option_copied c.args.options.follow) c.args.options.log
    c.args.options.status c.args.options.watch c.args.option.now (texts c.args.behind.now)
    (fault_shown c.in_err-address-in-text-5.field-0.0) (same_false the_type _ _ (sym c.eq.ensures ∙ c.if-eq.false)) c.in-text-5.is
    (ap shown_address (sym c.in_err-address-in-text-5.was) ∙ c.address_behind.ensures.same))

pub returns-in_err-seconds-in-text-6-clause-same : goal.returns-in_err-seconds-in-text-6-clause-same
returns-in_err-seconds-in-text-6-clause-same c =
    let p = err_from_is_err_and c.from_residual-in_err-seconds-in-text-6.result c.from_residual-in_err-seconds-in-text-6.ensures.1 in
    rw (p.1, p.2) (watch_wrong c.args.known (option_copied c.args.options.journal) (option_copied c.args.options.follow) c.args.options.log
    c.args.options.status c.args.options.watch c.args.option.now (texts c.args.behind.now)
    (fault_shown c.in_err-seconds-in-text-6.field-0.0) (same_false the_type _ _ (sym c.eq.ensures ∙ c.if-eq.false)) c.in-text-6.is
    (ap shown_pause (sym c.in_err-seconds-in-text-6.was) ∙ c.pause_behind.ensures.same))

pub returns-in_default-2-clause-same : goal.returns-in_default-2-clause-same
returns-in_default-2-clause-same c =
    none_of_six c.args.known (said_so_far c.args.options) c.args.option.now (texts c.args.behind.now) c.in_default.not-text
    c.in_default-2.not-text-2 c.in_default-2.not-text-3 c.in_default-2.not-text-4 c.in_default-2.not-text-5 c.in_default-2.not-text-6
