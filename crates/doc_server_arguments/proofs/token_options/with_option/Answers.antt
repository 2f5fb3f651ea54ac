use Rattle.std.proofs.Common.{option_copied, sym, ap, ◌∙◌}
use Rattle.doc_server_arguments.specs.Texts.{texts}
use Rattle.doc_server_arguments.specs.TokenSteps.{shown_names}
use Rattle.doc_server_arguments.proofs.GivenLaws.{groups_more, owner_more}
use Rattle.doc_server_arguments.proofs.token_options.with_option.Goals as goal

pub returns-in-text-2-clause-same : goal.returns-in-text-2-clause-same
returns-in-text-2-clause-same c =
    owner_more c.args.given.is_owner (option_copied c.args.given.groups) c.args.option.now (texts c.args.behind.now) c.in-text.is
    c.if-given.false

pub returns-in_ok-names-in-text-3-clause-same : goal.returns-in_ok-names-in-text-3-clause-same
returns-in_ok-names-in-text-3-clause-same c =
    groups_more c.args.given.is_owner (option_copied c.args.given.groups) c.args.option.now (texts c.args.behind.now)
    c.in_ok-names-in-text-3.names.now (texts c.in_ok-names-in-text-3.rest.now) c.in-text-3.is
    (ap shown_names (sym c.in_ok-names-in-text-3.was) ∙ c.names_of.ensures.same)
