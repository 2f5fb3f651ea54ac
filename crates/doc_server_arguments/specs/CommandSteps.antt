-- Commands as the code has them.
use Rattle.std.specs.Prelude.{option_copied, Result, Ok, Err}
use Rattle.doc_server_arguments.specs.declared.command.Command.{Command}
use Rattle.doc_server_arguments.specs.declared.command.Command.TheVariants as commands
use Rattle.doc_server_arguments.specs.declared.usage_fault.UsageFault.{UsageFault}
use Rattle.doc_server_arguments.specs.Commands.{Asked, Demo, Render, Examples, Check, Replay, Serve, Listen, Compact, Folders, Lint, Token, TokenHash, Version, Help}
use Rattle.doc_server_arguments.specs.Usage.{Wrong, fault_shown}

abbrev pub command_shown : Command → Asked
command_shown commands.Demo = Demo
command_shown commands.Render = Render
command_shown (commands.Examples file) = Examples file.now
command_shown (commands.Check check) = Check check.config.now check.token.now
command_shown (commands.Replay replay) = Replay replay.config.now
command_shown (commands.Serve serve) = Serve serve.config.now serve.written.now serve.address serve.count serve.turns
command_shown (commands.Listen listen) =
    Listen listen.config.now listen.written.now listen.address (option_copied listen.journal) (option_copied listen.follow) listen.log
    listen.status listen.watch
command_shown (commands.Compact compact) = Compact compact.config.now compact.journal.now
command_shown (commands.Folders config) = Folders config.now
command_shown (commands.Lint lint) = Lint lint.config.now (option_copied lint.journal)
command_shown (commands.Token token) = Token token.name.now token.is_owner (option_copied token.groups)
command_shown commands.TokenHash = TokenHash
command_shown commands.Version = Version
command_shown commands.Help = Help

abbrev pub shown_command : Result Command UsageFault → Result Asked Wrong
shown_command (Ok command) = Ok (command_shown command)
shown_command (Err fault) = Err (fault_shown fault)
