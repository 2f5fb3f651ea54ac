-- What isn't understood of arguments, and how that is told.
use Rattle.std.specs.Prelude.{ℕ, List, ◌++◌, codes}
use Rattle.doc_server_arguments.specs.declared.usage_fault.UsageFault.{UsageFault}
use Rattle.doc_server_arguments.specs.declared.usage_fault.UsageFault.TheVariants as faults
use Rattle.doc_server_arguments.specs.ShownWords.{shown_word}

-- what isn't understood: the words are no command; ADDR of `listen` or of its `--status` is no address; a word is no option of its
-- command, or one that stands before already, or one that has no file behind it, no address, no seconds, or no names of groups; two
-- options that exclude each other both stand
pub data Wrong : Type 0 where
  NoCommand : Wrong
  NoAddress : Wrong
  UnknownOption : List ℕ → Wrong
  StandsTwice : List ℕ → Wrong
  NeedsFile : List ℕ → Wrong
  NeedsAddress : List ℕ → Wrong
  NeedsSeconds : Wrong
  NeedsGroups : Wrong
  JournalAndFollow : Wrong

-- the same as the code has it
abbrev pub fault_shown : UsageFault → Wrong
fault_shown faults.Command = NoCommand
fault_shown faults.Address = NoAddress
fault_shown (faults.UnknownOption word) = UnknownOption word.now
fault_shown (faults.NeedsFile word) = NeedsFile word.now
fault_shown (faults.NeedsAddress word) = NeedsAddress word.now
fault_shown faults.NeedsSeconds = NeedsSeconds
fault_shown faults.NeedsGroups = NeedsGroups
fault_shown (faults.StandsTwice word) = StandsTwice word.now
fault_shown faults.JournalAndFollow = JournalAndFollow

-- how it is told, behind `docs_server: `
abbrev pub usage_text : Wrong → List ℕ
usage_text NoCommand = codes "usage"
usage_text NoAddress = codes "ADDR is an IP address or localhost, and a port: 127.0.0.1:8080\ndocs_server: usage"
usage_text (UnknownOption word) = codes "unknown option: " ++ (shown_word word ++ codes "\ndocs_server: usage")
usage_text (StandsTwice word) = shown_word word ++ codes " stands twice\ndocs_server: usage"
usage_text (NeedsFile word) = shown_word word ++ codes " needs a file\ndocs_server: usage"
usage_text (NeedsAddress word) = shown_word word ++ codes " needs an address\ndocs_server: usage"
usage_text NeedsSeconds = codes "--watch needs seconds: 1 to 3600\ndocs_server: usage"
usage_text NeedsGroups = codes "--groups needs names of groups: a,b\ndocs_server: usage"
usage_text JournalAndFollow = codes "--journal and --follow exclude each other\ndocs_server: usage"
