-- Tables of entities as the program reads them.
use Rattle.std.specs.Prelude.{ℕ, List, Result, Ok, Err}
use Rattle.doc_rules.specs.Rules.{Rules}
use Rattle.doc_lines.specs.Tables.{entities_of}
use Rattle.doc_lines.specs.declared.entities.TableError.{TableError}
use Rattle.doc_server_streams.specs.declared.fault.Fault.{Fault}
use Rattle.doc_server_streams.specs.declared.fault.Fault.TheVariants as faults

-- rules, or one fault for all that may be wrong with a table
abbrev pub rules_or_fault : Result Rules TableError → Result Rules Fault
rules_or_fault (Ok rules) = Ok rules
rules_or_fault (Err e) = Err faults.BadTable

-- the rules with the table of entities that a text is
abbrev pub rules_of : List ℕ → Result Rules Fault
rules_of text = rules_or_fault (entities_of text)
