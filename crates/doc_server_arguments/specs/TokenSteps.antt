-- Options of `token` as the code has them.
use Rattle.std.specs.Prelude.{ℕ, List, [], ◌∷◌, Option, Some, None, option_copied, Result, Ok, Err, String}
use Rattle.std.specs.Borrow.{Bor}
use Rattle.doc_server_arguments.specs.declared.token_options.Given.{Given as GivenOptions}
use Rattle.doc_server_arguments.specs.declared.usage_fault.UsageFault.{UsageFault}
use Rattle.doc_server_arguments.specs.Texts.{texts}
use Rattle.doc_server_arguments.specs.TokenWords.{Given, given_by}
use Rattle.doc_server_arguments.specs.Usage.{Wrong, NeedsGroups, StandsTwice, fault_shown}

abbrev pub given_so_far : GivenOptions → Given
given_so_far given = record { is_owner = given.is_owner; groups = option_copied given.groups }

abbrev pub shown_given : Result GivenOptions UsageFault → Result Given Wrong
shown_given (Ok given) = Ok (given_so_far given)
shown_given (Err fault) = Err (fault_shown fault)

-- what is given once the words behind an option that was taken are taken too
abbrev pub with_behind : {A : Type 0} → Result (GivenOptions × Bor (List (String A))) UsageFault → Result Given Wrong
with_behind (Ok left) = given_by (given_so_far left.0) (texts left.1.now)
with_behind (Err fault) = Err (fault_shown fault)

-- the names behind an option and the words behind them, by what an earlier one gave
abbrev pub names_behind : List ℕ → Option (List ℕ) → List (List ℕ) → Result (List ℕ × List (List ℕ)) Wrong
names_behind option (Some before) behind = Err (StandsTwice option)
names_behind option None [] = Err NeedsGroups
names_behind option None (names ∷ rest) = Ok (names, rest)

abbrev pub shown_names : {A : Type 0} → Result (Bor (List ℕ) × Bor (List (String A))) UsageFault → Result (List ℕ × List (List ℕ)) Wrong
shown_names (Ok left) = Ok (left.0.now, texts left.1.now)
shown_names (Err fault) = Err (fault_shown fault)
