-- Readers who are given a token, as they are asked for. All of this is this project's choice.
use Rattle.std.specs.Prelude.{ℕ, List, Bool, Result, Ok, Err, if◌then◌else◌}
use Rattle.doc_store_readers.specs.declared.groups.GroupsError.{GroupsError}
use Rattle.doc_store_readers.specs.declared.groups.GroupsError.TheVariants as groups
use Rattle.doc_store_readers.specs.Groups.{groups_of}
use Rattle.doc_server_names.specs.Names.{is_name}
use Rattle.doc_server_token.specs.declared.fault.TokenFault.{TokenFault}
use Rattle.doc_server_token.specs.declared.fault.TokenFault.TheVariants as faults
use Rattle.doc_server_token.specs.declared.new_reader.NewReader.{NewReader}

-- what is wrong with groups that can't be read
abbrev pub groups_fault : GroupsError → TokenFault
groups_fault groups.BadGroup = faults.BadGroup
groups_fault groups.TooMany = faults.TooManyGroups
groups_fault groups.Memory = faults.Memory

-- a reader of which the groups are read
abbrev pub with_groups : List ℕ → Bool → Result (List (List ℕ)) GroupsError → Result NewReader TokenFault
with_groups name is_owner (Ok groups) = Ok (record { name = name; is_owner = is_owner; groups = groups })
with_groups name is_owner (Err error) = Err (groups_fault error)

-- the reader of this name and of groups that a text joins by commas, or the first fault: the name, then the groups
abbrev pub reader_of : List ℕ → Bool → List ℕ → Result NewReader TokenFault
reader_of name is_owner groups =
    if is_name name then with_groups name is_owner (groups_of groups) else Err faults.BadName
