-- What is wrong with the value of a key, by the rule of the key: nothing where a configuration with it is taken.
use Rattle.std.specs.Prelude.{ℕ, List, Bool, true, not, bytes_eq, codes, length, nat_le, is_some, Option, Some, None, option_and_then}
use Rattle.std.specs.Prelude.{Result, Ok, Err, if◌then◌else◌}
use Rattle.std.specs.List.{find}
use Rattle.toml.specs.Data.{Data, as_array, as_bool, as_integer, as_str, as_table}
use Rattle.doc_page_parts.specs.Paths.{is_path}
use Rattle.doc_page_parts.specs.Tokens.{is_token}
use Rattle.doc_people.specs.Settings.{is_language, is_title}
use Rattle.doc_store_readers.specs.declared.groups.GroupsError.{GroupsError}
use Rattle.doc_store_readers.specs.declared.groups.GroupsError.TheVariants as refusals
use Rattle.doc_store_readers.specs.Groups.{groups_of_names, is_group}
use Rattle.doc_store_readers.specs.Keys.{digest_of_text}
use Rattle.doc_store_readers.specs.Readers.{strings_in, tables_of}
use Rattle.doc_server_config.specs.Bounds.{within}
use Rattle.doc_server_config.specs.Excepted.{are_folder_names}
use Rattle.doc_server_config.specs.FileNames.{is_prefix}
use Rattle.doc_server_config.specs.FolderRules.{nfc_of, skips_of}
use Rattle.doc_server_config.specs.Markdown.{matter_of}
use Rattle.doc_server_config.specs.MediaNames.{media_of}
use Rattle.doc_server_names.specs.Names.{is_name}
use Rattle.doc_server_lint_faults.specs.declared.rule.Form.{Form}
use Rattle.doc_server_lint_faults.specs.declared.rule.Form.TheVariants.{Any, Token, Digest, Name, PagePath, PageText, Title, Language, Home, Login}
use Rattle.doc_server_lint_faults.specs.declared.rule.Form.TheVariants.{Matter, Prefix, Names, OnBad}
use Rattle.doc_server_lint_faults.specs.declared.rule.Rule.{Rule}
use Rattle.doc_server_lint_faults.specs.declared.rule.Rule.TheVariants.{Boolean, Integer, Text, Needed, Groups, Except, Media, Table, Tables}
use Rattle.doc_server_lint_faults.specs.declared.what.Kind.TheVariants as kind
use Rattle.doc_server_lint_faults.specs.declared.what.What.{What}
use Rattle.doc_server_lint_faults.specs.declared.what.What.TheVariants.{MustBe, Bad, Missing, NoToken, NoName, NoGroup, ManyGroups, NoPath, LongText}

-- what is told of what isn't good
abbrev pub told : What → Bool → Option What
told what good = if good then None else Some what

-- ---- strings

-- whether a string is of a form
abbrev pub is_form : Form → List ℕ → Bool
is_form Any text = true
is_form Token text = is_token text
is_form Digest text = is_some (digest_of_text text)
is_form Name text = is_name text
is_form PagePath text = is_path text
is_form PageText text = nat_le (length text) 1048576
is_form Title text = is_title text
is_form Language text = is_language text
is_form Home text = is_path text
is_form Login text = bytes_eq text (codes "basic")
is_form Matter text = is_some (matter_of text)
is_form Prefix text = is_prefix text
is_form Names text = is_some (nfc_of text)
is_form OnBad text = is_some (skips_of text)

-- what is told of a string that isn't
abbrev pub form_told : Form → What
form_told Token = NoToken
form_told Name = NoName
form_told PagePath = NoPath
form_told PageText = LongText
form_told other = Bad

abbrev pub text_fault : Form → Option (List ℕ) → Option What
text_fault form None = Some (MustBe kind.Text)
text_fault form (Some text) = told (form_told form) (is_form form text)

-- ---- arrays of strings

-- what is told of the first name that is none of a group
abbrev pub group_told : Option (List ℕ) → What
group_told None = Bad
group_told (Some name) = NoGroup name

abbrev pub refused_groups : List (List ℕ) → Result (List (List ℕ)) GroupsError → Option What
refused_groups names (Ok groups) = None
refused_groups names (Err refusals.TooMany) = Some ManyGroups
refused_groups names (Err other) = Some (group_told (find (λ name. not (is_group name)) names))

abbrev pub groups_fault : Option (List (List ℕ)) → Option What
groups_fault None = Some (MustBe kind.Texts)
groups_fault (Some names) = refused_groups names (groups_of_names names)

abbrev pub except_fault : Option (List (List ℕ)) → Option What
except_fault None = Some (MustBe kind.Texts)
except_fault (Some names) = told Bad (are_folder_names names)

-- ---- values

-- the strings of a value that is an array of such
abbrev pub strings_of : Data → Option (List (List ℕ))
strings_of value = option_and_then strings_in (as_array value)

-- what is wrong with a value
abbrev pub value_fault : Rule → Data → Option What
value_fault Boolean value = told (MustBe kind.Boolean) (is_some (as_bool value))
value_fault (Integer most) value = told (MustBe (kind.Integer most)) (is_some (option_and_then (within most) (as_integer value)))
value_fault (Text form) value = text_fault form (as_str value)
value_fault (Needed form) value = text_fault form (as_str value)
value_fault Groups value = groups_fault (strings_of value)
value_fault Except value = except_fault (strings_of value)
value_fault Media value = told Bad (is_some (media_of (as_bool value) (strings_of value)))
value_fault Table value = told (MustBe kind.Table) (is_some (as_table value))
value_fault Tables value = told (MustBe kind.Tables) (is_some (tables_of (as_array value)))

-- what is wrong where the key isn't there
abbrev pub missing_fault : Rule → Option What
missing_fault (Needed form) = Some Missing
missing_fault other = None

-- what is wrong with what a key holds
abbrev pub key_fault : Rule → Option Data → Option What
key_fault rule None = missing_fault rule
key_fault rule (Some value) = value_fault rule value
