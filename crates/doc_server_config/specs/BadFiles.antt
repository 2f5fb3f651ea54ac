-- Bad files of folders. All of this is this project's choice.
use Rattle.std.specs.Prelude.{ℕ, List, chars, encode_utf8, if◌then◌else◌}
use Rattle.std.specs.List.{flat_map}
use Rattle.percent_encoding.specs.Percent.{percent_encode}
use Rattle.percent_encoding.specs.declared.ascii_set.TheConstants.{CONTROLS}
use Rattle.doc_page_parts.specs.Paths.{is_control}
use Rattle.doc_server_config.specs.declared.bad_file.BadFile.{BadFile}
use Rattle.doc_server_config.specs.declared.folder.Folder.{Folder}
use Rattle.doc_server_config.specs.declared.reason.Reason.{Reason}
use Rattle.doc_server_config.specs.FileNames.{joined}

-- a character of a name as it is told: of a control character each byte as `%` and two digits
abbrev pub shown_char : ℕ → List ℕ
shown_char c = if is_control c then percent_encode CONTROLS (encode_utf8 c) else encode_utf8 c

-- the name of a file as it is told
unfoldable pub shown_name : List ℕ → List ℕ
shown_name name = flat_map shown_char (chars name)

-- the bad file of this name in a folder
abbrev pub bad_file : Folder → List ℕ → Reason → BadFile
bad_file folder name reason = record { name = shown_name (joined folder.file name); reason = reason }
