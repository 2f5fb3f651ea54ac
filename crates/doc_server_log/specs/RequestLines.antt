-- How the log writes methods and targets.
use Rattle.std.specs.Prelude.{ℕ, List, [], ◌∷◌, ◌++◌, Bool, false, not, ◌&&◌, ◌==◌, length, take, codes, nat_le, if◌then◌else◌}
use Rattle.std.specs.Char.{is_ascii_uppercase}
use Rattle.std.specs.List.{list_all, before_first}
use Rattle.percent_encoding.specs.Percent.{percent_encode}
use Rattle.doc_server_log.specs.declared.request_line.TheConstants.{HIDDEN}

-- a method that is written: 1 to 16 capital letters
abbrev pub is_shown : List ℕ → Bool
is_shown method = not (length method == 0) && (nat_le (length method) 16 && list_all is_ascii_uppercase method)

abbrev pub shown_method : List ℕ → List ℕ
shown_method method = if is_shown method then method else codes "-"

-- a path, controls, spaces and what isn't ASCII by their numbers, and cut behind 1,000 bytes
abbrev pub shown_path : List ℕ → List ℕ
shown_path path = percent_encode HIDDEN (take 1000 path) ++ (if nat_le (length path) 1000 then [] else codes "...")

-- whether a text begins with a slash
abbrev pub is_rooted : List ℕ → Bool
is_rooted [] = false
is_rooted (b ∷ text) = b == 47

-- what stands before the first `?`
abbrev pub before_query : List ℕ → List ℕ
before_query target = before_first (λ b. b == 63) target

-- a target without its query, where it begins with a slash
abbrev pub shown_target : List ℕ → List ℕ
shown_target target = if is_rooted (before_query target) then shown_path (before_query target) else codes "-"
