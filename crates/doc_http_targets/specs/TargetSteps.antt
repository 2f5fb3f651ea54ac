-- What private functions answer: parts of the definitions in Targets, as the code takes them.
use Rattle.std.specs.Prelude.{ℕ, List, [], ◌∷◌, ◌==◌, Option, Some, None, option_and_then, if◌then◌else◌}
use Rattle.doc_http_targets.specs.Targets.{after_http, after_authority, if_rooted}

-- the part of a target of which `after_http` is known, as `origin_part` says
abbrev pub origin_part_by : List ℕ → Option (List ℕ) → Option (List ℕ)
origin_part_by target None = if_rooted target
origin_part_by target (Some rest) = if_rooted (after_authority rest)

-- the origin form of a target, where it is a part of the target: what lacks a `/` there has no route
unfoldable pub origin_part : List ℕ → Option (List ℕ)
origin_part target = origin_part_by target (after_http target)

-- what follows the first `/`, where there is one
abbrev pub after_slash : List ℕ → Option (List ℕ)
after_slash [] = None
after_slash (b ∷ rest) = if b == 47 then Some rest else after_slash rest

-- what follows the second `/`, where there is one
abbrev pub rest_of : List ℕ → Option (List ℕ)
rest_of path = option_and_then after_slash (after_slash path)
