-- Places inside a destination without '<' and '>' (CommonMark 0.31.2, section 6.3): what its longest run leaves, seen from there.
use Rattle.std.specs.Prelude.{◌≡◌, ◌-◌, ◌≤◌, ◌<◌, ℕ, zero, suc, length, chars, Option, Some, None, MatchOption}
use Rattle.doc_rules.specs.Characters.{Text}
use Rattle.doc_rules.specs.Parsers.{is, ◌then◌}
use Rattle.doc_rules.specs.Destinations.{balanced}
use Rattle.doc_refs_parts.specs.declared.scan.destination.Place.{Place}

-- the text behind the run that goes on here: so many parentheses are open, n more levels may open, and where one of these stays open
-- the run ends before the outermost
unfoldable pub finish : ℕ → ℕ → Text → Text → Option Text
finish zero n outermost rest = balanced n rest
finish (suc levels) n outermost rest =
    elim ((balanced n then is 41) rest) [ None ↦ Some outermost | Some behind ↦ finish levels (suc n) outermost behind ]

-- where the run ends if it goes no further
abbrev pub ends_at : ℕ → Text → Text → Text
ends_at zero outermost rest = rest
ends_at (suc levels) outermost rest = outermost

-- the two at a place; the number is this project's choice
abbrev pub run_behind : Place → Option Text
run_behind place = finish place.levels (32 - place.levels) (chars place.outermost.now) (chars place.rest.now)

abbrev pub end_of_run : Place → Text
end_of_run place = ends_at place.levels (chars place.outermost.now) (chars place.rest.now)

-- a later place of the same run, or none where it goes no further
abbrev pub IsNextPlace : Place → Option Place → Type 0
IsNextPlace place found =
    MatchOption found (Some (end_of_run place) ≡ run_behind place)
    (λ next. (run_behind next ≡ run_behind place) × (next.levels ≤ 32) × (length (chars next.rest.now) < length (chars place.rest.now)))
