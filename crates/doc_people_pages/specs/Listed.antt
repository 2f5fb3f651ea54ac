-- Which headings of a page are listed beside it. This is this project's choice.
use Rattle.std.specs.Prelude.{Bool, ◌&&◌, nat_le}
use Rattle.doc_page_parts.specs.declared.rendered.Heading.{Heading}
use Rattle.doc_people.specs.Limits.{level_limit}
use Rattle.doc_people.specs.Pages.{has_text}

-- a heading has a text and isn't too deep
abbrev pub is_listed : Heading → Bool
is_listed heading = nat_le heading.level level_limit && has_text heading
