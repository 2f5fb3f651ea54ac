use Rattle.std.proofs.Common.{◌≡◌, ◌++◌, chars, length, string_bytes}
use Rattle.std.specs.List.{flat_map}
use denote.Text.{Utf8}
use denote.Shadow.{shadow}
use Rattle.doc_people.specs.Snippets.{parts, written_part}
use Rattle.doc_people_search.proofs.snippets.push_parts.Given as goal

-- what was written and the rest make the whole
abbrev pub invariant-loop-part : goal.invariant-loop-part
invariant-loop-part l = record {
  is_text : shadow (Utf8 l.rest);
  same : string_bytes l.out ++ flat_map (written_part l.terms) (parts (chars l.rest))
      ≡ string_bytes l.fn.out ++ flat_map (written_part l.terms) (parts (chars l.text));
}

abbrev pub decreases-loop-part : goal.decreases-loop-part
decreases-loop-part l = length (chars l.rest)
