-- What a scanner repeats takes a character at least.
use Rattle.std.specs.Prelude.{codes, ◌||◌}
use Rattle.std.specs.Char.{is_ascii_alphabetic, is_ascii_alphanumeric}
use Rattle.doc_rules.specs.Characters.{one_of}
use Rattle.doc_rules.specs.Parsers.{is, one, many, ◌then◌, maybe, spacing, some_spacing}
use Rattle.doc_rules.specs.Tags.{attribute_name, attribute_value, attribute}
use Rattle.doc_rules.specs.Autolinks.{is_domain_char, is_domain_part, domain_part}
use Rattle.doc_rules.proofs.ParserLaws.{Leaves, Takes, one_takes, many_leaves, then_leaves, first_takes, second_takes, maybe_leaves}
use Rattle.doc_rules.proofs.ParserLaws.{passing_leaves, spacing_leaves, some_spacing_leaves}
use Rattle.doc_rules.proofs.GrammarLaws.{is_leaves, is_takes, attribute_value_leaves}

pub attribute_name_takes : Takes attribute_name
unfolding attribute_name
attribute_name_takes =
    first_takes (one (λ c. is_ascii_alphabetic c || one_of (codes "_:") c)) (many (λ c. is_ascii_alphanumeric c || one_of (codes "_.:-") c))
    (one_takes (λ c. is_ascii_alphabetic c || one_of (codes "_:") c))
    (many_leaves (λ c. is_ascii_alphanumeric c || one_of (codes "_.:-") c))

pub attribute_takes : Takes attribute
unfolding attribute
attribute_takes =
    first_takes (some_spacing then attribute_name) (maybe (spacing then is 61 then spacing then attribute_value))
    (second_takes some_spacing attribute_name some_spacing_leaves attribute_name_takes)
    (maybe_leaves (spacing then is 61 then spacing then attribute_value)
    (then_leaves (spacing then is 61 then spacing) attribute_value
    (then_leaves (spacing then is 61) spacing (then_leaves spacing (is 61) spacing_leaves (is_leaves 61)) spacing_leaves)
    attribute_value_leaves))

pub domain_part_leaves : Leaves domain_part
unfolding domain_part
domain_part_leaves = passing_leaves is_domain_part (many is_domain_char) (many_leaves is_domain_char)

pub further_part_takes : Takes (is 46 then domain_part)
further_part_takes = first_takes (is 46) domain_part (is_takes 46) domain_part_leaves
