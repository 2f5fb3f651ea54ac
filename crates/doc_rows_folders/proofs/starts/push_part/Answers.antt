use Rattle.std.proofs.Common.{◌∷◌, ◌++◌, [], ap, sym, lit<, string_bytes, ◌∙◌}
use Rattle.std.specs.Prelude.{Some, None}
use Rattle.std.proofs.lemmas.Str.Pattern.{split_parts}
use Rattle.doc_people.specs.Folders.{through_slash}
use Rattle.doc_rows_folders.proofs.TextLaws.{both_added, part_of_none, part_of_split}
use Rattle.doc_rows_folders.proofs.starts.push_part.Goals as goal

pub returns-in_default : goal.returns-in_default
returns-in_default c =
    c.in_ok-push_str.ensures.bytes
    ∙ ap (λ t. string_bytes c.args.out.now ++ t)
    (sym (part_of_none c.args.rest.now (split_parts 47 c.args.rest.now None c.in_default.ensures.cases (lit< tt))))

pub returns : goal.returns
returns c =
    let parts = split_parts 47 c.args.rest.now (Some (c.in-Some.first, c.in-Some.field-0-1)) c.in-Some.ensures.cases (lit< tt) in
    both_added (string_bytes c.args.out.now) c.in-Some.first.now (47 ∷ []) (through_slash c.args.rest.now)
    (string_bytes c.push_str-2.new.self) (string_bytes c.push_str-3.new.self) c.in_ok-push_str-2.ensures.bytes
    c.in_ok-push_str-3.ensures.bytes
    (ap through_slash parts.0 ∙ part_of_split c.in-Some.first.now c.in-Some.field-0-1.now parts.1)
