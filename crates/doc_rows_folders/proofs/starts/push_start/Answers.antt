use Rattle.std.proofs.Common.{◌∷◌, ◌++◌, [], ap, sym, lit<, string_bytes, ◌∙◌}
use Rattle.std.specs.Prelude.{Some, None}
use Rattle.std.proofs.lemmas.Str.Pattern.{split_parts}
use Rattle.doc_rows_folders.specs.Starts.{start_in}
use Rattle.doc_rows_folders.proofs.TextLaws.{both_added, start_at_slash, start_of_none, start_past_slash}
use Rattle.doc_rows_folders.proofs.starts.push_start.Goals as goal

pub returns-in_default : goal.returns-in_default
returns-in_default c =
    c.in_ok-push_str.ensures.bytes
    ∙ ap (λ t. string_bytes c.args.out.now ++ t)
    (sym (start_of_none c.args.rest.now (split_parts 47 c.args.rest.now None c.in_default.ensures.cases (lit< tt))))

pub returns-then-is_empty : goal.returns-then-is_empty
returns-then-is_empty c =
    let parts = split_parts 47 c.args.rest.now (Some (c.in-Some.first, c.in-Some.more)) c.in-Some.ensures.cases (lit< tt) in
    both_added (string_bytes c.args.out.now) c.in-Some.first.now (47 ∷ []) (start_in c.args.rest.now)
    (string_bytes c.push_str-2.new.self) (string_bytes c.push_str-then-is_empty.new.self) c.in_ok-push_str-2.ensures.bytes
    c.in_ok-push_str-3.ensures.bytes
    (ap start_in parts.0
    ∙ start_at_slash c.in-Some.first.now c.in-Some.more.now parts.1 (sym c.is_empty.ensures ∙ c.if-is_empty.true))

pub returns : goal.returns
returns c =
    let parts = split_parts 47 c.args.rest.now (Some (c.in-Some.first, c.in-Some.more)) c.in-Some.ensures.cases (lit< tt) in
    both_added (string_bytes c.args.out.now) c.in-Some.first.now (48 ∷ []) (start_in c.args.rest.now)
    (string_bytes c.push_str-2.new.self) (string_bytes c.push_str-3.new.self) c.in_ok-push_str-2.ensures.bytes
    c.in_ok-push_str-4.ensures.bytes
    (ap start_in parts.0
    ∙ start_past_slash c.in-Some.first.now c.in-Some.more.now parts.1 (sym c.is_empty.ensures ∙ c.if-is_empty.false))
