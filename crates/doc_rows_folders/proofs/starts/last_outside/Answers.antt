use Rattle.std.proofs.Common.{◌≡◌, true, false, string_bytes, rules, ◌∙◌}
use Rattle.doc_people.specs.Navigation.{is_before}
use Rattle.doc_rows_folders.specs.Starts.{end_of, last_start}
use Rattle.doc_rows_folders.proofs.TextLaws.{last_behind, last_in_front, ok_by, whole_ends}
use Rattle.doc_rows_folders.proofs.starts.last_outside.Goals as goal

pub end_of-requires : goal.end_of-requires
end_of-requires c = whole_ends c.args.folder.now c.args.text.now c.requires.outside c.requires.whole

pub returns-then-lt : goal.returns-then-lt
returns-then-lt c =
    let less : is_before c.args.text.now c.args.folder.now ≡ true = search rules in
    c.in_ok-from_str.ensures.ok ∙ last_in_front c.args.folder.now c.args.text.now c.requires.outside less

pub returns : goal.returns
returns c =
    let more : is_before c.args.text.now c.args.folder.now ≡ false = search rules in
    ok_by c.end_of.result (λ start. string_bytes start) (end_of c.args.folder.now) (last_start c.args.folder.now c.args.text.now)
    (last_behind c.args.folder.now c.args.text.now c.requires.outside more) c.end_of.ensures
