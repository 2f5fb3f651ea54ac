use Rattle.std.proofs.Common.{◌≡◌, map, lit<}
use Rattle.std.specs.List.{slice_split}
use Rattle.std.specs.Str.Iter.{split_steps}
use Rattle.std.specs.Str.Pattern.{FindsChar}
use Rattle.std.proofs.lemmas.Iterator.Consumers.{map_from_collect}
use Rattle.std.proofs.lemmas.Iterator.Splits.{YieldsList-from_str_split}
use Rattle.std.proofs.lemmas.Result.{IfOk-at_ok}
use Rattle.doc_http_targets.specs.WrittenFolders.{is_slash}
use Rattle.doc_http_targets.proofs.written_folder.parts_of.Goals as goal

pub returns : goal.returns
returns c =
    IfOk-at_ok (λ parts. map (λ part. part.now) parts.items ≡ slice_split is_slash c.args.written.now) c.in_ok-collect.was
    (map_from_collect {steps = split_steps FindsChar (λ a b. b ≡ a)} {v = λ x. x.now} {s = c.split.result} _ c.collect.ensures.ran
    (YieldsList-from_str_split 47 c.args.written.now (lit< tt) c.split.ensures.text c.split.ensures.has_more c.split.ensures.pattern))
