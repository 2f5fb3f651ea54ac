use Rattle.std.proofs.Common.{rules, tests, lit<}
use Rattle.std.proofs.lemmas.Iterator.Splits.{YieldsList-from_str_split}
use Rattle.std.proofs.lemmas.Iterator.Search.{all_from_yields_List}
use Rattle.doc_server_config.specs.FileNames.{is_shown_part}
use Rattle.doc_server_config.proofs.file_name.is_shown.Goals as goal

pub returns : goal.returns
returns c =
    all_from_yields_List is_shown_part _ _ _ c.all.ensures.ran
    (YieldsList-from_str_split 47 c.args.name.now (lit< tt) c.split.ensures.text c.split.ensures.has_more c.split.ensures.pattern)
    (λ x b q k. search (rules, tests))
