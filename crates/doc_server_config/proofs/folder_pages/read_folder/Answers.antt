use Rattle.std.proofs.Common.{[]}
use Rattle.std.proofs.lemmas.List.Elements.{All-nil, All-same}
use Rattle.doc_server_config.specs.FolderPages.{IsFileOf}
use Rattle.doc_server_config.proofs.folder_pages.read_folder.Goals as goal

pub returns : goal.returns
returns g c =
    let P = IsFileOf c.args.folder.now in
    All-same P c.end-files.result.0 c.read_all.new.self.files.items c.end-files.ensures
    (c.in_ok-read_all.ensures (All-same P c.in_ok-reading.reading.files.items [] c.in_ok-reading.ensures (All-nil P)))
