use Rattle.doc_server_config.specs.FolderPages.{IsFileOf}
use Rattle.doc_server_config.proofs.FolderPageSteps.{more_where_grown}
use Rattle.doc_server_config.proofs.folder_pages.add_file.Goals as goal

pub returns-in-Some : goal.returns-in-Some
returns-in-Some g c =
    more_where_grown (IsFileOf c.args.folder.now) c.push.result _ _ c.in_ok-found.field-0 c.in-Some.found c.in_ok-found.ensures c.in-Some.is
    c.push.ensures
