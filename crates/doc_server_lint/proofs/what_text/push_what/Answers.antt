use Rattle.std.proofs.Common.{[], ◌++◌, ap, codes, refl, string_bytes, sym}
use Rattle.doc_server_lint.specs.Lines.{meant_text, named, numbered}
use Rattle.doc_server_lint.proofs.LineSteps.{of_text, of_two, of_variant}
use Rattle.doc_server_lint.proofs.what_text.push_what.Goals as goal

pub returns-in_ok-push_named-in-Unknown : goal.returns-in_ok-push_named-in-Unknown
returns-in_ok-push_named-in-Unknown c =
    of_two c.push_meant.result (string_bytes c.args.out.now) (string_bytes c.push_named-in-Unknown.new.out)
    (string_bytes c.push_meant.new.out) c.args.key.now (named (codes "unknown key `") c.args.key.now (codes "`"))
    (meant_text c.in-Unknown.other) _ _ c.in-Unknown.is refl c.in_ok-push_named-in-Unknown.ensures c.push_meant.ensures

pub returns-in-NoToken : goal.returns-in-NoToken
returns-in-NoToken c =
    of_variant c.push_named-in-NoToken.result (string_bytes c.args.out.now)
    (string_bytes c.push_named-in-NoToken.new.out) c.args.key.now _ _
    c.in-NoToken.is c.push_named-in-NoToken.ensures

pub returns-in-ShortToken : goal.returns-in-ShortToken
returns-in-ShortToken c =
    of_variant c.push.result (string_bytes c.args.out.now)
    (string_bytes c.push.new.out) c.args.key.now _ _ c.in-ShortToken.is c.push.ensures

pub returns-in_ok-push_named-in-NoGroup : goal.returns-in_ok-push_named-in-NoGroup
returns-in_ok-push_named-in-NoGroup c =
    of_two c.push_named-in-NoGroup-2.result (string_bytes c.args.out.now) (string_bytes c.push_named-in-NoGroup.new.out)
    (string_bytes c.push_named-in-NoGroup-2.new.out) c.args.key.now (named (codes "`") c.args.key.now (codes "`: \""))
    (named [] c.get.result.now (codes "\" is no name of a group")) _ _ c.in-NoGroup.is
    (ap (λ name. named (codes "`") c.args.key.now (codes "`: \"") ++ named [] name (codes "\" is no name of a group")) (sym c.get.ensures))
    c.in_ok-push_named-in-NoGroup.ensures c.push_named-in-NoGroup-2.ensures

pub returns-in-ManyGroups : goal.returns-in-ManyGroups
returns-in-ManyGroups c =
    of_variant c.push_named-in-ManyGroups.result (string_bytes c.args.out.now) (string_bytes c.push_named-in-ManyGroups.new.out)
    c.args.key.now _ _ c.in-ManyGroups.is c.push_named-in-ManyGroups.ensures

pub returns-in-NoPath : goal.returns-in-NoPath
returns-in-NoPath c =
    of_variant c.push_named-in-NoPath.result (string_bytes c.args.out.now) (string_bytes c.push_named-in-NoPath.new.out) c.args.key.now _ _
    c.in-NoPath.is c.push_named-in-NoPath.ensures

pub returns-in-Covers : goal.returns-in-Covers
returns-in-Covers c =
    of_variant c.push_numbered-in-Covers.result (string_bytes c.args.out.now) (string_bytes c.push_numbered-in-Covers.new.out)
    c.args.key.now _ _ c.in-Covers.is c.push_numbered-in-Covers.ensures

pub returns-in-ManyPages : goal.returns-in-ManyPages
returns-in-ManyPages c =
    of_variant c.push-in-ManyPages.result (string_bytes c.args.out.now) (string_bytes c.push-in-ManyPages.new.out) c.args.key.now _ _
    c.in-ManyPages.is c.push-in-ManyPages.ensures

pub returns-in_ok-push_named-in-CannotRead : goal.returns-in_ok-push_named-in-CannotRead
returns-in_ok-push_named-in-CannotRead c =
    of_two c.push_named-in-CannotRead-2.result (string_bytes c.args.out.now) (string_bytes c.push_named-in-CannotRead.new.out)
    (string_bytes c.push_named-in-CannotRead-2.new.out) c.args.key.now
    (named (codes "cannot read ") c.get-in-CannotRead.result.now (codes ": ")) (named [] c.get-in-CannotRead-2.result.now []) _ _
    c.in-CannotRead.is
    (λ i. named (codes "cannot read ") (sym c.get-in-CannotRead.ensures i) (codes ": ")
    ++ named [] (sym c.get-in-CannotRead-2.ensures i) [])
    c.in_ok-push_named-in-CannotRead.ensures c.push_named-in-CannotRead-2.ensures

pub returns-in_ok-push_named-in-PathOfPage : goal.returns-in_ok-push_named-in-PathOfPage
returns-in_ok-push_named-in-PathOfPage c =
    of_two c.push_numbered-in-PathOfPage.result (string_bytes c.args.out.now) (string_bytes c.push_named-in-PathOfPage.new.out)
    (string_bytes c.push_numbered-in-PathOfPage.new.out) c.args.key.now
    (named [] c.get-in-PathOfPage.result.now (codes ": the path of page ")) (numbered [] c.in-PathOfPage.page []) _ _ c.in-PathOfPage.is
    (ap (λ path. named [] path (codes ": the path of page ") ++ numbered [] c.in-PathOfPage.page []) (sym c.get-in-PathOfPage.ensures))
    c.in_ok-push_named-in-PathOfPage.ensures c.push_numbered-in-PathOfPage.ensures

pub returns-in_ok-push_named-in-PathOfFolder : goal.returns-in_ok-push_named-in-PathOfFolder
returns-in_ok-push_named-in-PathOfFolder c =
    of_two c.push_numbered-in-PathOfFolder.result (string_bytes c.args.out.now) (string_bytes c.push_named-in-PathOfFolder.new.out)
    (string_bytes c.push_numbered-in-PathOfFolder.new.out) c.args.key.now
    (named [] c.get-in-PathOfFolder.result.now (codes ": a page of folder ")) (numbered [] c.in-PathOfFolder.folder []) _ _
    c.in-PathOfFolder.is
    (ap (λ path. named [] path (codes ": a page of folder ") ++ numbered [] c.in-PathOfFolder.folder [])
    (sym c.get-in-PathOfFolder.ensures))
    c.in_ok-push_named-in-PathOfFolder.ensures c.push_numbered-in-PathOfFolder.ensures

pub returns-in-NameAgain : goal.returns-in-NameAgain
returns-in-NameAgain c =
    of_variant c.push_numbered-in-NameAgain.result (string_bytes c.args.out.now) (string_bytes c.push_numbered-in-NameAgain.new.out)
    c.args.key.now _ _ c.in-NameAgain.is c.push_numbered-in-NameAgain.ensures

pub returns-in-Edited : goal.returns-in-Edited
returns-in-Edited c =
    of_text c.push_named-in-Edited.result (string_bytes c.args.out.now) (string_bytes c.push_named-in-Edited.new.out) c.args.key.now
    (named [] c.get-in-Edited.result.now (codes ": an edit of the journal stands in its place")) _ _ c.in-Edited.is
    (ap (λ path. named [] path (codes ": an edit of the journal stands in its place")) (sym c.get-in-Edited.ensures))
    c.push_named-in-Edited.ensures

pub returns-in-Journal : goal.returns-in-Journal
returns-in-Journal c =
    of_text c.push_named-in-Journal.result (string_bytes c.args.out.now) (string_bytes c.push_named-in-Journal.new.out) c.args.key.now
    (named [] c.get-in-Journal.result.now []) _ _ c.in-Journal.is
    (ap (λ told. named [] told []) (sym c.get-in-Journal.ensures)) c.push_named-in-Journal.ensures

pub returns-in-ClearToken : goal.returns-in-ClearToken
returns-in-ClearToken c =
    of_variant c.push-in-ClearToken.result (string_bytes c.args.out.now)
    (string_bytes c.push-in-ClearToken.new.out) c.args.key.now _ _ c.in-ClearToken.is c.push-in-ClearToken.ensures

pub returns-in-NoName : goal.returns-in-NoName
returns-in-NoName c =
    of_variant c.push_named-in-NoName.result (string_bytes c.args.out.now) (string_bytes c.push_named-in-NoName.new.out) c.args.key.now _ _
    c.in-NoName.is c.push_named-in-NoName.ensures
