use Rattle.std.proofs.Common.{rules}
use Rattle.std.proofs.lemmas.Str.{chars-nil, chars-IsAscii}
use Rattle.doc_inlines.proofs.EnclosedLaws.{raw_stands, raw_made, uri_made, mail_made}
use Rattle.doc_inlines.proofs.reader.Reader.put_enclosed.Goals as goal

pub put-requires-clause-stands : goal.put-requires-clause-stands
put-requires-clause-stands c = raw_stands _ _ _ c.in-Raw.html c.in-Raw.is c.requires.behind c.requires.stands

pub returns-in_ok-put-in-Raw-clause-made : goal.returns-in_ok-put-in-Raw-clause-made
returns-in_ok-put-in-Raw-clause-made c = raw_made _ c.in-Raw.html _ _ c.in-Raw.is c.in_ok-put-in-Raw.ensures.made

pub returns-in_ok-put_autolink-in-Uri-clause-made : goal.returns-in_ok-put_autolink-in-Uri-clause-made
returns-in_ok-put_autolink-in-Uri-clause-made c = uri_made _ c.in-Uri.address _ _ _ c.in-Uri.is chars-nil
    c.in_ok-put_autolink-in-Uri.ensures.made

pub returns-in_ok-put_autolink-in-Mail-clause-made : goal.returns-in_ok-put_autolink-in-Mail-clause-made
returns-in_ok-put_autolink-in-Mail-clause-made c = mail_made _ c.in-Mail.address _ _ _ c.in-Mail.is (chars-IsAscii _ (search rules))
    c.in_ok-put_autolink-in-Mail.ensures.made
