-- Laws of the front of a text.
use Rattle.std.specs.Prelude.{◌≡◌}
use Rattle.doc_rules.specs.Characters.{Text}
use Rattle.doc_front.specs.Front.{none, front_of}

-- where no rule is set, a text is read as it stands
abbrev pub NoneKeeps : Type 0
NoneKeeps = (text : Text) → front_of none text ≡ text
