-- What the call `front_of` answers.
use Rattle.std.specs.Prelude.{chars}
use Rattle.doc_rules.specs.Characters.{Text}
use Rattle.doc_front.specs.declared.fronted.Fronted.{Fronted}
use Rattle.doc_front.specs.declared.fronted.Fronted.TheVariants.{Rest, Titled}

-- the characters of what is left of a text
abbrev pub text_of : Fronted → Text
text_of (Rest text) = chars text.now
text_of (Titled text) = chars text
