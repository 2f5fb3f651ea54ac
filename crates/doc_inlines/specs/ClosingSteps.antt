-- Brackets that a ']' closes.
use Rattle.std.specs.Prelude.{◌≡◌, Bool, true, false, List, [], ◌∷◌, ◌++◌, chars, Some, None}
use Rattle.doc_rules.specs.Characters.{Text}
use Rattle.doc_rules.specs.Rules.{Rules}
use Rattle.doc_rules.specs.Definitions.{Definition}
use Rattle.doc_rules.specs.Inlines.{onto}
use Rattle.doc_rules.specs.Links.{Tail, link_tail, last_bracket}
use Rattle.doc_rules.specs.Rests.{IsRest}
use Rattle.doc_inlines_emphasis.specs.Views.{items_of, runs_in}
use Rattle.doc_inlines.specs.declared.bracket.Bracket.{Bracket}
use Rattle.doc_inlines.specs.declared.reader.Reader.{Reader}
use Rattle.doc_inlines.specs.MadeSteps.{text_of_bracket}
use Rattle.doc_inlines.specs.DraftSteps.{AreOpen, last_of, since_of, before_of}
use Rattle.doc_inlines.specs.ReaderSteps.{IsReader, state_made}

-- the tail behind a bracket's text, where the bracket may begin a link or an image
abbrev pub tail_where : Bool → Rules → List Definition → Text → Text → Tail
tail_where live rules refs between rest = elim live [ true ↦ link_tail rules refs between rest | false ↦ None ]

-- no bracket is open, and the reader stays as it is
pub record HasNoBracket (old new : Reader) : Type 0 where
  pub same : new ≡ old
  pub none : last_bracket [] (state_made old) ≡ None

-- the last bracket is no longer among those that are open, its mark is text, and all text before the rest has a mark
pub record IsTaken (old new : Reader) (bracket : Bracket) (live : Bool) : Type 0 where
  pub text : new.text ≡ old.text
  pub rest : new.rest ≡ old.rest
  pub plain : new.plain ≡ new.rest
  pub last : last_bracket [] (state_made old) ≡ Some (last_of new.draft bracket live)
  pub made : state_made new ≡ onto (since_of new.draft bracket) (onto (text_of_bracket bracket.image) (before_of new.draft bracket))
  pub behind : IsRest (chars new.rest.now) (chars bracket.behind.now)
  pub stood : AreOpen (items_of new.draft.marks) (runs_in new.draft.marks) (new.draft.brackets.items ++ (bracket ∷ []))
  pub sound : IsReader new
