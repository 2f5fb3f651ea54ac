-- A document that is read line by line, as the code keeps it.
use Rattle.std.specs.Prelude.{◌≡◌, ℕ, ◌≤◌, Bool, true, false, [], drop, vec_len, Option, Some, None}
use Rattle.doc_rules.specs.Columns.{Line}
use Rattle.doc_rules.specs.Rules.{Rules}
use Rattle.doc_rules.specs.Characters.{Text}
use Rattle.doc_rules.specs.Trees.{Situation, NoParagraph, InParagraph, LazyParagraph, InTable}
use Rattle.doc_blocks_leaves.specs.Leaves.{taken}
use Rattle.doc_blocks_leaves.specs.OpenBlocks.{leaf_takes}
use Rattle.doc_blocks.specs.declared.builder.Builder.{Builder}
use Rattle.doc_blocks.specs.LevelSteps.{stack_of, IsSound}
use Rattle.doc_blocks.specs.StateSteps.{State, shown, reached}

abbrev pub state_of : Builder → State
state_of b = record { stack = stack_of b.levels; leaf = b.leaf; refs = b.refs }

-- so many containers are open at least
pub record IsReady (b : Builder) (depth : ℕ) : Type 0 where
  pub sound : IsSound b.levels
  pub within : depth ≤ vec_len b.levels.outer

-- behind one step of what a line begins
abbrev pub IsBegun : Builder → ℕ → Option Line → Type 0
IsBegun b depth None = IsSound b.levels
IsBegun b depth (Some rest) = IsReady b depth

-- the paragraph that a line meets, by its text, whether the line went down to it, and whether a table is in it
abbrev pub situation_at : Text → (lazy table : Bool) → Situation
situation_at text true table = elim table [ true ↦ NoParagraph | false ↦ LazyParagraph ]
situation_at text false table = elim table [ true ↦ InTable | false ↦ InParagraph text ]

-- whether a line meets an open paragraph of its own containers
abbrev pub IsInParagraph : Situation → Bool → Type 0
IsInParagraph (InParagraph text) answer = answer ≡ true
IsInParagraph situation answer = answer ≡ false

-- the open leaf took a line which all open containers go on with
abbrev pub IsTaken : Rules → State → Line → State → Type 0
IsTaken rules old line new =
    (room depth : ℕ) → drop depth old.stack.outer ≡ []
    → reached depth old (leaf_takes room rules line old.stack.inner old.leaf old.stack.blank (taken line old.leaf)) ≡ shown new
