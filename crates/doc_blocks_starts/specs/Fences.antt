-- Fences, seen as those of the definitions (CommonMark 0.31.2, section 4.5).
use Rattle.std.specs.Prelude.{Option, Some, None, chars}
use Rattle.doc_rules.specs.Characters.{Text}
use Rattle.doc_rules.specs.LeafStarts as rules
use Rattle.doc_blocks_starts.specs.declared.fence.Fence.{Fence}
use Rattle.doc_blocks_starts.specs.declared.fence.FenceStart.{FenceStart}

-- how a fence began
abbrev pub fence_shown : Fence → rules.Fence
fence_shown fence = record { char = fence.character; length = fence.length; indent = fence.indent }

-- the fence and the info string that may be there
abbrev pub fence_start_of : Option FenceStart → Option (rules.Fence × Text)
fence_start_of None = None
fence_start_of (Some start) = Some (fence_shown start.fence, chars start.info.now)
