-- The stack of cursors of the lazy machine.
use Rattle.std.specs.Prelude.{ℕ, ◌+◌, ◌-◌, ◌*◌, ◌≤◌, ◌<◌, List, [], ◌∷◌, ◌++◌, length, replicate}
use Rattle.shredding.specs.Parts.{IsPath, slot_count}
use Rattle.levels.specs.declared.cursors.Cursor.{Cursor}
use Rattle.levels.specs.declared.cursors.Front.{Front}
use Rattle.levels.specs.Nested.{parts_of}
use Rattle.levels.specs.Levels.{run, slot_pairs}

-- the pairs of the slots that a cursor has left, each with repetition depth
unfoldable pub cursor_pairs : Cursor → List (ℕ × ℕ)
cursor_pairs c = run (slot_pairs (parts_of c.parts.now) c.def c.depth) c.depth c.depth c.place (c.end - c.place)

-- the pairs that a stack has left: those of the deepest cursor, which stands last, come first
unfoldable pub left : List Cursor → List (ℕ × ℕ)
left [] = []
left (c ∷ cs) = left cs ++ cursor_pairs c

-- no level passes 256: a path has at most 128 parts
pub record IsLow (c : Cursor) : Type 0 where
  pub def : c.def + 2 * length c.parts.now ≤ 256
  pub depth : c.depth + length c.parts.now ≤ 128

pub record CursorFits (c : Cursor) : Type 0 where
  pub well : IsPath (parts_of c.parts.now)
  pub some : c.place < c.end
  pub within : c.end ≤ slot_count (parts_of c.parts.now)
  pub low : IsLow c

-- each cursor fits, and has fewer parts than the one before it, the first at most room
unfoldable pub CursorsFit : ℕ → List Cursor → Type 0
CursorsFit room [] = Unit {0}
CursorsFit room (c ∷ cs) = (length c.parts.now ≤ room) × CursorFits c × CursorsFit (length c.parts.now - 1) cs

-- the number of parts that a further cursor may have
unfoldable pub room_after : ℕ → List Cursor → ℕ
room_after room [] = room
room_after room (c ∷ cs) = room_after (length c.parts.now - 1) cs

-- the levels that a front stands for
abbrev pub front_levels : Front → List ℕ
front_levels f = f.first ∷ replicate f.more f.other
