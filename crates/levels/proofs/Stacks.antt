-- Lemmas on the stack of cursors.
use Rattle.std.proofs.Common.{◌≡◌, IfNone, MatchOption, Option, Some, None, IfSome, option_to_list, subst, ◌∙◌, ℕ, ◌+◌, ◌-◌, ◌<◌, ◌≤◌, List, [], ◌∷◌, ◌++◌, length, refl, arith, append_assoc, append-nil, zero, suc, map, replicate, ap, sym}
use Rattle.shredding.specs.Parts.{IsPath, slot_count}
use Rattle.levels.specs.declared.nested.Nested.{Nested}
use Rattle.levels.specs.declared.cursors.Cursor.{Cursor}
use Rattle.levels.specs.Nested.{parts_of}
use Rattle.levels.specs.Levels.{path_pairs, run, slot_pairs}
use Rattle.std.proofs.lemmas.List.{map-append}
use Rattle.levels.specs.declared.walk.Level.{Level}
use Rattle.levels.specs.declared.walk.Level.TheVariants.{Repetition, Definition}
use Rattle.levels.specs.Stretch.{level_of, like_pairs}
use Rattle.levels.proofs.Runs.{run-none, run-split}
use Rattle.levels.specs.Stack.{cursor_pairs, left, CursorFits, CursorsFit, room_after}

pub left-push : (cs : List Cursor) (c : Cursor) → left (cs ++ c ∷ []) ≡ cursor_pairs c ++ left cs
unfolding left
left-push [] c = rw append-nil
left-push (b ∷ cs) c = rw (left-push cs c, append_assoc)

pub CursorsFit-push : (room : ℕ) (cs : List Cursor) (c : Cursor) → CursorsFit room cs → length c.parts.now ≤ room_after room cs → CursorFits c → CursorsFit room (cs ++ c ∷ [])
unfolding CursorsFit room_after
CursorsFit-push room [] c h k f = (k, f, tt)
CursorsFit-push room (b ∷ cs) c h k f = (h.0, h.1, CursorsFit-push (length b.parts.now - 1) cs c h.2 k f)

pub room_after-push : (room : ℕ) (cs : List Cursor) (c : Cursor) → room_after room (cs ++ c ∷ []) ≡ length c.parts.now - 1
unfolding room_after
room_after-push room [] c = refl
room_after-push room (b ∷ cs) c = room_after-push (length b.parts.now - 1) cs c

pub CursorsFit-pop : (room : ℕ) (cs : List Cursor) (c : Cursor) → CursorsFit room (cs ++ c ∷ []) → CursorsFit room cs × CursorFits c × (length c.parts.now ≤ room_after room cs)
unfolding CursorsFit room_after
CursorsFit-pop room [] c h = (tt, h.1, h.0)
CursorsFit-pop room (b ∷ cs) c h =
    let below = CursorsFit-pop (length b.parts.now - 1) cs c h.2 in
    ((h.0, h.1, below.0), below.1, below.2)

pub some_part : (parts : List Nested) → IsPath (parts_of parts) → 0 < length parts
some_part [] h = absurd (omega (arith, h.some))
some_part (p ∷ parts) h = omega arith

-- a stack has at most as many cursors as the path has parts
pub length-CursorsFit : (room : ℕ) (cs : List Cursor) → CursorsFit room cs → length cs + room_after room cs ≤ room
unfolding CursorsFit room_after
length-CursorsFit room [] h = omega arith
length-CursorsFit room (c ∷ cs) h = omega (arith, h.0, some_part c.parts.now h.1.well, length-CursorsFit (length c.parts.now - 1) cs h.2)

pub cursor_pairs-none : (c : Cursor) → c.end ≤ c.place → cursor_pairs c ≡ []
unfolding cursor_pairs
cursor_pairs-none c h = run-none (slot_pairs (parts_of c.parts.now) c.def c.depth) c.depth c.depth c.place (c.end - c.place) (omega arith)

map-replicate : (f : ℕ × ℕ → ℕ) (n : ℕ) (p : ℕ × ℕ) → map f (replicate n p) ≡ replicate n (f p)
map-replicate f zero p = refl
map-replicate f (suc n) p = ap (λ xs. f p ∷ xs) (map-replicate f n p)

repetitions_of : (rep depth def count more : ℕ) → count ≡ suc more → map (level_of Repetition) (like_pairs rep depth def count) ≡ rep ∷ replicate more depth
unfolding like_pairs
repetitions_of rep depth def count more e = rw e (ap (λ xs. rep ∷ xs) (map-replicate (level_of Repetition) more (depth, def)))

definitions_of : (rep depth def count more : ℕ) → count ≡ suc more → map (level_of Definition) (like_pairs rep depth def count) ≡ def ∷ replicate more def
unfolding like_pairs
definitions_of rep depth def count more e = rw e (ap (λ xs. def ∷ xs) (map-replicate (level_of Definition) more (depth, def)))

pub repetitions-like : (level : Level) (rep depth def count : ℕ) → level ≡ Repetition → 0 < count → map (level_of level) (like_pairs rep depth def count) ≡ rep ∷ replicate (count - 1) depth
repetitions-like level rep depth def count e some = rw e (repetitions_of rep depth def count (count - 1) (omega (arith, some)))

pub definitions-like : (level : Level) (rep depth def count : ℕ) → level ≡ Definition → 0 < count → map (level_of level) (like_pairs rep depth def count) ≡ def ∷ replicate (count - 1) def
definitions-like level rep depth def count e some = rw e (definitions_of rep depth def count (count - 1) (omega (arith, some)))

-- the levels of a stretch stand before those of what is left on the stack
pub after-stretch : (level : Level) (c others : Cursor) (rep end : ℕ) (pairs : List (ℕ × ℕ)) (old put : List Cursor) → c.place < end → end ≤ c.end → others.parts.now ≡ c.parts.now → others.def ≡ c.def → others.depth ≡ c.depth → others.place ≡ end → others.end ≡ c.end → left put ≡ cursor_pairs others ++ left old → map (level_of level) (run (slot_pairs (parts_of c.parts.now) c.def c.depth) rep c.depth c.place (end - c.place)) ≡ map (level_of level) pairs → map (level_of level) (run (slot_pairs (parts_of c.parts.now) c.def c.depth) rep c.depth c.place (c.end - c.place) ++ left old) ≡ map (level_of level) pairs ++ map (level_of level) (left put)
unfolding cursor_pairs
after-stretch level c others rep end pairs old put some within ep ed ek es ee p e =
    let piece = slot_pairs (parts_of c.parts.now) c.def c.depth in
    let front = run piece rep c.depth c.place (end - c.place) in
    let back = run piece c.depth c.depth end (c.end - end) in
    let q : left put ≡ back ++ left old = rw (ep, ed, ek, es, ee) at p in
    ap (λ xs. map (level_of level) (xs ++ left old)) (run-split piece rep c.depth c.place end c.end some within)
    ∙ (ap (map (level_of level)) (append_assoc front back (left old))
    ∙ (map-append (level_of level) front (back ++ left old)
    ∙ (ap (λ xs. xs ++ map (level_of level) (back ++ left old)) e
    ∙ ap (λ xs. map (level_of level) pairs ++ map (level_of level) xs) (sym q))))

-- the same where the stretch goes on below: what stands before what is left is found there
pub below-stretch : (level : Level) (c others : Cursor) (rep end : ℕ) (pairs : List (ℕ × ℕ)) (old put new : List Cursor) (front : List ℕ) → c.place < end → end ≤ c.end → others.parts.now ≡ c.parts.now → others.def ≡ c.def → others.depth ≡ c.depth → others.place ≡ end → others.end ≡ c.end → left put ≡ cursor_pairs others ++ left old → map (level_of level) (run (slot_pairs (parts_of c.parts.now) c.def c.depth) rep c.depth c.place (end - c.place)) ≡ map (level_of level) pairs → map (level_of level) (pairs ++ left put) ≡ front ++ map (level_of level) (left new) → map (level_of level) (run (slot_pairs (parts_of c.parts.now) c.def c.depth) rep c.depth c.place (c.end - c.place) ++ left old) ≡ front ++ map (level_of level) (left new)
below-stretch level c others rep end pairs old put new front some within ep ed ek es ee p e found =
    after-stretch level c others rep end pairs old put some within ep ed ek es ee p e ∙ (sym (map-append (level_of level) pairs (left put)) ∙ found)

-- a popped cursor's levels are the first of the stack
pub taken : (level : Level) (c : Cursor) (old popped new : List Cursor) (front : List ℕ) → left old ≡ cursor_pairs c ++ left popped → map (level_of level) (run (slot_pairs (parts_of c.parts.now) c.def c.depth) c.depth c.depth c.place (c.end - c.place) ++ left popped) ≡ front ++ map (level_of level) (left new) → map (level_of level) (left old) ≡ front ++ map (level_of level) (left new)
unfolding cursor_pairs
taken level c old popped new front o h = ap (map (level_of level)) o ∙ h

pub popped-fits : (room : ℕ) (old new : List Cursor) (r : Option Cursor) → CursorsFit room old → old ≡ new ++ option_to_list r → CursorsFit room new
popped-fits room old new None h e = let n : old ≡ new = e ∙ append-nil new in subst (CursorsFit room) n h
popped-fits room old new (Some c) h e = (CursorsFit-pop room new c (subst (CursorsFit room) e h)).0

pub popped-cursor : (room : ℕ) (old new : List Cursor) (r : Option Cursor) → CursorsFit room old → old ≡ new ++ option_to_list r → IfSome r CursorFits
popped-cursor room old new None h e = tt
popped-cursor room old new (Some c) h e = (CursorsFit-pop room new c (subst (CursorsFit room) e h)).1

pub popped-below : (room : ℕ) (old new : List Cursor) (r : Option Cursor) → CursorsFit room old → old ≡ new ++ option_to_list r → IfSome r (λ c. length c.parts.now ≤ room_after room new)
popped-below room old new None h e = tt
popped-below room old new (Some c) h e = (CursorsFit-pop room new c (subst (CursorsFit room) e h)).2

pub popped-left : (old new : List Cursor) (r : Option Cursor) → old ≡ new ++ option_to_list r → IfSome r (λ c. left old ≡ cursor_pairs c ++ left new)
popped-left old new None e = tt
popped-left old new (Some c) e = rw e (left-push new c)

pub popped-none : (old new : List Cursor) (old_len new_len : ℕ) (r : Option Cursor) (Q : Cursor → Type 0) → old_len ≡ length old → new_len ≡ length new → MatchOption r ((old_len ≡ 0) × (new_len ≡ 0)) Q → IfNone r ((left old ≡ []) × (left new ≡ []))
unfolding left
popped-none [] [] m n None Q e f h = (refl, refl)
popped-none (x ∷ old) new m n None Q e f h = absurd (omega (arith, h.0))
popped-none [] (x ∷ new) m n None Q e f h = absurd (omega (arith, h.1))
popped-none old new m n (Some c) Q e f h = tt

pub CursorsFit-none : (room : ℕ) (cs : List Cursor) → cs ≡ [] → CursorsFit room cs
unfolding CursorsFit
CursorsFit-none room [] e = tt
CursorsFit-none room (c ∷ cs) e = absurd (cc)

pub room_after-none : (room : ℕ) (cs : List Cursor) → cs ≡ [] → room_after room cs ≡ room
unfolding room_after
room_after-none room cs e = rw e

-- a stack with the one cursor for all slots of a path has the pairs of the path
pub left-all : (parts : List Nested) (c : Cursor) (old new : List Cursor) → old ≡ [] → c.parts.now ≡ parts → c.def ≡ 0 → c.depth ≡ 0 → c.place ≡ 0 → c.end ≡ slot_count (parts_of parts) → left new ≡ cursor_pairs c ++ left old → left new ≡ path_pairs (parts_of parts)
unfolding left cursor_pairs path_pairs
left-all parts c old new e ep ed ek es ee h =
    let whole : slot_count (parts_of parts) - 0 ≡ slot_count (parts_of parts) = omega arith in
    rw (ep, ed, ek, es, ee, e, append-nil, whole) at h
