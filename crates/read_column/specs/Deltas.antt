-- Pages of deltas as plain values (Parquet format, Encodings, "Delta Encoding" and "Delta-length byte array").
use Rattle.std.specs.Prelude.{◌≡◌, ℕ, ◌+◌, Bool, true, cond, nat_eq, Ok, Err, List, [], ◌∷◌}
use Rattle.std.specs.Int.{w32, w64}
use Rattle.pq_delta_reads.specs.Sections.{SpellsNone, TurnsPlain}
use Rattle.pq_files.specs.Delta.{AreDeltas, AreDeltaLengths}
use Rattle.pq_files.specs.Page.{Encoding, plain, dictionary, delta, delta_length}
use Rattle.pq_tree.specs.Physical.{Physical, int32, int64, byte_array}
use Rattle.read_walk.specs.Pairs.{Item}
use Rattle.read_column.specs.declared.deltas.Deltas.{Deltas}
use Rattle.read_column.specs.declared.deltas.Deltas.TheVariants as D

-- as which values a column's deltas are read: by its physical type, where it is flat
abbrev pub deltas_in : Bool → Physical → Deltas
deltas_in true int32 = D.Int32
deltas_in true int64 = D.Int64
deltas_in true byte_array = D.Strings
deltas_in is_flat p = D.Unread

-- An encoding that is read, in a column where values stand in bytes of their own or not: only where they do are entries taken by their indices.
abbrev pub IsReadBy : Bool → Deltas → Encoding → Type 0
IsReadBy own k plain = Unit {0}
IsReadBy own k dictionary = own ≡ true
IsReadBy own D.Int32 delta = Unit {0}
IsReadBy own D.Int64 delta = Unit {0}
IsReadBy own D.Strings delta_length = Unit {0}
IsReadBy own k e = ⊥

-- how many pairs are at the greatest definition level, as far as they can be read
abbrev pub present_in : ℕ → List Item → ℕ
present_in top [] = 0
present_in top (Ok p ∷ is) = cond (nat_eq p.1 top) 1 0 + present_in top is
present_in top (Err e ∷ is) = 0

-- one of the pairs cannot be read
abbrev pub HasFault : List Item → Type 0
HasFault [] = ⊥
HasFault (Ok p ∷ is) = HasFault is
HasFault (Err e ∷ is) = Unit {0}

-- so many values of a section of deltas, as plain bytes
abbrev pub AreTurned : Deltas → ℕ → List ℕ → List ℕ → Type 0
AreTurned D.Unread n section values = ⊥
AreTurned D.Int32 n section values = TurnsPlain (AreDeltas w32) int32 n section [] values
AreTurned D.Int64 n section values = TurnsPlain (AreDeltas w64) int64 n section [] values
AreTurned D.Strings n section values = TurnsPlain AreDeltaLengths byte_array n section [] values

-- the section does not begin with so many
abbrev pub SpellNone : Deltas → ℕ → List ℕ → Type 0
SpellNone D.Unread n section = Unit {0}
SpellNone D.Int32 n section = SpellsNone (AreDeltas w32) n section
SpellNone D.Int64 n section = SpellsNone (AreDeltas w64) n section
SpellNone D.Strings n section = SpellsNone AreDeltaLengths n section

-- how many of the definition levels are this one
abbrev pub levels_at : ℕ → List ℕ → ℕ
levels_at top [] = 0
levels_at top (d ∷ ds) = cond (nat_eq d top) 1 0 + levels_at top ds
