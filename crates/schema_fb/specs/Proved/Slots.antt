-- What stands in the slots of a table is read.
use Rattle.std.proofs.Common.{◌≡◌, ℕ, suc, ◌+◌, ◌-◌, ◌^◌, ◌<◌, ◌≤◌, Bool, true, false, cond, List, length, slice_get, Option, Some, None, IsUtf8, refl, ap, subst, ◌∙◌, arith}
use Rattle.std.proofs.lemmas.List.{length-append, append-nil}
use Rattle.schema_codec.specs.Ranges.{max_length}
use Rattle.schema_codec.specs.Spelling.{size_bytes}
use Rattle.schema_fb.specs.Layout.{Cell, absent, number, below, Cells, no_cells, more_cells, Object, text, Objects, vector, table, slots, front, table_size, object_bytes, objects_bytes, below_bytes}
use Rattle.schema_fb.specs.Places.{byte_at, short_at, word_at, follow, Table, slot, number_in, table_in, over, text_in}
use Rattle.schema_fb.specs.Reading.{truth_in, choice_in, beside}
use Rattle.schema_fb.specs.Proved.Standing.{Stands, At, InSlots, cell_word, cell_short, cell_byte, text_stands, table_stands, text_size, vector_size, table_length}
use Rattle.schema_fb.specs.Proved.Entries.{follows}

abbrev pub Small : List ℕ → Type 0
Small bytes = length bytes ≤ max_length

-- ---- readings and what they spend

-- x is read, and at most the cost is spent
abbrev pub Costs : {A : Type 0} → Option (A × ℕ) → A → ℕ → ℕ → Type 0
Costs read x left cost = (rest : ℕ) × (read ≡ Some (x, rest)) × (left ≤ rest + cost)

pub costs_more : {A : Type 0} (read : Option (A × ℕ)) (x : A) (left cost more : ℕ) → cost ≤ more → Costs read x left cost → Costs read x left more
costs_more read x left cost more le c = (c.0, c.1, omega (arith, c.2))

pub over_costs : {A B : Type 0} (f : A → B) (read : Option (A × ℕ)) (x : A) (left cost : ℕ) → Costs read x left cost → Costs (over f read) (f x) left cost
over_costs f read x left cost c = (c.0, rw (c.1) refl, c.2)

pub beside_costs : {A : Type 0} (read : Option A) (x : A) (left cost : ℕ) → read ≡ Some x → Costs (beside left read) x left cost
beside_costs read x left cost e = (left, rw e refl, omega arith)

pub costs_same : {A : Type 0} (read again : Option (A × ℕ)) (x : A) (left cost : ℕ) → again ≡ read → Costs read x left cost → Costs again x left cost
costs_same read again x left cost e c = (c.0, e ∙ c.1, c.2)

pub costs_of : {A : Type 0} (read : Option (A × ℕ)) (x y : A) (left cost : ℕ) → x ≡ y → Costs read x left cost → Costs read y left cost
costs_of {A = A} read x y left cost e c = subst (λ (z : A). Costs read z left cost) e c

-- ---- what a slot has

-- the slots from the i-th on are these cells, and what they point at stands from somewhere on
abbrev pub Slotted : List ℕ → Table → ℕ → Cells → Type 0
Slotted b t i cells = (start : ℕ) × InSlots b t i start cells

-- the number stands in the slot
abbrev pub Holds : List ℕ → Table → ℕ → ℕ → Type 0
Holds b t i n = (place : ℕ) × (slot b t i ≡ Some place) × Stands b place (size_bytes n)

-- the slot leads to the object
abbrev pub Points : List ℕ → Table → ℕ → Object → Type 0
Points b t i o = (start : ℕ) × (place : ℕ) × (slot b t i ≡ Some place) × (follow b place ≡ Some (start + front o)) × At b start o

pub more_slots : (b : List ℕ) (t : Table) (i : ℕ) (c : Cell) (cs : Cells) → Slotted b t i (more_cells c cs) → Slotted b t (suc i) cs
more_slots b t i absent cs s = (s.0, s.1.1)
more_slots b t i (number n) cs s = (s.0, s.1.3)
more_slots b t i (below o) cs s = (s.0 + length (object_bytes o), s.1.4)

pub number_slot : (b : List ℕ) (t : Table) (i n : ℕ) (cs : Cells) → Slotted b t i (more_cells (number n) cs) → Holds b t i n
number_slot b t i n cs s = (s.1.0, s.1.1, s.1.2)

pub below_slot : (b : List ℕ) (t : Table) (i : ℕ) (o : Object) (cs : Cells) → Slotted b t i (more_cells (below o) cs) → Points b t i o
below_slot b t i o cs s = (s.0, s.1.0, s.1.1, s.1.2, s.1.3)

pub absent_slot : (b : List ℕ) (t : Table) (i : ℕ) (cs : Cells) → Slotted b t i (more_cells absent cs) → slot b t i ≡ None
absent_slot b t i cs s = s.1.0

-- ---- numbers

pub byte_in : (b : List ℕ) (t : Table) (i n default : ℕ) → n < 256 → Holds b t i n → number_in byte_at default b t i ≡ Some n
byte_in b t i n default small h = rw (h.1, cell_byte b h.0 n small h.2) refl

pub short_in : (b : List ℕ) (t : Table) (i n default : ℕ) → n < 2 ^ 16 → Holds b t i n → number_in short_at default b t i ≡ Some n
short_in b t i n default small h = rw (h.1, cell_short b h.0 n small h.2) refl

pub word_in : (b : List ℕ) (t : Table) (i n default : ℕ) → n < 2 ^ 32 → Holds b t i n → number_in word_at default b t i ≡ Some n
word_in b t i n default small h = rw (h.1, cell_word b h.0 n small h.2) refl

pub truth_again : (b : List ℕ) (t : Table) (i : ℕ) (c : Bool) → Holds b t i (cond c 1 0) → truth_in b t i ≡ Some c
truth_again b t i true h = rw (byte_in b t i 1 0 (omega arith) h) refl
truth_again b t i false h = rw (byte_in b t i 0 0 (omega arith) h) refl

pub choice_again : {A : Type 0} (choices : List A) (default : ℕ) (b : List ℕ) (t : Table) (i n : ℕ) (x : A) → n < 2 ^ 16 → slice_get choices n ≡ Some x → Holds b t i n → choice_in choices default b t i ≡ Some x
choice_again choices default b t i n x small e h = rw (short_in b t i n default small h) e

-- ---- tables and texts

pub points_table : (b : List ℕ) (t : Table) (i : ℕ) (cells : Cells) → Small b → slots cells ≤ 100 → Points b t i (table cells) → (u : Table) × (table_in b t i ≡ Some u) × Slotted b u 0 cells
points_table b t i cells long few p =
    let u = table_stands b p.0 cells long few p.4 in
    (u.0, rw (p.2, p.3, u.1) refl, (p.0 + front (table cells) + table_size cells, u.2))

pub text_again : (b : List ℕ) (t : Table) (i left : ℕ) (s : List ℕ) → Small b → IsUtf8 s → length s ≤ left → Points b t i (text s) → Costs (text_in b t i left) s left (length s)
text_again b t i left s long utf8 enough p =
    (left - length s, rw (p.2, follows b p.1 p.0 p.3, text_stands b p.0 left s long utf8 enough p.4) refl, omega arith)

-- ---- how many bytes objects take

pub below_cost : (c : Cell) (cs : Cells) → length (below_bytes (more_cells c cs)) ≡ length (below_bytes (more_cells c no_cells)) + length (below_bytes cs)
below_cost absent cs = omega arith
below_cost (number n) cs = omega arith
below_cost (below o) cs = omega (arith, length-append (object_bytes o) (below_bytes cs), ap length (append-nil (object_bytes o)))

pub one_cost : (o : Object) → length (below_bytes (more_cells (below o) no_cells)) ≡ length (object_bytes o)
one_cost o = ap length (append-nil (object_bytes o))

pub table_cost : (cells : Cells) → 8 + length (below_bytes cells) ≤ length (object_bytes (table cells))
table_cost cells = omega (arith, table_length cells)

pub text_cost : (s : List ℕ) → length s ≤ length (object_bytes (text s))
text_cost s = omega (arith, text_size s)

pub vector_cost : (os : Objects) → length (objects_bytes os) ≤ length (object_bytes (vector os))
vector_cost os = omega (arith, vector_size os)
