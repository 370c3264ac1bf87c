-- The ticks of a walk.
use Rattle.std.proofs.Common.{◌≡◌, ℕ, ◌*◌, ◌<◌, ◌≤◌, List, [], ◌∷◌, length, arith, ap, sym, ◌∙◌, suc, mul-suc, mul-zero, mul-le-mul_left, Option, inl, inr, zero}
use Rattle.columns_base.specs.declared.error.Error.{Error}
use Rattle.shredding.specs.Slot.{Slot}
use Rattle.shredding.specs.Shape.{Way, at_leaf, in_list, in_struct}
use Rattle.read_laws.specs.State.{Kept, kept_leaf, kept_list, kept_struct, kept_way, StateFits}
use Rattle.read_state.specs.Ticks.{TicksAtMost}
use Rattle.read_walk.specs.Pairs.{Item}
use Rattle.read_walk.specs.Steps.{CannotStep}
use Rattle.read_walk.specs.Ticks.{TicksEach}
use Rattle.read_walk.specs.Values.{Stored}
use Rattle.read_walk.proofs.Refusing.{smaller}

nodes : Way → ℕ
nodes (at_leaf n) = 1
nodes (in_list n w) = suc (nodes w)
nodes (in_struct n i w) = suc (nodes w)

parts-are-nodes : (ks : List Kept) → StateFits ks → length ks ≡ nodes (kept_way ks)
unfolding nodes
parts-are-nodes [] f = absurd f
parts-are-nodes (kept_leaf n c ∷ ks) f = ap suc f
parts-are-nodes (kept_list m starts ∷ ks) f = ap suc (parts-are-nodes ks f.3)
parts-are-nodes (kept_struct m c ∷ ks) f = ap suc (parts-are-nodes ks f.2)

-- a state of the same way has as many parts
pub as-many : (ks ks' : List Kept) → StateFits ks → StateFits ks' → kept_way ks' ≡ kept_way ks → length ks' ≡ length ks
as-many ks ks' f f' e = parts-are-nodes ks' f' ∙ (ap nodes e ∙ sym (parts-are-nodes ks f))

pub no-ticks : (parts : ℕ) (page : List Item) (n : ℕ) → TicksEach parts page page n n
no-ticks parts page n = record { least = omega arith; most = omega arith }

pub ticks-more : (parts n : ℕ) (page page' page'' : List Item) (a b c : ℕ) → TicksEach parts page page' a b → n ≡ parts → length page'' < length page' → TicksAtMost n b c → TicksEach parts page page'' a c
ticks-more parts n page page' page'' a b c t e less m =
    let step : parts * suc (length page'') ≤ parts * length page' = mul-le-mul_left parts less in
    record { least = omega (arith, t.least, m.least); most = omega (arith, t.most, m.most, e, step, mul-suc parts (length page'')) }

-- those of pairs that are refused, where pairs are left
pub last-ticks : (parts n : ℕ) (page page' : List Item) (a b c : ℕ) → TicksEach parts page page' a b → n ≡ parts → 0 < length page' → TicksAtMost n b c → TicksAtMost (parts * length page) a c
last-ticks parts n page page' a b c t e some m =
    let step : parts * suc zero ≤ parts * length page' = mul-le-mul_left parts some in
    record { least = omega (arith, t.least, m.least); most = omega (arith, t.most, m.most, e, step, mul-suc parts zero, mul-zero parts) }

pub some-left : (limit rows : ℕ) (before : Option ℕ) (page : List Item) (left : List Stored) (ks : List Kept) (slots : List Slot) (e : Error) → CannotStep limit rows before page left ks slots e → 0 < length page
some-left limit rows before page left ks slots e h = elim h [
  | inl none ↦ omega (arith, ap length none.1.1)
  | inr why ↦ omega (arith, smaller why.reps why.defs page why.rest why.takes.0 why.takes.1 why.takes.2)
]
