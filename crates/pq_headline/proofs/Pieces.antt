-- What the arrays of a piece are.
use Rattle.std.proofs.Common.{◌≡◌, ◌-◌, ◌<◌, ◌≤◌, ℕ, List, [], ◌∷◌, length, All, Option, Some, None, sym, ap, ◌∙◌, arith}
use Rattle.columns_core.specs.Tree.{field, FieldTrees, no_fields, more_fields}
use Rattle.columns_core.specs.Shapes.{shapes_of}
use Rattle.columns_slots.specs.Slots.{tree_len, first_len, AreTyped}
use Rattle.columns_slots.specs.Tree.{ArrayTrees, no_arrays, more_arrays}
use Rattle.pq_metadata.specs.Footer.{ChunkMeta}
use Rattle.pq_tree.specs.Tree.{Leaf}
use Rattle.shredding.specs.Shape.{AreOf}
use Rattle.pq_headline.specs.Opened.{AreOpened, AreItems}
use Rattle.pq_headline.specs.Arrays.{rows_of, type_in}
use Rattle.pq_headline.specs.Openings.{Opening, piece_size}
use Rattle.pq_headline.proofs.Groups.{AreSame, first_is, chunk_slots}
use Rattle.pq_headline.proofs.RowsOf.{rows_are}

pub are_typed : (bytes : List ℕ) (place rows : ℕ) (n : Option ℕ) (fs : FieldTrees) (ls : List Leaf) (ms : List ChunkMeta) (os : List Opening) (before : ℕ) (cs : ArrayTrees) → AreOpened bytes place rows n fs ls ms os → AreItems before os cs → AreTyped fs cs
are_typed bytes place rows n no_fields ls ms [] before no_arrays o h = tt
are_typed bytes place rows n no_fields ls ms [] before (more_arrays c cs) o h = absurd h
are_typed bytes place rows n no_fields ls ms (p ∷ os) before cs o h = absurd o
are_typed bytes place rows n (more_fields f fs) ls ms [] before cs o h = absurd o
are_typed bytes place rows n (more_fields f fs) ls ms (p ∷ os) before no_arrays o h = absurd h
are_typed bytes place rows n (more_fields (field name t b m) fs) ls ms (p ∷ os) before (more_arrays c cs) o h = (sym (h.0.typed ∙ ap type_in o.6.field), are_typed bytes place rows n fs o.1 o.3 os before cs o.7 h.1)

abbrev pub HaveLen : ℕ → ArrayTrees → Type 0
HaveLen n no_arrays = Unit {0}
HaveLen n (more_arrays c cs) = (tree_len c ≡ n) × HaveLen n cs

lens : (rows : ℕ) (n : Option ℕ) (before k : ℕ) (os : List Opening) (cs : ArrayTrees) → AreSame rows n os → AreItems before os cs → k ≡ piece_size n (rows - before) → HaveLen k cs
lens rows n before k [] no_arrays s h e = tt
lens rows n before k [] (more_arrays c cs) s h e = absurd h
lens rows n before k (o ∷ os) no_arrays s h e = absurd h
lens rows n before k (o ∷ os) (more_arrays c cs) s h e = (
  h.0.count ∙ ap (λ q. piece_size q (o.rows - before)) s.1 ∙ ap (λ q. piece_size n (q - before)) s.0 ∙ sym e,
  lens rows n before k os cs s.2 h.1 e,
)

pub have_len : (rows : ℕ) (n : Option ℕ) (before : ℕ) (os : List Opening) (cs : ArrayTrees) → 0 < length os → AreSame rows n os → AreItems before os cs → HaveLen (first_len cs) cs
have_len rows n before os cs lt s h = lens rows n before (first_len cs) os cs s h (first_is rows n before os cs s h lt)

pub piece_rows : (bytes : List ℕ) (place rows : ℕ) (n : Option ℕ) (fs : FieldTrees) (ls : List Leaf) (ms : List ChunkMeta) (os : List Opening) (before : ℕ) (cs : ArrayTrees) → 0 < length os → AreOpened bytes place rows n fs ls ms os → AreItems before os cs → All (AreOf (shapes_of fs)) (rows_of cs)
piece_rows bytes place rows n fs ls ms os before cs lt o h = rows_are fs cs (chunk_slots bytes place rows n fs ls ms os before cs lt o h)

size_within : (n : Option ℕ) (left : ℕ) → piece_size n left ≤ left
size_within None left = omega arith
size_within (Some n) left = omega arith

pub within : (rows : ℕ) (n : Option ℕ) (before : ℕ) (os : List Opening) (cs : ArrayTrees) → 0 < length os → AreSame rows n os → AreItems before os cs → first_len cs ≤ rows - before
within rows n before os cs lt s h = omega (arith, first_is rows n before os cs s h lt, size_within n (rows - before))
