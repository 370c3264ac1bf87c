use Rattle.std.proofs.Common.{◌++◌, ◌∷◌, [], length, flat_map, ◌-◌, sym, subst, arith}
use Rattle.columns_array.specs.Boxed.{boxed}
use Rattle.columns_core.specs.View.{field_view}
use Rattle.columns_slots.specs.Slots.{slots}
use Rattle.pq_headline.specs.Columns.{field_columns}
use Rattle.read_nested.specs.Joined.{IsArrayOf, CannotJoin, HaveFlatEntries}
use Rattle.read_pieces.specs.Pieces.{ArePiecesOf, leaf_types}
use Rattle.assembly.specs.Giving.{IsMade}
use Rattle.assembly.specs.Lanes.{lanes_of}
use Rattle.assembly.proofs.Given.{given, giving}
use Rattle.assembly.proofs.Items.{all_behind, are_pieces, item, made_more, slots_more, size_within}
use Rattle.assembly.proofs.Openings.{no_empty_struct}
use Rattle.assembly.proofs.Reasons.{refused, not_joined}
use Rattle.assembly.proofs.Trees.{flat_field}
use Rattle.assembly.proofs.array_iter.ArrayIter.next_array.Goals as goal

pub returns-in-Err-clause-err : goal.returns-in-Err-clause-err
returns-in-Err-clause-err g c = λ o arrays r some.
    let h = given o arrays _ (rw (← c.self.view_is) at r) in
    let lt = rw (← c.self.view_is) at some in
    refused o h.opened c.in-Err.error (c.in-Err.ensures.err (length (flat_map slots arrays)) o.rows (lanes_of o) h.tables h.reading (all_behind o h.tables arrays h.made) (omega (arith, h.left, lt)))

pub returns-in-Err-create_array-clause-err : goal.returns-in-Err-create_array-clause-err
returns-in-Err-create_array-clause-err g c = λ o arrays r some.
    let h = given o arrays _ (rw (← c.self.view_is) at r) in
    let lt = rw (← c.self.view_is) at some in
    let t = c.in-Ok.ensures.ok (length (flat_map slots arrays)) o.rows (lanes_of o) h.tables h.reading (all_behind o h.tables arrays h.made) (omega (arith, h.left, lt)) in
    let p = are_pieces o h.opened t.table c.in-Ok.pieces.items t.are in
    not_joined o (length (flat_map slots arrays)) t.table h.opened t.next c.in-Err-create_array.error
    (subst (λ f. CannotJoin f t.table c.in-Err-create_array.error) h.field
    (c.in-Err-create_array.ensures.err t.table p.entries (subst HaveFlatEntries (sym h.field) (flat_field o.field h.opened.read.nodes)) (subst (λ f. ArePiecesOf (field_columns f) (leaf_types f) t.table p.entries c.in-Ok.pieces.items) (sym h.field) p.pieces)))

pub returns-clause-ok : goal.returns-clause-ok
returns-clause-ok g c = λ o arrays r some.
    let h = given o arrays _ (rw (← c.self.view_is) at r) in
    let lt = rw (← c.self.view_is) at some in
    let t = c.in-Ok.ensures.ok (length (flat_map slots arrays)) o.rows (lanes_of o) h.tables h.reading (all_behind o h.tables arrays h.made) (omega (arith, h.left, lt)) in
    let p = are_pieces o h.opened t.table c.in-Ok.pieces.items t.are in
    let array : IsArrayOf o.field t.table p.entries (boxed c.in-Ok-create_array.array) = subst (λ f. IsArrayOf f t.table p.entries (boxed c.in-Ok-create_array.array)) h.field
    (c.in-Ok-create_array.ensures.ok t.table p.entries (subst HaveFlatEntries (sym h.field) (flat_field o.field h.opened.read.nodes)) (subst (λ f. ArePiecesOf (field_columns f) (leaf_types f) t.table p.entries c.in-Ok.pieces.items) (sym h.field) p.pieces)) in
    let is : IsMade o t.table (boxed c.in-Ok-create_array.array) = record { entries = p.entries; array = array; are = p.are } in
    let a = item o (length (flat_map slots arrays)) t.table (boxed c.in-Ok-create_array.array) h.opened t.next is in (
      a,
      giving o (arrays ++ boxed c.in-Ok-create_array.array ∷ []) _ (record {
        opened = h.opened;
        field = h.field;
        tables = h.tables ++ t.table ∷ [];
        made = made_more o h.tables arrays t.table (boxed c.in-Ok-create_array.array) h.made is;
        reading = t.reading;
        left = omega (arith, h.left, slots_more arrays (boxed c.in-Ok-create_array.array), a.count, size_within o.chunk_size (o.rows - length (flat_map slots arrays)));
      }),
    )

pub create_array-requires-clause-structs : goal.create_array-requires-clause-structs
create_array-requires-clause-structs g c = no_empty_struct (field_view c.self.inside.field) c.self.invariant.1
