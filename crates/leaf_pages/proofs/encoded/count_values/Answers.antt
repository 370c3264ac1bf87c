use Rattle.std.proofs.Common.{◌≡◌, ◌≤◌, ◌∙◌, arith, inr, refl, sym, true, true≢false}
use Rattle.columns_array.specs.Boxed.{boxed}
use Rattle.columns_core.specs.Shapes.{base}
use Rattle.columns_slots.specs.Slots.{tree_len, type_of}
use Rattle.leaf_pages.proofs.Opened.{fits, is_large, is_wide, large}
use Rattle.leaf_pages.proofs.Values.{values_told}
use Rattle.leaf_pages.specs.Columns.{column_along, is_in_pages}
use Rattle.levels.specs.Nested.{parts_of}
use Rattle.pq_files.specs.Room.{max_size, room}
use Rattle.pq_tree.specs.Views.{physical_view}
use Rattle.write_pages.proofs.PageRows.{is_past_room, room_is_past, rows_held, rows_stored}
use Rattle.write_pages.proofs.PageTable.{fits_served}
use Rattle.write_values.proofs.Made.{few_values, room_over, room_within}
use Rattle.write_values.proofs.ServedColumns.{column_stored}
use Rattle.write_values.specs.Stored.{stored_at}
use Rattle.leaf_pages.proofs.encoded.count_values.Goals as goal

pub measured-measured-requires-clause-leaf : goal.measured-measured-requires-clause-leaf
measured-measured-requires-clause-leaf c =
    let f = fits (column_along c.args.type_.now c.args.nested.now (boxed c.args.array.now)) c.requires.fits in
    sym f.array.count

pub measured-measured-requires-clause-nulls : goal.measured-measured-requires-clause-nulls
measured-measured-requires-clause-nulls c = values_told (boxed c.args.array.now) (parts_of c.args.nested.now) c.requires.values

pub measured-measured-requires-clause-served : goal.measured-measured-requires-clause-served
measured-measured-requires-clause-served c =
    let a = boxed c.args.array.now in
    let f = fits (column_along c.args.type_.now c.args.nested.now a) c.requires.fits in
    let written : is_in_pages a ≡ true = sym c.is_in_pages.ensures ∙ c.if-not-is_in_pages.false in
    fits_served true (base (type_of a)) (physical_view c.args.type_.now.physical_type) written f.physical

pub returns-then-not-has_room-clause-too_large : goal.returns-then-not-has_room-clause-too_large
returns-then-not-has_room-clause-too_large c =
    let a = boxed c.args.array.now in
    let p = physical_view c.args.type_.now.physical_type in
    let nested = c.args.nested.now in
    let stored = stored_at a p in
    let col = column_along c.args.type_.now nested a in
    let f = fits col c.requires.fits in
    let written : is_in_pages a ≡ true = sym c.is_in_pages.ensures ∙ c.if-not-is_in_pages.false in
    let served = fits_served true (base (type_of a)) p written f.physical in
    let told = values_told a (parts_of nested) c.requires.values in
    let m = c.measured-measured in
    let are = column_stored a p nested c.know.ensures served told m.ensures.within (rows_held a p nested c.know.ensures served told (λ w. c.requires.held (is_wide col w))) in
    let no : ¬ (room c.num_values.result m.result.plain ≤ max_size) = λ h. true≢false (sym (c.has_room.ensures.1 h) ∙ c.if-not-has_room.true) in
    let over = room_over p stored nested (tree_len a) c.num_values.result m.result (c.num_values.ensures stored) m.ensures no in
    inr (λ _. (written, is_large col (room_is_past a p nested c.know.ensures served told are over)), λ _. refl)

pub returns-clause-ok : goal.returns-clause-ok
returns-clause-ok c =
    let a = boxed c.args.array.now in
    let p = physical_view c.args.type_.now.physical_type in
    let nested = c.args.nested.now in
    let stored = stored_at a p in
    let m = c.measured-measured in
    let yes : room c.num_values.result m.result.plain ≤ max_size = c.has_room.ensures.0 c.if-not-has_room.false in
    let within = room_within p stored nested (tree_len a) c.num_values.result m.result (c.num_values.ensures stored) m.ensures yes in
    omega (arith, m.ensures.values, few_values p stored nested, within)

pub returns-clause-stored : goal.returns-clause-stored
returns-clause-stored c =
    let a = boxed c.args.array.now in
    let p = physical_view c.args.type_.now.physical_type in
    let nested = c.args.nested.now in
    let col = column_along c.args.type_.now nested a in
    let f = fits col c.requires.fits in
    let written : is_in_pages a ≡ true = sym c.is_in_pages.ensures ∙ c.if-not-is_in_pages.false in
    let served = fits_served true (base (type_of a)) p written f.physical in
    let told = values_told a (parts_of nested) c.requires.values in
    rows_stored a p nested c.know.ensures served told (column_stored a p nested c.know.ensures served told c.measured-measured.ensures.within (rows_held a p nested c.know.ensures served told (λ w. c.requires.held (is_wide col w))))

pub returns-clause-room : goal.returns-clause-room
returns-clause-room c =
    let a = boxed c.args.array.now in
    let p = physical_view c.args.type_.now.physical_type in
    let stored = stored_at a p in
    let m = c.measured-measured in
    let yes : room c.num_values.result m.result.plain ≤ max_size = c.has_room.ensures.0 c.if-not-has_room.false in
    room_within p stored c.args.nested.now (tree_len a) c.num_values.result m.result (c.num_values.ensures stored) m.ensures yes

pub returns-clause-few : goal.returns-clause-few
returns-clause-few c = λ values.
    let yes : room c.num_values.result c.measured-measured.result.plain ≤ max_size = c.has_room.ensures.0 c.if-not-has_room.false in
    omega (arith, yes, c.num_values.ensures values)

pub returns-clause-unserved : goal.returns-clause-unserved
returns-clause-unserved c = λ n.
    let written : is_in_pages (boxed c.args.array.now) ≡ true = sym c.is_in_pages.ensures ∙ c.if-not-is_in_pages.false in
    true≢false (sym written ∙ n)

pub returns-clause-too_large : goal.returns-clause-too_large
returns-clause-too_large c = λ h.
    let a = boxed c.args.array.now in
    let p = physical_view c.args.type_.now.physical_type in
    let nested = c.args.nested.now in
    let stored = stored_at a p in
    let col = column_along c.args.type_.now nested a in
    let f = fits col c.requires.fits in
    let served = fits_served true (base (type_of a)) p h.0 f.physical in
    let told = values_told a (parts_of nested) c.requires.values in
    let m = c.measured-measured in
    let are = column_stored a p nested c.know.ensures served told m.ensures.within (rows_held a p nested c.know.ensures served told (λ w. c.requires.held (is_wide col w))) in
    let yes : room c.num_values.result m.result.plain ≤ max_size = c.has_room.ensures.0 c.if-not-has_room.false in
    let within = room_within p stored nested (tree_len a) c.num_values.result m.result (c.num_values.ensures stored) m.ensures yes in
    omega (arith, within, is_past_room a p nested c.know.ensures served told are (large col h.1))
