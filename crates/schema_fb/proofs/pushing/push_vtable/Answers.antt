use Rattle.std.proofs.Common.{◌≡◌, suc, ◌+◌, ◌*◌, ◌%◌, ◌^◌, ◌++◌, List, ℕ, length, ap, ◌∙◌, arith}
use Rattle.std.proofs.lemmas.Result.{on_ok_weaker}
use Rattle.schema_fb.specs.Layout.{slots, short_bytes, entries, vtable, table_size}
use Rattle.schema_fb.specs.Views.{cells_view}
use Rattle.schema_fb.proofs.Lengths.{vtable_rest, cells_count}
use Rattle.schema_fb.proofs.Steps.{appended, padded_appended, short_same}
use Rattle.schema_fb.proofs.pushing.push_vtable.Goals as goal

pub returns : goal.returns
returns c =
    let out = c.args.out.now.items in
    let cs = cells_view c.args.cells.now.items in
    let n = slots cs in
    let k = c.len-slots.result in
    let many : k ≡ n = c.len-slots.ensures ∙ cells_count c.args.cells.now in
    let one : short_bytes ((k * 2 % 2 ^ 64 + 4) % 2 ^ 64) ≡ short_bytes (4 + 2 * n) = short_same ((k * 2 % 2 ^ 64 + 4) % 2 ^ 64) (4 + 2 * n) (omega (arith, many)) in
    let two : short_bytes ((k * 8 % 2 ^ 64 + 8) % 2 ^ 64) ≡ short_bytes (table_size cs) = short_same ((k * 8 % 2 ^ 64 + 8) % 2 ^ 64) (8 * suc n) (omega (arith, many)) in
    let sized = c.push_short.new.out.items in
    let both = c.push_short-2.new.out.items in
    let first : sized ≡ out ++ short_bytes (4 + 2 * n) = c.in_ok-push_short.ensures ∙ ap (λ (t : List ℕ). out ++ t) one in
    let second = appended out (short_bytes (4 + 2 * n)) (short_bytes (table_size cs)) sized both first (c.in_ok-push_short-2.ensures ∙ ap (λ (t : List ℕ). sized ++ t) two) in
    let third = appended out (short_bytes (4 + 2 * n) ++ short_bytes (table_size cs)) (entries 8 cs) both c.push_entries.new.out.items second c.in_ok-push_entries.ensures in
    let size : (k * 2 % 2 ^ 64 + 4) % 2 ^ 64 % 8 ≡ length (vtable cs) % 8 = ap (λ (m : ℕ). (m * 2 % 2 ^ 64 + 4) % 2 ^ 64 % 8) many ∙ vtable_rest cs in
    on_ok_weaker c.push_gap.result (padded_appended out (vtable cs) c.push_entries.new.out.items c.push_gap.new.out.items ((k * 2 % 2 ^ 64 + 4) % 2 ^ 64) third size) c.push_gap.ensures
