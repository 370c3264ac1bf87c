-- Which entries are written in a column, by the page table.
use Rattle.std.proofs.Common.{◌≡◌, ℕ, Bool, true, false, ◌&&◌, None, if◌then◌else◌, refl}
use Rattle.std.specs.Prelude.{◌||◌}
use Rattle.columns_core.specs.declared.types.TimeUnit.TheVariants.{Second, Millisecond, Microsecond, Nanosecond}
use Rattle.columns_core.specs.Tree.{TypeTree, t_fixed_size_binary, t_time32, t_time64}
use Rattle.pq_tree.specs.Physical.{int32, int64, byte_array}
use Rattle.schema_fit.specs.declared.page_table.Stored.TheVariants as S
use Rattle.schema_fit.specs.PageTable.{anywhere, entry_row, is_stored_length}
use Rattle.dictionary_pages.specs.Entries.{row_allows}
use Rattle.write_pages.specs.Fits.{is_entry_type, is_row_in, may_nest}

fixed_in : (flat : Bool) (n : ℕ) (b : Bool) → ((row_allows (if b then anywhere (S.Fixed n) else None) int32 || row_allows (if b then anywhere (S.Fixed n) else None) int64 || row_allows (if b then anywhere (S.Fixed n) else None) byte_array || b) && (flat || true)) ≡ is_row_in flat (if b then anywhere (S.Fixed n) else None)
fixed_in flat n true = refl
fixed_in flat n false = refl

pub row_in : (flat : Bool) (t : TypeTree) → (is_entry_type t && (flat || may_nest t)) ≡ is_row_in flat (entry_row t)
row_in flat (t_fixed_size_binary n) = fixed_in flat n (is_stored_length n)
row_in flat (t_time32 Second) = refl
row_in flat (t_time32 Millisecond) = refl
row_in flat (t_time32 Microsecond) = refl
row_in flat (t_time32 Nanosecond) = refl
row_in flat (t_time64 Second) = refl
row_in flat (t_time64 Millisecond) = refl
row_in flat (t_time64 Microsecond) = refl
row_in flat (t_time64 Nanosecond) = refl
row_in flat t = refl
