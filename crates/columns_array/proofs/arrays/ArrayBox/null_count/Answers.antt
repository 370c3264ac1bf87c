use Rattle.std.proofs.Common.{◌≡◌, ◌∙◌, sym}
use Rattle.columns_array.proofs.Nulls.{all_null}
use Rattle.columns_array.proofs.arrays.ArrayBox.null_count.Goals as goal

pub returns-in-Null : goal.returns-in-Null
returns-in-Null c =
    let a = c.in-Null.a in
    rw c.in-Null.is (c.len.ensures ∙ sym (all_null a.0 a.1))
